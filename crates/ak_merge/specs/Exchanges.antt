-- What a device's collection and a server's are once each gave the other what that lacks: the server's half, and the device's.
use Rattle.ak_base.specs.declared.names.Table.{Table}
use Rattle.ak_keep.specs.Collections.{Rows, Collection, is_pending, is_wanted}
use Rattle.std.specs.Prelude.{◌≡◌, ℕ, ℤ, pos, negsuc, ◌+ℤ◌, ◌<ℤ◌, Bool, false, not, int_lt, if◌then◌else◌, IsTrue, List, map, filter, Option, Some, None, ◌⊎◌}
use Rattle.std.specs.FinMap.{get}
use Rattle.std.specs.List.{All, Contains}
use Rattle.std.specs.Option.{option_map, option_map_or, option_and_then, unwrap_or}
use Rattle.std.specs.Ordering.{int_eq}
use Rattle.ak_base.specs.Rows.{name_of, with_usn}
use Rattle.ak_base.specs.declared.heads.Head.{Head}
use Rattle.ak_base.specs.declared.heads.Tag.{Tag}
use Rattle.ak_base.specs.declared.names.Name.{Name}
use Rattle.ak_base.specs.declared.rows.Row.{Row}
use Rattle.ak_keep.specs.declared.keepers.Wanted.{Wanted}
use Rattle.ak_keep.specs.declared.keepers.Wanted.TheVariants.{Unsent, From}
use Rattle.ak_merge.specs.Commits.{Settings, Received, IsCommitOf, settings_of}
use Rattle.ak_keep.specs.Graves.{RowsByName}
use Rattle.ak_merge.specs.Holdings.{row_under, AreNamed, AreChecked, IsSingle, tag_usn, content_of, SameContent}
use Rattle.ak_merge.specs.Joins.{join}
use Rattle.ak_merge.specs.Links.{IsGiven, AreNumbered, AreLinkedParts}
use Rattle.ak_merge.specs.Tags.{has_name, tags_taken}
use Rattle.ak_merge.specs.Takings.{all_taken}
use Rattle.ak_merge.specs.declared.sides.Side.TheVariants.{Device, Server}

-- ---- what is given
-- what stands under each name of the rows that are wanted
abbrev pub wanted_under : Wanted → RowsByName → RowsByName
wanted_under want at name = option_and_then (λ (row : Row). if is_wanted want row then Some row else None) (at name)

-- a row of this table that is wanted and stands under its name
pub record StandsWanted (table : Table) (want : Wanted) (held : Rows) (row : Row) : Type 0 where
  pub of_table : (name_of row).table ≡ table
  pub wanted : IsTrue (is_wanted want row)
  pub stands : get held (name_of row) ≡ Some row

-- each of these rows stands there
abbrev pub AreOf : RowsByName → List Row → Type 0
AreOf at rows = All (λ row. at (name_of row) ≡ Some row) rows

-- what a side gives of what is wanted: rows that stand there, among them each that still stands once the side has taken what
-- came to it. Of one that was replaced or buried meanwhile it makes no difference
pub record IsSent (sent : List Row) (at after : RowsByName) : Type 0 where
  pub each : AreOf at sent
  pub whole : (name : Name) (row : Row) → at name ≡ Some row → after name ≡ Some row → Contains sent row

-- whether the tag that has this usn, if one has, was not sent yet
abbrev pub is_unsent_tag : Option ℤ → Bool
is_unsent_tag number = option_map_or (λ (usn : ℤ). int_eq usn (negsuc 0)) number false

-- the tags that were not sent yet
abbrev pub unsent_tags : List Tag → List ℕ → Bool
unsent_tags tags name = is_unsent_tag (tag_usn tags name)

-- whether there is a usn, of at least so much
abbrev pub is_tag_from : ℤ → Option ℤ → Bool
is_tag_from usn number = option_map_or (λ (own : ℤ). not (int_lt own usn)) number false

-- the tags with at least this usn
abbrev pub tags_from : ℤ → List Tag → List ℕ → Bool
tags_from usn tags name = is_tag_from usn (tag_usn tags name)

-- whether a usn is wanted: not sent yet, or at least so much
abbrev pub is_wanted_number : Wanted → ℤ → Bool
is_wanted_number Unsent number = int_eq number (negsuc 0)
is_wanted_number (From usn) number = not (int_lt number usn)

-- the names of the tags whose usn is wanted, in their order
abbrev pub wanted_tags : Wanted → List Tag → List (List ℕ)
wanted_tags want tags = map (λ (tag : Tag). tag.name) (filter (λ (tag : Tag). is_wanted_number want tag.usn) tags)

-- the settings that the device gives: its own if it was changed after the server was
abbrev pub settings_sent : Head → Head → Option Settings
settings_sent device server = if int_lt server.moment device.moment then Some (settings_of device) else None

-- the settings that the server gives: its own unless the device was changed after the server was
abbrev pub settings_given : Head → Head → Option Settings
settings_given device server = if int_lt server.moment device.moment then None else Some (settings_of server)

-- ---- what is settled
-- with this usn if it was not sent yet
abbrev pub settled : ℤ → Row → Row
settled usn row = if is_pending row then with_usn row usn else row

-- any of what stood there and was not sent yet has this usn already, and the rest is as it was
abbrev pub IsPartSettled : ℤ → RowsByName → RowsByName → Type 0
IsPartSettled usn at early = (name : Name) → (early name ≡ at name) ⊎ (early name ≡ option_map (settled usn) (at name))

-- this usn for that of what was not sent yet
abbrev pub settled_number : ℤ → ℤ → ℤ
settled_number usn number = if int_eq number (negsuc 0) then usn else number

-- a tag with this usn if it was not sent yet
abbrev pub settled_tag : ℤ → Tag → Tag
settled_tag usn tag = record { name = tag.name; usn = settled_number usn tag.usn }

-- the tags, those that were not sent yet with this usn
abbrev pub settled_tags : ℤ → List Tag → List Tag
settled_tags usn tags = map (settled_tag usn) tags

-- ---- the rows that go each way
-- a device's collection c and a server's s are linked by all six parts, and each row of the two stands under its name, in its ranges
pub record MayExchange (c s : Collection) : Type 0 where
  pub linked : AreLinkedParts c s
  pub named : AreNamed (row_under c)
  pub their_named : AreNamed (row_under s)
  pub checked : AreChecked (row_under c)
  pub their_checked : AreChecked (row_under s)

-- a linked device c sends rows to a server s, once the rows that it got came to it, which are any of what the server has for it
pub record ComesToServer (usn : ℤ) (got sent : List Row) (c s : Collection) : Type 0 where
  pub linked : AreLinkedParts c s
  pub named : AreNamed (row_under c)
  pub gives : AreOf (wanted_under (From c.head.usn) (row_under s)) got
  pub sends : IsSent sent (wanted_under Unsent (row_under c)) (get (all_taken Device usn got c.rows))

-- a server s gives rows to a linked device c, once the rows that the device sent came to it, which are any of what that has for it
pub record ComesToDevice (usn : ℤ) (got sent : List Row) (c s : Collection) : Type 0 where
  pub may : MayExchange c s
  pub sends : AreOf (wanted_under Unsent (row_under c)) sent
  pub gives : IsSent got (wanted_under (From c.head.usn) (row_under s)) (get (all_taken Server usn sent s.rows))

-- ---- the two halves
-- what the server's collection s is after it took what the device c sent, once rows of its own came to the device, and was committed as t
pub record IsServerHalf (got sent : Received) (c s t : Collection) : Type 0 where
  -- what came to the device are rows of the server's with at least the device's usn
  pub gives : AreOf (wanted_under (From c.head.usn) (row_under s)) got.rows
  -- the device gives its rows and its tags that were not sent yet, and its settings if it was changed last
  pub sends : IsSent sent.rows (wanted_under Unsent (row_under c)) (get (all_taken Device s.head.usn got.rows c.rows))
  pub tags : (name : List ℕ) → has_name sent.tags name ≡ unsent_tags c.head.tags name
  pub settings : sent.settings ≡ settings_sent c.head s.head
  -- the server commits them, at a moment that is also over the device's
  pub commits : IsCommitOf sent s t
  pub moment : c.head.moment <ℤ t.head.moment

-- what the device's collection c is, as d, once it took what the server s gave and settled what it sent, t being what the server committed
pub record IsDeviceHalf (got sent : Received) (c s d t : Collection) : Type 0 where
  -- what was sent to the server are rows of the device's that were not sent yet
  pub sends : AreOf (wanted_under Unsent (row_under c)) sent.rows
  -- the server gives its rows and its tags with at least the device's usn, and its settings unless the device was changed last
  pub gives : IsSent got.rows (wanted_under (From c.head.usn) (row_under s)) (get (all_taken Server s.head.usn sent.rows s.rows))
  pub tags_given : (name : List ℕ) → has_name got.tags name ≡ tags_from c.head.usn s.head.tags name
  pub gives_settings : got.settings ≡ settings_given c.head s.head
  -- the device takes them with the server's usn, and gives that usn to each row and tag that was not sent yet
  pub rows : (name : Name) → row_under d name ≡ option_map (settled s.head.usn) (get (all_taken Device s.head.usn got.rows c.rows) name)
  pub tags : d.head.tags ≡ settled_tags s.head.usn (tags_taken s.head.usn got.tags c.head.tags)
  pub settings : settings_of d.head ≡ unwrap_or got.settings (settings_of c.head)
  -- its usn is the server's plus 1, and its moment and that of its last sync are the moment that the server committed at
  pub usn : d.head.usn ≡ s.head.usn +ℤ pos 1
  pub moment : d.head.moment ≡ t.head.moment
  pub last_sync : d.head.last_sync ≡ t.head.moment
  -- its schema moment stays
  pub schema : d.head.schema ≡ c.head.schema

-- both halves
pub record IsExchange (got sent : Received) (c s d t : Collection) : Type 0 where
  pub server : IsServerHalf got sent c s t
  pub device : IsDeviceHalf got sent c s d t

-- ---- what an exchange leaves
-- t has the content of the join of a device's c and a server's s, is numbered as a server's is, and was changed after both
pub record HoldsJoin (c s t : Collection) : Type 0 where
  pub content : SameContent (content_of t) (join c s)
  pub given : AreNumbered IsGiven t
  pub single : IsSingle (row_under t)
  pub named : AreNamed (row_under t)
  pub usn : t.head.usn ≡ s.head.usn +ℤ pos 1
  pub past_device : c.head.moment <ℤ t.head.moment
  pub past_server : s.head.moment <ℤ t.head.moment

-- the two are linked, with one content: the join of what they had been. In both each row stands under its name, and the device's last
-- sync is at the server's moment
pub record AreExchanged (c s d t : Collection) : Type 0 where
  pub linked : AreLinkedParts d t
  pub same : SameContent (content_of d) (content_of t)
  pub device : SameContent (content_of d) (join c s)
  pub server : SameContent (content_of t) (join c s)
  pub named : AreNamed (row_under d)
  pub their_named : AreNamed (row_under t)
  pub last_sync : d.head.last_sync ≡ t.head.moment
  pub past_device : c.head.moment <ℤ t.head.moment
  pub past_server : s.head.moment <ℤ t.head.moment
