-- What comes to a side, and what a server commits.
use Rattle.ak_base.specs.Limits.{last_stamp, last_head_usn}
use Rattle.ak_base.specs.Rows.{IsChecked, buried_of, usn_of, with_usn}
use Rattle.ak_keep.specs.Collections.{Collection, rows_of}
use Rattle.std.specs.Prelude.{◌≡◌, ℕ, ℤ, pos, ◌+ℤ◌, ◌<ℤ◌, false, not, is_some, List, [], map, filter, Option, IfSome}
use Rattle.std.specs.List.{All}
use Rattle.std.specs.Option.{unwrap_or}
use Rattle.ak_base.specs.Heads.{IsWithin, IsMoment, IsConfInRange, IsHeadInRange}
use Rattle.ak_base.specs.declared.heads.Conf.{Conf}
use Rattle.ak_base.specs.declared.heads.Head.{Head}
use Rattle.ak_base.specs.declared.names.Name.{Name}
use Rattle.ak_base.specs.declared.rows.Row.{Row}
use Rattle.ak_keep.specs.Graves.{is_dead}
use Rattle.ak_merge.specs.Holdings.{row_under, AreNamed, AreChecked, IsSingle, tag_usn}
use Rattle.ak_merge.specs.Links.{IsGiven, AreNumbered}
use Rattle.ak_merge.specs.Tags.{IsTagName, tags_taken}
use Rattle.ak_merge.specs.Takings.{all_taken}
use Rattle.ak_merge.specs.declared.sides.Side.TheVariants.{Server}

-- ---- what comes
-- the settings of a collection and its moment of creation, which go together
pub record Settings : Type 0 where
  pub conf : Conf
  pub crt : ℤ

-- the settings and the moment of creation of a head
abbrev pub settings_of : Head → Settings
settings_of head = record { conf = head.conf; crt = head.crt }

-- what comes to a side in one session: rows, names of tags, and settings if the other side gives its own
pub record Received : Type 0 where
  pub rows : List Row
  pub tags : List (List ℕ)
  pub settings : Option Settings

-- a server's collection once this came: each row, one after the other, is taken with the head's usn, each tag that was not held is held
-- with that usn, and the settings are those that came, if some came
abbrev pub with_received : Received → Collection → Collection
with_received came c =
    let settings = unwrap_or came.settings (settings_of c.head) in
    record {
      rows = all_taken Server c.head.usn came.rows c.rows;
      head = record c.head { tags = tags_taken c.head.usn came.tags c.head.tags; conf = settings.conf; crt = settings.crt };
    }

-- ---- a server's commit
-- what a server's collection is once it took what came, whatever that is, and was committed
pub record IsCommitOf (came : Received) (before after : Collection) : Type 0 where
  -- it has the rows, the tags and the settings of the one before once that took what came
  pub rows : after.rows ≡ (with_received came before).rows
  pub tags : after.head.tags ≡ (with_received came before).head.tags
  pub settings : settings_of after.head ≡ settings_of (with_received came before).head
  -- the usn that the next sync gives is one higher
  pub usn : after.head.usn ≡ before.head.usn +ℤ pos 1
  -- the schema and the moment of the last sync are the same, and the collection was changed later
  pub schema : after.head.schema ≡ before.head.schema
  pub last_sync : after.head.last_sync ≡ before.head.last_sync
  pub moment : before.head.moment <ℤ after.head.moment

-- what a server tests before it commits what came, at this moment: all of it is in its ranges
pub record IsInRange (came : Received) (s : Collection) (at : ℤ) : Type 0 where
  pub rows : All IsChecked came.rows
  pub tags : All IsTagName came.tags
  pub conf : IfSome came.settings (λ settings. IsConfInRange settings.conf)
  pub crt : IfSome came.settings (λ settings. IsWithin (pos 0) last_stamp settings.crt)
  pub usn : s.head.usn <ℤ last_head_usn
  pub moment : IsMoment at

-- what a server keeps of its committed collection: each row stands under its name and in its ranges, none beside its own grave, each
-- row and tag has a usn from 0 to below the head's, and the head is in its ranges
pub record IsCommitted (s : Collection) : Type 0 where
  pub named : AreNamed (row_under s)
  pub checked : AreChecked (row_under s)
  pub single : IsSingle (row_under s)
  pub given : AreNumbered IsGiven s
  pub head : IsHeadInRange s.head

-- ---- whole collections
-- what a server holds that no device has synced with: each row and tag has the usn 0, no grave is held, and the next sync gives 1
pub record IsOpening (s : Collection) : Type 0 where
  pub rows : (name : Name) → IfSome (row_under s name) (λ row. usn_of row ≡ pos 0)
  pub tags : (name : List ℕ) → IfSome (tag_usn s.head.tags name) (λ number. number ≡ pos 0)
  pub graves : (name : Name) → is_dead (row_under s) name ≡ false
  pub usn : s.head.usn ≡ pos 1

-- what a download of s leaves: its rows and its head, with the last sync at its moment
pub record IsCopyOf (s c : Collection) : Type 0 where
  pub rows : c.rows ≡ s.rows
  pub head : c.head ≡ record s.head { last_sync = s.head.moment }

-- what an upload brings: all rows, the names of all tags, the settings, and the schema moment and the moment of the device's collection
pub record Whole : Type 0 where
  pub rows : List Row
  pub tags : List (List ℕ)
  pub settings : Settings
  pub schema : ℤ
  pub moment : ℤ

-- the rows of an upload as a server holds them: those that are no graves, each with the usn 0
abbrev pub uploaded_rows : List Row → List Row
uploaded_rows rows = map (λ (row : Row). with_usn row (pos 0)) (filter (λ (row : Row). not (is_some (buried_of row))) rows)

-- what a server's collection is once an upload took its place
pub record IsUploadOf (came : Whole) (before after : Collection) : Type 0 where
  -- the rows but the graves, and the tags, all with the usn 0, and the settings
  pub rows : after.rows ≡ rows_of (uploaded_rows came.rows)
  pub tags : after.head.tags ≡ tags_taken (pos 0) came.tags []
  pub settings : settings_of after.head ≡ came.settings
  -- the next sync gives 1, and the moment of the last sync is the same
  pub usn : after.head.usn ≡ pos 1
  pub last_sync : after.head.last_sync ≡ before.head.last_sync
  -- the schema moment and the moment are over those of both
  pub schema : before.head.schema <ℤ after.head.schema
  pub their_schema : came.schema <ℤ after.head.schema
  pub moment : before.head.moment <ℤ after.head.moment
  pub their_moment : came.moment <ℤ after.head.moment

-- what a server tests before it takes an upload, with the schema moment and the moment that it gives: all of it is in its ranges
pub record IsWholeInRange (came : Whole) (new_schema new_moment : ℤ) : Type 0 where
  pub rows : All IsChecked came.rows
  pub tags : All IsTagName came.tags
  pub conf : IsConfInRange came.settings.conf
  pub crt : IsWithin (pos 0) last_stamp came.settings.crt
  pub schema : IsMoment new_schema
  pub moment : IsMoment new_moment
