-- What a device sent is settled once its request was granted: it gets the server's usn, which says so.
use Rattle.std.specs.FinMap.{get, insert}
use Rattle.std.specs.Option.{option_map, option_map_or}
use Rattle.std.specs.Prelude.{◌≡◌, ℤ, Bool, true, false, IfSome, List, [], ◌∷◌, map, ⊤}
use Rattle.ak_base.specs.Rows.{name_of}
use Rattle.ak_base.specs.declared.heads.Head.{Head}
use Rattle.ak_base.specs.declared.names.Name.{Name}
use Rattle.ak_base.specs.declared.names.Table.{Table}
use Rattle.ak_base.specs.declared.rows.Row.{Row}
use Rattle.ak_device.specs.Devices.{received}
use Rattle.ak_keep.specs.Collections.{Holding, Rows}
use Rattle.ak_keep.specs.Keepers.{Keeping, WhereTold}
use Rattle.ak_keep.specs.declared.keepers.Wanted.TheVariants.{Unsent}
use Rattle.ak_merge.specs.Commits.{Received}
use Rattle.ak_merge.specs.Exchanges.{settled, settled_tags, wanted_tags}
use Rattle.ak_messages.specs.declared.requests.Ask.{Ask}
use Rattle.ak_messages.specs.declared.requests.Ask.TheVariants as asks
use Rattle.ak_session.specs.Asks.{brought}

-- ---- rows
-- rows once the one under this name has this usn, if one stands there and was not sent yet
abbrev pub settled_at : ℤ → Name → Rows → Rows
settled_at usn name held = option_map_or (λ (row : Row). insert held name (settled usn row)) (get held name) held

-- the same under each of these names
abbrev pub settled_under : ℤ → List Name → Rows → Rows
settled_under usn [] held = held
settled_under usn (name ∷ more) held = settled_under usn more (settled_at usn name held)

-- the same of all that is held
abbrev pub with_settled : ℤ → Name → Holding → Holding
with_settled usn name h = record h { rows = settled_at usn name h.rows }

-- the same under each of these names
abbrev pub with_all_settled : ℤ → List Name → Holding → Holding
with_all_settled usn names h = record h { rows = settled_under usn names h.rows }

-- the names of these rows
abbrev pub names_of : List Row → List Name
names_of rows = map (λ (row : Row). name_of row) rows

-- the names of a table with these ids
abbrev pub names_in : Table → List ℤ → List Name
names_in table ids = map (λ (id : ℤ). record { table = table; id = id }) ids

-- ---- a head
-- a head whose tags that were not sent yet have this usn
abbrev pub tags_settled : ℤ → Head → Head
tags_settled usn head = record head { tags = settled_tags usn head.tags }

-- what is held, with the tags of its head settled so
abbrev pub with_tags_settled : ℤ → Holding → Holding
with_tags_settled usn h = record h { head = option_map (tags_settled usn) h.head }

-- ---- what a request sent
-- the names of the rows that it sends
abbrev pub names_sent : Ask → List Name
names_sent ask = names_of (brought ask).rows

-- whether a request brings changes
abbrev pub is_changes : Ask → Bool
is_changes (asks.ApplyChanges changes) = true
is_changes ask = false

-- changes name all tags that were not sent yet of what a keeper tells. Other requests bring no tags
abbrev pub NamesUnsentTags : Ask → Keeping → Type 0
NamesUnsentTags (asks.ApplyChanges changes) k = WhereTold k (λ h. IfSome h.head (λ head. changes.tags ≡ wanted_tags Unsent head.tags))
NamesUnsentTags ask k = ⊤

-- a head once what this request sent is settled: of changes these are all tags that were not sent yet, since changes name each of them and
-- what their reply brings has a usn
abbrev pub head_settled : ℤ → Ask → Head → Head
head_settled usn (asks.ApplyChanges changes) head = tags_settled usn head
head_settled usn ask head = head

-- what a device holds once what this request sent is settled: the rows under the names that it has, and its tags
abbrev pub settled_by : ℤ → Ask → Holding → Holding
settled_by usn ask h = record { rows = settled_under usn (names_sent ask) h.rows; head = option_map (head_settled usn ask) h.head }

-- the same of requests, one after the other
abbrev pub all_settled_by : ℤ → List Ask → Holding → Holding
all_settled_by usn [] h = h
all_settled_by usn (ask ∷ more) h = all_settled_by usn more (settled_by usn ask h)

-- what a device holds once this came to it, which was taken with this usn, and what these requests sent was settled
abbrev pub taken_and_settled : ℤ → Received → List Ask → Holding → Holding
taken_and_settled usn came sent h = all_settled_by usn sent (received usn came h)
