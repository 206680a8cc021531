-- A collection: a finite map from names to rows, and a head.
use Rattle.std.specs.Prelude.{◌≡◌, ℕ, ℤ, pos, negsuc, Bool, false, not, ◌&&◌, ◌==◌, ◌<◌, int_lt, List, [], ◌∷◌, ◌++◌, map, filter, length, take, IsTrue, ⊤, Option, Some, is_some, IfSome}
use Rattle.std.specs.FinMap.{FinMap, entries, keys, from_entries, insert, remove}
use Rattle.std.specs.List.{AllByRecursion}
use Rattle.std.specs.Option.{option_map}
use Rattle.std.specs.Ordering.{int_eq}
use Rattle.ak_base.specs.Names.{name_cmp, table_place}
use Rattle.ak_base.specs.Rows.{IsChecked, name_of, usn_of}
use Rattle.ak_base.specs.Heads.{IsHeadInRange, IsWithin}
use Rattle.ak_base.specs.Limits as limits
use Rattle.ak_base.specs.declared.heads.Head.{Head}
use Rattle.ak_base.specs.declared.names.Name.{Name}
use Rattle.ak_base.specs.declared.names.Table.{Table}
use Rattle.ak_base.specs.declared.rows.Row.{Row}
use Rattle.ak_base.specs.declared.rows.Row.TheVariants as rows
use Rattle.ak_keep.specs.declared.keepers.Wanted.{Wanted}
use Rattle.ak_keep.specs.declared.keepers.Wanted.TheVariants.{Unsent, From}

-- the rows of a collection, each under its name
abbrev pub Rows : Type 0
Rows = FinMap name_cmp Row

-- each row is held under its own name
abbrev pub StandsUnderNames : Rows → Type 0
StandsUnderNames rows = AllByRecursion (λ entry. name_of entry.1 ≡ entry.0) (entries rows)

-- these rows, each under its name; if two have one name, the first of them stays
abbrev pub rows_of : List Row → Rows
rows_of rows = from_entries (map (λ row. (name_of row, row)) rows)

-- a name of this table with an id over `past`
abbrev pub is_past : Table → ℤ → Name → Bool
is_past table past name = (table_place name.table == table_place table) && int_lt past name.id

-- the rows of a table with ids over `past`, by ascending id
abbrev pub rows_past : Table → ℤ → Rows → List Row
rows_past table past rows = map (λ entry. entry.1) (filter (λ entry. is_past table past entry.0) (entries rows))

-- the id of the last row, and `past` if there is none
abbrev pub last_id : ℤ → List Row → ℤ
last_id past [] = past
last_id past (row ∷ rows) = last_id (name_of row).id rows

-- rows of a table by ascending id, from over `past` on
abbrev pub AscendsPast : Table → ℤ → List Row → Type 0
AscendsPast table past [] = ⊤
AscendsPast table past (row ∷ rows) = IsTrue (is_past table past (name_of row)) × AscendsPast table (name_of row).id rows

-- a row that was not sent yet
abbrev pub is_pending : Row → Bool
is_pending row = int_eq (usn_of row) (negsuc 0)

-- a row that a sync gave its usn
abbrev pub is_settled : Row → Bool
is_settled row = not (is_pending row)

-- a row that was not sent yet, or one whose usn is at least this number
abbrev pub is_wanted : Wanted → Row → Bool
is_wanted Unsent row = is_pending row
is_wanted (From usn) row = not (int_lt (usn_of row) usn)

-- the wanted rows of a table with ids over `past`, by ascending id
abbrev pub wanted_past : Table → Wanted → ℤ → Rows → List Row
wanted_past table want past rows = filter (is_wanted want) (rows_past table past rows)

-- how many rows a table has
abbrev pub row_count : Table → Rows → ℕ
row_count table rows = length (filter (λ name. table_place name.table == table_place table) (keys rows))

-- whether a row is a card of this note
abbrev pub is_card_of : ℤ → Row → Bool
is_card_of note (rows.Note n) = false
is_card_of note (rows.Card c) = int_eq c.nid note
is_card_of note (rows.Review r) = false
is_card_of note (rows.NoteType t) = false
is_card_of note (rows.Deck d) = false
is_card_of note (rows.Options o) = false
is_card_of note (rows.Grave g) = false

-- the ids of a note's cards among entries
abbrev pub cards_among : ℤ → List (Name × Row) → List ℤ
cards_among note es = map (λ (entry : Name × Row). entry.0.id) (filter (λ (entry : Name × Row). is_card_of note entry.1) es)

-- the ids of a note's cards, in ascending order
abbrev pub cards_of : ℤ → Rows → List ℤ
cards_of note rows = cards_among note (entries rows)

-- an id of a row
abbrev pub IsId : ℤ → Type 0
IsId id = IsWithin (pos 1) limits.last_id id

-- a page of all that comes past an id: its first `limit` rows. A page that is not full is all of it, and after each
-- page comes what is past its last row
pub record IsPageOf (all : ℤ → List Row) (past : ℤ) (limit : ℕ) (page : List Row) : Type 0 where
  pub rows : page ≡ take limit (all past)
  pub whole : length page < limit → all past ≡ page
  pub rest : all past ≡ page ++ all (last_id past page)

-- ---- the collection
-- a collection: its rows by name, and its head
pub record Collection : Type 0 where
  pub rows : Rows
  pub head : Head

-- what a keeper holds: rows by name, and a head, None if there is no collection
pub record Holding : Type 0 where
  pub rows : Rows
  pub head : Option Head

-- whether a head is held
abbrev pub is_headed : Holding → Bool
is_headed h = is_some h.head

-- the collection that is held, if there is one
abbrev pub collection_of : Holding → Option Collection
collection_of h = option_map (λ (head : Head). record { rows = h.rows; head = head }) h.head

-- each row is held under its own name, and all of it is in its ranges
pub record IsWellFormed (h : Holding) : Type 0 where
  pub named : StandsUnderNames h.rows
  pub checked : AllByRecursion (λ entry. IsChecked entry.1) (entries h.rows)
  pub head : IfSome h.head IsHeadInRange

-- with this row under its name
abbrev pub with_row : Row → Holding → Holding
with_row row h = record h { rows = insert h.rows (name_of row) row }

-- without the row of this name
abbrev pub without : Name → Holding → Holding
without name h = record h { rows = remove h.rows name }

-- with this head
abbrev pub with_head : Head → Holding → Holding
with_head head h = record h { head = Some head }

-- with these moments and usns in the head that is held
abbrev pub with_moments : ℤ → ℤ → ℤ → ℤ → Holding → Holding
with_moments moment schema usn last_sync h =
    record h { head = option_map (λ (head : Head). record head { moment = moment; schema = schema; usn = usn; last_sync = last_sync }) h.head }

-- these rows, and this head
abbrev pub made_of : List Row → Head → Holding
made_of rows head = record { rows = rows_of rows; head = Some head }
