-- What is held, seen with the changes of an edit over it.
use Rattle.std.specs.Prelude.{◌≡◌, negsuc, ℤ, Bool, false, not, ◌&&◌, ◌||◌, List, [], ◌∷◌, Option, Some, None, is_some}
use Rattle.std.specs.BTreeMap.{is_at}
use Rattle.std.specs.FinMap.{entries, insert, remove}
use Rattle.std.specs.List.{list_any}
use Rattle.std.specs.List.Sorted.{IsStrictlySortedBy}
use Rattle.std.specs.Option.{option_map, unwrap_or}
use Rattle.std.specs.Ordering.{int_cmp}
use Rattle.ak_base.specs.declared.heads.Head.{Head}
use Rattle.ak_base.specs.declared.names.Name.{Name}
use Rattle.ak_base.specs.declared.names.Table.TheVariants as tables
use Rattle.ak_base.specs.declared.rows.Row.{Row}
use Rattle.ak_keep.specs.Collections.{Holding, Rows, is_card_of}
use Rattle.ak_merge.specs.Holdings.{name_in}
use Rattle.ak_merge.specs.Tags.{tags_taken}
use Rattle.ak_edit.specs.Overlays.{Overlay, entry_at}

-- the rows with one change over them: a row stands anew, or what has the name is gone
abbrev pub row_changed : Name → Option Row → Rows → Rows
row_changed name None rows = remove rows name
row_changed name (Some row) rows = insert rows name row

-- the rows with each of the entries over them
abbrev pub rows_changed : List (Name × Option Row) → Rows → Rows
rows_changed [] rows = rows
rows_changed (entry ∷ entries) rows = row_changed entry.0 entry.1 (rows_changed entries rows)

-- the rows with the changes over them
abbrev pub rows_over : Overlay → Rows → Rows
rows_over o rows = rows_changed (entries o.rows) rows

-- the head with the settings that were set and the tags that came: its moments stay until the edit's end
abbrev pub head_over : Overlay → Head → Head
head_over o head =
    record head { conf = unwrap_or o.conf head.conf; tags = tags_taken (negsuc 0) o.tags head.tags }

-- what is held, with the changes over it
abbrev pub overlaid : Overlay → Holding → Holding
overlaid o h = record { rows = rows_over o h.rows; head = option_map (head_over o) h.head }

-- ---- the cards of a note
-- the name of a card
abbrev pub card_name : ℤ → Name
card_name id = name_in tables.Card id

-- whether the id is one of these
abbrev pub has_id : List ℤ → ℤ → Bool
has_id ids id = list_any (is_at (int_cmp id)) ids

-- whether it is a card of this note, if it is a row
abbrev pub is_card : ℤ → Option Row → Bool
is_card note None = false
is_card note (Some row) = is_card_of note row

-- whether the id is one of these, and the entries have nothing under the name of its card
abbrev pub has_unchanged : List (Name × Option Row) → List ℤ → ℤ → Bool
has_unchanged es [] id = false
has_unchanged es (other ∷ ids) id =
    (not (is_some (entry_at es (card_name other))) && is_at (int_cmp id) other) || has_unchanged es ids id

-- whether the id is that of a card of the note among these entries
abbrev pub has_own : ℤ → List (Name × Option Row) → ℤ → Bool
has_own note [] id = false
has_own note (entry ∷ entries) id = (is_card note entry.1 && is_at (int_cmp id) entry.0.id) || has_own note entries id

-- ids that ascend: those of the held ones that did not change, and those of the note's cards among the entries
pub record AreCardsOver (note : ℤ) (held : List ℤ) (es : List (Name × Option Row)) (ids : List ℤ) : Type 0 where
  pub ascend : IsStrictlySortedBy int_cmp ids
  pub has : (id : ℤ) → has_id ids id ≡ (has_unchanged es held id || has_own note es id)
