-- Notes that are deleted, and their cards with them.
use Rattle.std.specs.Prelude.{ℤ, Bool, false, List, [], ◌∷◌}
use Rattle.ak_base.specs.declared.names.Name.{Name}
use Rattle.ak_base.specs.declared.names.Table.TheVariants as tables
use Rattle.ak_base.specs.declared.rows.Row.{Row}
use Rattle.ak_base.specs.declared.rows.Row.TheVariants as rows
use Rattle.ak_edit.specs.Ends.{RefusesStamp}
use Rattle.ak_edit.specs.Overlays.{Overlay, removed_over}
use Rattle.ak_edit.specs.Refusals.{OrElse, Refusal}
use Rattle.ak_edit_calls.specs.Calls.{RefusesMissing, has_id}
use Rattle.ak_keep.specs.Collections.{Collection, Rows, cards_of}
use Rattle.ak_merge.specs.EditBuilding.{unedited, without_rows}
use Rattle.ak_merge.specs.Edits.{Edit}
use Rattle.ak_merge.specs.Holdings.{name_in, row_under}

-- ---- the rule
-- whether a row is a note whose id meets the test, or a card of such a note
abbrev pub is_of_note : (ℤ → Bool) → Row → Bool
is_of_note test (rows.Note note) = test note.id
is_of_note test (rows.Card card) = test card.nid
is_of_note test (rows.Review review) = false
is_of_note test (rows.NoteType note_type) = false
is_of_note test (rows.Deck deck) = false
is_of_note test (rows.Options options) = false
is_of_note test (rows.Grave grave) = false

-- the edit that deletes these notes and their cards; the reviews of the cards stay
abbrev pub deletion : List ℤ → Collection → Edit
deletion notes c = without_rows (is_of_note (has_id notes)) (unedited c)

-- the tests of that edit: a note is not held, or the moment ends
abbrev pub RefusesDeletion : ℤ → List ℤ → Collection → Refusal
RefusesDeletion at notes c = OrElse (RefusesMissing (row_under c) tables.Note notes) (RefusesStamp at c (deletion notes c))

-- ---- the changes that are made for it
-- the cards of these ids were removed
abbrev pub without_cards : List ℤ → Overlay → Overlay
without_cards [] o = o
without_cards (card ∷ cards) o = without_cards cards (removed_over (name_in tables.Card card) o)

-- the note of this name was removed, and its cards as they are held
abbrev pub without_note : Rows → Name → Overlay → Overlay
without_note held note o = without_cards (cards_of note.id held) (removed_over note o)

-- the same of each of these notes
abbrev pub without_each : Rows → List ℤ → Overlay → Overlay
without_each held [] o = o
without_each held (note ∷ notes) o = without_each held notes (without_note held (name_in tables.Note note) o)
