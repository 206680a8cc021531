-- Groups of options that are deleted, and the decks that had them.
use Rattle.std.specs.Prelude.{◌≡◌, ◌⊎◌, ℤ, pos, Bool, false, if◌then◌else◌, List, [], ◌∷◌}
use Rattle.std.specs.Ordering.{int_eq}
use Rattle.ak_base.specs.declared.names.Table.TheVariants as tables
use Rattle.ak_base.specs.declared.decks.Deck.{Deck}
use Rattle.ak_base.specs.declared.rows.Row.{Row}
use Rattle.ak_base.specs.declared.rows.Row.TheVariants as rows
use Rattle.ak_base.specs.RowsOfOneKind.{on_deck}
use Rattle.ak_edit.specs.Ends.{RefusesStamp}
use Rattle.ak_edit.specs.Overlays.{Overlay, put_over}
use Rattle.ak_edit.specs.Refusals.{IsEndFault, OrElse, Refusal}
use Rattle.ak_edit.specs.declared.desk_faults.DeskFault.{DeskFault}
use Rattle.ak_edit.specs.declared.desk_faults.DeskFault.TheVariants as faults
use Rattle.ak_edit_calls.specs.Calls.{RefusesSchema}
use Rattle.ak_keep.specs.Collections.{Collection, Rows, rows_past}
use Rattle.ak_merge.specs.EditBuilding.{unedited, with_rows_mapped, with_schema, without_row}
use Rattle.ak_merge.specs.Edits.{Edit}
use Rattle.ak_merge.specs.Holdings.{name_in}
use Rattle.ak_options.specs.OptionGroups.{RefusesNoGroup}

-- ---- the rule
-- whether a row is a deck that has these options
abbrev pub has_options : ℤ → Row → Bool
has_options options (rows.Deck deck) = int_eq deck.options options
has_options options (rows.Note note) = false
has_options options (rows.Card card) = false
has_options options (rows.Review review) = false
has_options options (rows.NoteType note_type) = false
has_options options (rows.Options group) = false
has_options options (rows.Grave grave) = false

-- the row with options 1, if it is a deck
abbrev pub with_default : Row → Row
with_default = on_deck (λ (deck : Deck). record deck { options = pos 1 })

-- the row as it is without these options: a deck that has them goes back to options 1
abbrev pub without_options : ℤ → Row → Row
without_options options row = if has_options options row then with_default row else row

-- the edit that deletes these options: the decks that have them go back to options 1, and the schema changes
abbrev pub options_deletion : ℤ → Collection → Edit
options_deletion options c =
    without_row (name_in tables.Options options)
    (with_schema (with_rows_mapped (without_options options) (unedited c)))

-- options 1 always stay
abbrev pub RefusesDefault : ℤ → Refusal
RefusesDefault options fault = (options ≡ pos 1) × (fault ≡ faults.DefaultKept (name_in tables.Options (pos 1)))

-- the tests of that edit that ask for no collection: options 1 always stay, and the schema changes only if it is allowed
abbrev pub RefusesAsked : ℤ → Bool → Refusal
RefusesAsked options allow = OrElse (RefusesDefault options) (RefusesSchema allow)

-- the tests of that edit: the options are not held, always stay, would change the schema, or a stamp or a moment ends
abbrev pub RefusesDeletion : ℤ → ℤ → Bool → Collection → Refusal
RefusesDeletion at options allow c =
    OrElse (RefusesNoGroup options c)
    (OrElse (RefusesAsked options allow) (RefusesStamp at c (options_deletion options c)))

-- what the tests that ask for no collection may answer
abbrev pub IsAskedFault : DeskFault → Type 0
IsAskedFault fault = (fault ≡ faults.DefaultKept (name_in tables.Options (pos 1))) ⊎ (fault ≡ faults.SchemaAsk)

-- what it may answer
abbrev pub IsDeletionFault : ℤ → DeskFault → Type 0
IsDeletionFault options fault = (fault ≡ faults.NoSuch (name_in tables.Options options)) ⊎ IsAskedFault fault ⊎ IsEndFault fault

-- ---- the changes that are made for it
-- the row was put with options 1, if it is a deck that has these
abbrev pub put_default : ℤ → Row → Overlay → Overlay
put_default options row o = if has_options options row then put_over (with_default row) o else o

-- the same of each of these rows
abbrev pub put_defaults : ℤ → List Row → Overlay → Overlay
put_defaults options [] o = o
put_defaults options (row ∷ rows) o = put_defaults options rows (put_default options row o)

-- the same of all decks that are held, by ascending id: an id is at least 1
abbrev pub held_defaults : ℤ → Rows → Overlay → Overlay
held_defaults options held = put_defaults options (rows_past tables.Deck (pos 0) held)
