-- A deck that is deleted, with its subtree.
use Rattle.std.specs.Prelude.{◌≡◌, ◌⊎◌, ℕ, ℤ, pos, Bool, true, if◌then◌else◌, List, [], ◌∷◌}
use Rattle.ak_base.specs.Rows.{name_of}
use Rattle.ak_base.specs.declared.names.Table.{Table}
use Rattle.ak_base.specs.declared.names.Table.TheVariants as tables
use Rattle.ak_base.specs.declared.rows.Row.{Row}
use Rattle.ak_edit_calls.specs.Calls.{IsMissingFault, RefusesAbsent}
use Rattle.ak_deck_trees.specs.Trees.{goes_with, is_in_tree}
use Rattle.ak_edit_calls.specs.DeckPaths.{path_at}
use Rattle.ak_edit.specs.Ends.{RefusesStamp}
use Rattle.ak_edit.specs.Overlays.{Overlay, removed_over}
use Rattle.ak_edit.specs.Refusals.{IsEndFault, IsFromOutside, OrElse, Refusal}
use Rattle.ak_edit.specs.declared.desk_faults.DeskFault.{DeskFault}
use Rattle.ak_edit.specs.declared.desk_faults.DeskFault.TheVariants as faults
use Rattle.ak_keep.specs.Collections.{Collection, Rows, rows_past}
use Rattle.ak_merge.specs.EditBuilding.{unedited, without_rows}
use Rattle.ak_merge.specs.Edits.{Edit}
use Rattle.ak_merge.specs.Holdings.{name_in, row_under}

-- ---- the rule
-- the edit that deletes all that belongs to the subtree of a path; the reviews of the cards stay
abbrev pub tree_deletion : List ℕ → Collection → Edit
tree_deletion root c = without_rows (goes_with root c.rows) (unedited c)

-- the edit that deletes a deck with its subtree
abbrev pub deck_deletion : ℤ → Collection → Edit
deck_deletion deck c = tree_deletion (path_at c.rows deck) c

-- ---- refusals
-- deck 1 is in the subtree of this path: it always stays
abbrev pub RefusesDefault : List ℕ → Rows → Refusal
RefusesDefault root held fault = (is_in_tree root held (pos 1) ≡ true) × (fault ≡ faults.DefaultKept (name_in tables.Deck (pos 1)))

-- deck 1 is in the subtree, or the moment ends
abbrev pub RefusesTreeDeletion : ℤ → List ℕ → Collection → Refusal
RefusesTreeDeletion at root c = OrElse (RefusesDefault root c.rows) (RefusesStamp at c (tree_deletion root c))

-- the tests of the call: the deck is not held, or one of these
abbrev pub RefusesDeckDeletion : ℤ → ℤ → Collection → Refusal
RefusesDeckDeletion at deck c =
    OrElse (RefusesAbsent (row_under c) (name_in tables.Deck deck)) (RefusesTreeDeletion at (path_at c.rows deck) c)

-- what the test of deck 1 may answer
abbrev pub IsDefaultFault : DeskFault → Type 0
IsDefaultFault fault = IsFromOutside fault ⊎ (fault ≡ faults.DefaultKept (name_in tables.Deck (pos 1)))

-- what the deletion of a subtree may answer
abbrev pub IsTreeDeletionFault : DeskFault → Type 0
IsTreeDeletionFault fault = (fault ≡ faults.DefaultKept (name_in tables.Deck (pos 1))) ⊎ IsEndFault fault

-- what the call may answer
abbrev pub IsDeckDeletionFault : DeskFault → Type 0
IsDeckDeletionFault fault = IsMissingFault tables.Deck fault ⊎ IsTreeDeletionFault fault

-- ---- the changes that are made for it
-- the row was removed if it meets the test
abbrev pub swept_one : (Row → Bool) → Row → Overlay → Overlay
swept_one gone row o = if gone row then removed_over (name_of row) o else o

-- the same of each of these rows
abbrev pub swept : (Row → Bool) → List Row → Overlay → Overlay
swept gone [] o = o
swept gone (row ∷ rows) o = swept gone rows (swept_one gone row o)

-- the rows of the table that go with the subtree were removed
abbrev pub without_rows_of : List ℕ → Table → Rows → Overlay → Overlay
without_rows_of root table held = swept (goes_with root held) (rows_past table (pos 0) held)

-- the same of the decks, then the cards, then the notes
abbrev pub without_tree : List ℕ → Rows → Overlay → Overlay
without_tree root held o =
    without_rows_of root tables.Note held (without_rows_of root tables.Card held (without_rows_of root tables.Deck held o))
