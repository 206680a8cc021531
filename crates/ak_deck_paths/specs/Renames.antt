-- A deck that is renamed: its subtree goes with it, and the decks that are missing above its new path are made.
use Rattle.std.specs.Prelude.{◌≡◌, ◌⊎◌, ℕ, ℤ, true, List}
use Rattle.ak_base.specs.declared.decks.Deck.{Deck}
use Rattle.ak_base.specs.declared.names.Table.TheVariants as tables
use Rattle.ak_edit_calls.specs.Calls.{RefusesAbsent}
use Rattle.ak_edit.specs.Ends.{IsFinished, RefusesEnd}
use Rattle.ak_edit.specs.Refusals.{OrElse, Refusal}
use Rattle.ak_edit.specs.declared.desk_faults.DeskFault.{DeskFault}
use Rattle.ak_edit.specs.declared.desk_faults.DeskFault.TheVariants as faults
use Rattle.ak_keep.specs.Collections.{Collection, Holding, Rows}
use Rattle.ak_keep.specs.Keepers.{Keeping, WhereHeld}
use Rattle.ak_merge.specs.EditBuilding.{unedited, with_rows_mapped}
use Rattle.ak_merge.specs.Edits.{Edit}
use Rattle.ak_merge.specs.Holdings.{name_in, row_under}
use Rattle.ak_deck_paths.specs.Additions.{RefusesFirst}
use Rattle.ak_deck_paths.specs.ChangedDecks.{IsPathFault, with_decks}
use Rattle.ak_keep.specs.Lookups.{decks_in}
use Rattle.ak_deck_paths.specs.DeckPaths.{is_below, is_in_way, missing_above, moved_decks, renamed}
use Rattle.ak_edit_calls.specs.DeckPaths.{path_at}
use Rattle.ak_deck_paths.specs.GivenPaths.{RefusesPath}
use Rattle.ak_deck_paths.specs.NewDecks.{AreNewDecks, RefusesIds}
use Rattle.ak_deck_paths.specs.declared.changed_decks.ChangedDecks.{ChangedDecks}
use Rattle.ak_undo.specs.declared.steps.Step.{Step}

-- ---- the rule
-- these decks are made above the new path at this moment: those that no deck has as the call begins
abbrev pub AreMadeAbove : ℤ → List ℕ → Rows → List Deck → Type 0
AreMadeAbove at new held made = AreNewDecks at (missing_above (decks_in held) new) held made

-- the edit by which the subtree of the old path gets the new one, and these decks are made
abbrev pub renaming : List ℕ → List ℕ → List Deck → Collection → Edit
renaming old new made c = with_decks made (with_rows_mapped (renamed old new) (unedited c))

-- what the call puts for it: the decks of the subtree with their new paths, and those that are made
pub record IsChanged (at : ℤ) (old new : List ℕ) (held : Rows) (decks : ChangedDecks) : Type 0 where
  pub moved : decks.moved ≡ moved_decks old new (decks_in held)
  pub made : AreMadeAbove at new held decks.made

-- the same in what is held
abbrev pub IsChangedIn : ℤ → List ℕ → List ℕ → ChangedDecks → Holding → Type 0
IsChangedIn at old new decks h = IsChanged at old new h.rows decks

-- ---- refusals
-- a deck outside the subtree has one of the new paths: the fault names the least id
abbrev pub RefusesTaken : List ℕ → List ℕ → List Deck → Refusal
RefusesTaken old new decks = RefusesFirst (is_in_way old (moved_decks old new decks)) decks

-- the new path is below the old one: the fault names the deck itself
abbrev pub RefusesBelow : ℤ → List ℕ → List ℕ → Refusal
RefusesBelow id old new fault = (is_below old new ≡ true) × (fault ≡ faults.InUse (name_in tables.Deck id))

-- a deck outside the subtree has one of the new paths, or the new path is below the old one
abbrev pub RefusesPaths : ℤ → List ℕ → List ℕ → List Deck → Refusal
RefusesPaths id old new decks = OrElse (RefusesTaken old new decks) (RefusesBelow id old new)

-- the tests before a deck is made: those of the paths, and then that there are free ids
abbrev pub RefusesToMove : ℤ → ℤ → List ℕ → List ℕ → Rows → Refusal
RefusesToMove at id old new held =
    OrElse (RefusesPaths id old new (decks_in held)) (RefusesIds at (missing_above (decks_in held) new) held)

-- the same, after that of the path that was given
abbrev pub RefusesToChange : ℤ → ℤ → List ℕ → List ℕ → Rows → Refusal
RefusesToChange at id old new held = OrElse (RefusesPath new) (RefusesToMove at id old new held)

-- a path of the subtree grows too long, or a stamp or the moment ends
abbrev pub RefusesChanged : ℤ → List ℕ → List ℕ → Collection → Refusal
RefusesChanged at old new c fault =
    (made : List Deck) × AreMadeAbove at new c.rows made × RefusesEnd at c (renaming old new made c) fault

-- all tests for a deck that has the old path
abbrev pub RefusesOld : ℤ → ℤ → List ℕ → List ℕ → Collection → Refusal
RefusesOld at id old new c = OrElse (RefusesToChange at id old new c.rows) (RefusesChanged at old new c)

-- all tests: the deck is not held, or those for its path
abbrev pub RefusesRename : ℤ → ℤ → List ℕ → Collection → Refusal
RefusesRename at id new c =
    OrElse (RefusesAbsent (row_under c) (name_in tables.Deck id)) (RefusesOld at id (path_at c.rows id) new c)

-- what it may answer: the deck is not held, or a fault of paths
abbrev pub IsRenameFault : ℤ → DeskFault → Type 0
IsRenameFault id fault = (fault ≡ faults.NoSuch (name_in tables.Deck id)) ⊎ IsPathFault fault

-- ---- what it leaves
-- at this moment the subtree of the old path got the new one
pub record IsMoved (at : ℤ) (old new : List ℕ) (c : Collection) (before now : Keeping) (steps left : List Step) : Type 0 where
  pub made : List Deck
  pub are : AreMadeAbove at new c.rows made
  pub done : IsFinished at c (renaming old new made c) before now steps left

-- the deck of this id was renamed, where a collection is told
abbrev pub DoesRename : ℤ → ℤ → List ℕ → Keeping → Keeping → List Step → List Step → Type 0
DoesRename at id new before now steps left =
    WhereHeld before (λ c. IsMoved at (path_at c.rows id) new c before now steps left)

-- the subtree of the old path was moved, where a collection is told
abbrev pub DoesMove : ℤ → List ℕ → List ℕ → Keeping → Keeping → List Step → List Step → Type 0
DoesMove at old new before now steps left = WhereHeld before (λ c. IsMoved at old new c before now steps left)
