-- A deck that is added, with the decks that are missing above it.
use Rattle.std.specs.Prelude.{◌≡◌, ℕ, ℤ, pos, Bool, List, [], ◌∷◌, ◌++◌, Some}
use Rattle.ak_base.specs.declared.decks.Deck.{Deck}
use Rattle.ak_base.specs.declared.names.Table.TheVariants as tables
use Rattle.ak_edit.specs.Ends.{IsFinished, RefusesStamp}
use Rattle.ak_edit.specs.Refusals.{OrElse, Refusal}
use Rattle.ak_edit.specs.declared.desk_faults.DeskFault.{DeskFault}
use Rattle.ak_edit.specs.declared.desk_faults.DeskFault.TheVariants as faults
use Rattle.ak_keep.specs.Collections.{Collection, Holding, Rows}
use Rattle.ak_keep.specs.Keepers.{Keeping, WhereHeld}
use Rattle.ak_merge.specs.EditBuilding.{unedited}
use Rattle.ak_merge.specs.Edits.{Edit}
use Rattle.ak_merge.specs.Holdings.{name_in}
use Rattle.ak_deck_paths.specs.ChangedDecks.{with_decks}
use Rattle.ak_keep.specs.Lookups.{decks_in}
use Rattle.ak_deck_paths.specs.DeckPaths.{first_id, has_path, missing_above}
use Rattle.ak_deck_paths.specs.GivenPaths.{RefusesPath}
use Rattle.ak_deck_paths.specs.NewDecks.{AreNewDecks, RefusesIds}
use Rattle.ak_undo.specs.declared.steps.Step.{Step}

-- ---- the rule
-- the paths of the decks that are made: those above this one that no deck has, from the top, and this one
abbrev pub added_paths : List Deck → List ℕ → List (List ℕ)
added_paths decks path = missing_above decks path ++ path ∷ []

-- these decks are made for a new deck of this path at this moment
abbrev pub AreAdded : ℤ → List ℕ → Rows → List Deck → Type 0
AreAdded at path held made = AreNewDecks at (added_paths (decks_in held) path) held made

-- the same in what is held
abbrev pub AreAddedIn : ℤ → List ℕ → List Deck → Holding → Type 0
AreAddedIn at path made h = AreAdded at path h.rows made

-- the edit that puts the decks that are made
abbrev pub addition : List Deck → Collection → Edit
addition made c = with_decks made (unedited c)

-- the id of the last of these decks, and this one if there are none. Of the decks that are made the last is that of the path itself
abbrev pub id_of_last : ℤ → List Deck → ℤ
id_of_last id [] = id
id_of_last id (deck ∷ decks) = id_of_last deck.id decks

-- ---- refusals
-- one of these decks meets the test: the fault names the first one, which of those that are held has the least id
abbrev pub RefusesFirst : (Deck → Bool) → List Deck → Refusal
RefusesFirst test decks fault =
    (id : ℤ) × (first_id test decks ≡ Some id) × (fault ≡ faults.InUse (name_in tables.Deck id))

-- a fault that names a deck which is in the way
abbrev pub IsUseFault : DeskFault → Type 0
IsUseFault fault = (id : ℤ) × (fault ≡ faults.InUse (name_in tables.Deck id))

-- the tests before a deck is made: a deck has the path, or there are too few free ids
abbrev pub RefusesToMake : ℤ → List ℕ → Rows → Refusal
RefusesToMake at path held =
    OrElse (RefusesFirst (has_path path) (decks_in held)) (RefusesIds at (added_paths (decks_in held) path) held)

-- the same, after that of the path that was given
abbrev pub RefusesToAdd : ℤ → List ℕ → Rows → Refusal
RefusesToAdd at path held = OrElse (RefusesPath path) (RefusesToMake at path held)

-- a stamp of the decks that are made, or the moment ends
abbrev pub RefusesAddedStamp : ℤ → List ℕ → Collection → Refusal
RefusesAddedStamp at path c fault =
    (made : List Deck) × AreAdded at path c.rows made × RefusesStamp at c (addition made c) fault

-- all tests: the path that was given, a deck that has it, free ids, and at the end stamps and the moment
abbrev pub RefusesAddition : ℤ → List ℕ → Collection → Refusal
RefusesAddition at path c = OrElse (RefusesToAdd at path c.rows) (RefusesAddedStamp at path c)

-- ---- what it leaves
-- at this moment the deck was added under this id
pub record IsAdded (at : ℤ) (path : List ℕ) (c : Collection) (before now : Keeping) (steps left : List Step) (added : ℤ) : Type 0 where
  pub made : List Deck
  pub are : AreAdded at path c.rows made
  pub id : added ≡ id_of_last (pos 0) made
  pub done : IsFinished at c (addition made c) before now steps left

-- the same, where a collection is told
abbrev pub DoesAdd : ℤ → List ℕ → Keeping → Keeping → List Step → List Step → ℤ → Type 0
DoesAdd at path before now steps left id = WhereHeld before (λ c. IsAdded at path c before now steps left id)
