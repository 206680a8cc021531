-- A filtered deck that is made, with the decks that are missing above it.
use Rattle.std.specs.Prelude.{◌≡◌, ℕ, ℤ, pos, true, List, [], ◌∷◌, ◌++◌, Option, Some, None}
use Rattle.ak_base.specs.declared.decks.Deck.{Deck}
use Rattle.ak_deck_paths.specs.Additions.{AreAdded, RefusesFirst, added_paths, addition, id_of_last}
use Rattle.ak_deck_paths.specs.DeckPaths.{has_path}
use Rattle.ak_deck_paths.specs.GivenPaths.{RefusesPath}
use Rattle.ak_deck_paths.specs.NewDecks.{RefusesIds}
use Rattle.ak_edit.specs.Ends.{RefusesEnd}
use Rattle.ak_edit.specs.declared.desk_faults.DeskFault.{DeskFault}
use Rattle.ak_filtered.specs.ClearedEdits.{IsCleared}
use Rattle.ak_filtered.specs.FilteredFaults.{ByDesk, FirstOf, Test}
use Rattle.ak_filtered.specs.Plans.{plan_of, plan_text, plan_with}
use Rattle.ak_filtered.specs.declared.deck_makings.NewFiltered.{NewFiltered}
use Rattle.ak_filtered.specs.declared.faults.FilteredFault.TheVariants as faults
use Rattle.ak_filtered.specs.declared.plans.Plan.{Plan}
use Rattle.ak_keep.specs.Collections.{Collection, Rows}
use Rattle.ak_keep.specs.Keepers.{Keeping}
use Rattle.ak_keep.specs.Lookups.{decks_in}
use Rattle.ak_search.specs.Grammar.{first_fault}
use Rattle.ak_search.specs.declared.faults.SearchFault.{SearchFault}
use Rattle.ak_undo.specs.declared.steps.Step.{Step}

-- ---- the rule
-- the plan that was given, if its limit and its order are in their ranges
abbrev pub given_plan : NewFiltered → Option Plan
given_plan given = plan_with given.search.now given.limit given.order

-- a deck with this plan in the place of its further keys
pub record IsPlanned (plan : Plan) (plain deck : Deck) : Type 0 where
  pub same : deck ≡ record plain { filtered = true; rest = deck.rest }
  pub text : deck.rest.text ≡ plan_text plan
  -- it is read again as the plan
  pub reads : plan_of deck.rest.text ≡ Some plan

-- these decks, the last of which has the plan
pub record ArePlanned (plan : Plan) (made planned : List Deck) : Type 0 where
  pub above : List Deck
  pub plain : Deck
  pub deck : Deck
  pub made_are : made ≡ above ++ plain ∷ []
  pub planned_are : planned ≡ above ++ deck ∷ []
  pub is_planned : IsPlanned plan plain deck

-- these decks are put at this moment: those that `add_deck` would make, the last of them with the plan
pub record ArePut (at : ℤ) (given : NewFiltered) (held : Rows) (decks : List Deck) : Type 0 where
  pub plan : Plan
  pub is_plan : given_plan given ≡ Some plan
  pub made : List Deck
  pub are_added : AreAdded at given.path.now held made
  pub are_planned : ArePlanned plan made decks

-- at this moment the deck was made under this id
pub record IsMade (at : ℤ) (given : NewFiltered) (c : Collection) (before now : Keeping) (left : List Step) (id : ℤ) : Type 0 where
  pub decks : List Deck
  pub are : ArePut at given c.rows decks
  pub is_id : id ≡ id_of_last (pos 0) decks
  -- no row that it makes fails its check, and no stamp and no moment ends
  pub passes : (fault : DeskFault) → RefusesEnd at c (addition decks c) fault → ⊥
  pub cleared : IsCleared at c (addition decks c) before now left

-- ---- refusals
-- the limit or the order is out of its range
abbrev pub RefusesGivenPlan : NewFiltered → Test
RefusesGivenPlan given fault = (given_plan given ≡ None) × (fault ≡ faults.BadPlan (pos 0))

-- the search can't be read
abbrev pub RefusesGivenSearch : NewFiltered → Test
RefusesGivenSearch given fault = (own : SearchFault) × (first_fault given.search.now ≡ Some own) × (fault ≡ faults.Search own)

-- one of these decks has the path; then the plan or its search is bad
abbrev pub RefusesGiven : List Deck → NewFiltered → Test
RefusesGiven decks given =
    FirstOf (ByDesk (RefusesFirst (has_path given.path.now) decks)) (FirstOf (RefusesGivenPlan given) (RefusesGivenSearch given))

-- the tests of `make_filtered` but for the last: the path, that no deck has it, the plan, the search, and free ids
abbrev pub RefusesToMake : ℤ → NewFiltered → Rows → Test
RefusesToMake at given held =
    FirstOf (ByDesk (RefusesPath given.path.now))
    (FirstOf (RefusesGiven (decks_in held) given)
    (ByDesk (RefusesIds at (added_paths (decks_in held) given.path.now) held)))

-- the last one: the text of the plan is too long for a row, or a stamp or the moment ends
abbrev pub RefusesMaking : ℤ → NewFiltered → Collection → Test
RefusesMaking at given c fault =
    (decks : List Deck) × ArePut at given c.rows decks × ByDesk (RefusesEnd at c (addition decks c)) fault
