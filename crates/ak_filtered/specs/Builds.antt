-- A filtered deck that is built: it is emptied, and then the first of the candidates move in, all in one edit.
use Rattle.std.specs.Prelude.{◌≡◌, ℕ, ℤ, pos, negsuc, ◌+ℤ◌, if◌then◌else◌, List, [], ◌∷◌, length, map, Option, Some, None, option_and_then}
use Rattle.std.specs.Option.{option_map_or}
use Rattle.std.specs.Ordering.{int_eq}
use Rattle.ak_base.specs.Days.{IsDayOf}
use Rattle.ak_base.specs.declared.cards.Card.{Card}
use Rattle.ak_base.specs.declared.days.Day.{Day}
use Rattle.ak_base.specs.declared.decks.Deck.{Deck}
use Rattle.ak_base.specs.declared.names.Table.TheVariants as tables
use Rattle.ak_base.specs.declared.rows.Row.TheVariants as rows
use Rattle.ak_edit.specs.Ends.{RefusesStamp}
use Rattle.ak_edit.specs.declared.desk_faults.DeskFault.{DeskFault}
use Rattle.ak_edit_calls.specs.CardEdits.{changed_row}
use Rattle.ak_filtered.specs.Candidates.{candidates, first_cards}
use Rattle.ak_filtered.specs.ClearedEdits.{IsCleared}
use Rattle.ak_filtered.specs.Emptyings.{RefusesDeck, emptied}
use Rattle.ak_filtered.specs.FilteredFaults.{ByDesk, FirstOf, Test}
use Rattle.ak_filtered.specs.HomeDecks.{DeckFlags, filtered_at}
use Rattle.ak_filtered.specs.Plans.{plan_of}
use Rattle.ak_filtered.specs.declared.faults.FilteredFault.TheVariants as faults
use Rattle.ak_filtered.specs.declared.plans.Plan.{Plan}
use Rattle.ak_keep.specs.Collections.{Collection, Rows}
use Rattle.ak_keep.specs.Keepers.{Keeping}
use Rattle.ak_keep.specs.Lookups.{deck_at}
use Rattle.ak_merge.specs.EditBuilding.{unedited, with_rows_mapped}
use Rattle.ak_merge.specs.Edits.{Edit}
use Rattle.ak_merge.specs.Holdings.{name_in, row_under}
use Rattle.ak_queue.specs.Homes.{cards_in}
use Rattle.ak_search.specs.Grammar.{ReadsSearch, first_fault}
use Rattle.ak_search.specs.Trees.{Tree}
use Rattle.ak_search.specs.declared.faults.SearchFault.{SearchFault}
use Rattle.ak_undo.specs.declared.steps.Step.{Step}

-- ---- which cards move in
-- the plan of the deck of this id, if it is held and has one
abbrev pub plan_at : Rows → ℤ → Option Plan
plan_at held id = option_and_then (λ (deck : Deck). plan_of deck.rest.text) (deck_at held id)

-- all cards, as they are once this deck was emptied
abbrev pub cards_emptied : ℤ → Rows → List Card
cards_emptied deck held = map (emptied deck (filtered_at held)) (cards_in held)

-- the cards of these ids move into the deck, in this order: of all cards, as they are once the deck was emptied, the first candidates of
-- its plan at this moment
pub record AreChosen (at : ℤ) (deck : ℤ) (c : Collection) (chosen : List ℤ) : Type 0 where
  pub plan : Plan
  pub is_plan : plan_at c.rows deck ≡ Some plan
  pub day : Day
  pub is_day : IsDayOf c.head.crt at day
  pub tree : Tree
  pub reads : ReadsSearch plan.search tree
  pub are : chosen ≡ first_cards plan (candidates c.rows day tree plan.order (cards_emptied deck c.rows))

-- ---- the rule
-- the due of the card of an id, if it is one of these: that of the first of them is this number, and those after it count up. Of an id
-- that stands there twice the first place counts
abbrev pub due_from : ℤ → List ℤ → ℤ → Option ℤ
due_from due [] id = None
due_from due (first ∷ others) id = if int_eq first id then Some due else due_from (due +ℤ pos 1) others id

-- the same, counted from -100,000
abbrev pub due_in : List ℤ → ℤ → Option ℤ
due_in ids id = due_from (negsuc 99_999) ids id

-- a card that moves into this deck with this due. It notes where it came from
abbrev pub moved_in : ℤ → ℤ → Card → Card
moved_in deck due card = record card { odid = card.did; odue = card.due; did = deck; due = due }

-- a card once the deck was emptied and the cards that have a due moved in
abbrev pub refilled : ℤ → DeckFlags → (ℤ → Option ℤ) → Card → Card
refilled deck flags dues card =
    option_map_or (λ (due : ℤ). moved_in deck due (emptied deck flags card)) (dues card.id) (emptied deck flags card)

-- the edit that builds this deck of these cards
abbrev pub building : ℤ → List ℤ → Collection → Edit
building deck chosen c = with_rows_mapped (changed_row (refilled deck (filtered_at c.rows) (due_in chosen))) (unedited c)

-- at this moment the deck was built, and so many cards came
pub record IsBuilt (at : ℤ) (deck : ℤ) (c : Collection) (before now : Keeping) (left : List Step) (count : ℕ) : Type 0 where
  pub chosen : List ℤ
  pub are : AreChosen at deck c chosen
  pub count_is : count ≡ length chosen
  -- no stamp and no moment ends
  pub passes : (fault : DeskFault) → RefusesStamp at c (building deck chosen c) fault → ⊥
  pub cleared : IsCleared at c (building deck chosen c) before now left

-- ---- refusals
-- the deck of this id is held, and its plan is not of the form or out of its range
abbrev pub RefusesPlan : ℤ → Rows → Test
RefusesPlan id held fault =
    (deck : Deck) × (deck_at held id ≡ Some deck) × (plan_of deck.rest.text ≡ None) × (fault ≡ faults.BadPlan id)

-- the search of its plan can't be read
abbrev pub RefusesSearch : ℤ → Rows → Test
RefusesSearch id held fault =
    (plan : Plan) × (plan_at held id ≡ Some plan)
    × (own : SearchFault) × (first_fault plan.search ≡ Some own) × (fault ≡ faults.Search own)

-- the tests of `build` but for the last: the deck, then its plan, then its search
abbrev pub RefusesToBuild : ℤ → Collection → Test
RefusesToBuild deck c = FirstOf (RefusesDeck deck c) (FirstOf (RefusesPlan deck c.rows) (RefusesSearch deck c.rows))

-- the last one: a stamp or the moment ends
abbrev pub RefusesBuilding : ℤ → ℤ → Collection → Test
RefusesBuilding at deck c fault =
    (chosen : List ℤ) × AreChosen at deck c chosen × ByDesk (RefusesStamp at c (building deck chosen c)) fault
