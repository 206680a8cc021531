-- How a filtered deck is built: its plan is read, and then an edit is filled.
use Rattle.std.specs.Prelude.{◌≡◌, ◌⊎◌, ℤ, List, Some}
use Rattle.ak_base.specs.Days.{IsDayOf}
use Rattle.ak_base.specs.declared.days.Day.{Day}
use Rattle.ak_base.specs.declared.heads.Head.{Head}
use Rattle.ak_edit.specs.Overlays.{unchanged}
use Rattle.ak_filtered.specs.Builds.{cards_emptied, due_in, plan_at}
use Rattle.ak_filtered.specs.Candidates.{candidates, first_cards}
use Rattle.ak_filtered.specs.EmptyFaults.{IsEndOf}
use Rattle.ak_filtered.specs.FilteredDecks.{IsDeckFault}
use Rattle.ak_filtered.specs.FilteredFaults.{of_search_fault}
use Rattle.ak_filtered.specs.Gathering.{SievesBy}
use Rattle.ak_filtered.specs.HomeDecks.{filtered_at}
use Rattle.ak_filtered.specs.Refills.{refill}
use Rattle.ak_filtered.specs.declared.builds.Filled.{Filled}
use Rattle.ak_filtered.specs.declared.builds.ReadPlan.{ReadPlan}
use Rattle.ak_filtered.specs.declared.candidates.Sieve.{Sieve}
use Rattle.ak_filtered.specs.declared.faults.FilteredFault.{FilteredFault}
use Rattle.ak_filtered.specs.declared.faults.FilteredFault.TheVariants as faults
use Rattle.ak_keep.specs.Collections.{Holding, Rows}
use Rattle.ak_search.specs.Grammar.{ReadsSearch, pieces_in}
use Rattle.ak_search.specs.Trees.{Tree, pieces_of}
use Rattle.ak_search.specs.declared.faults.SearchFault.{SearchFault}

-- the day of this moment, where a head is held
pub record IsDayRead (at : ℤ) (h : Holding) (day : Day) : Type 0 where
  pub head : Head
  pub is_head : h.head ≡ Some head
  pub is_day : IsDayOf head.crt at day

-- the plan that the deck of this id keeps, and the expression that its search stands for
pub record IsReadPlan (id : ℤ) (planned : ReadPlan) (held : Rows) : Type 0 where
  pub plan : plan_at held id ≡ Some planned.plan
  pub tree : Tree
  pub reads : ReadsSearch planned.plan.search tree
  pub pieces : pieces_in planned.expr.tokens.items ≡ pieces_of tree

-- if the sieve knows the decks, these are the first cards of the plan on this day
abbrev pub AreRead : Sieve → ReadPlan → Day → Rows → List ℤ → Type 0
AreRead sieve planned day held chosen =
    SievesBy sieve held → (tree : Tree) → pieces_in planned.expr.tokens.items ≡ pieces_of tree
    → chosen ≡ first_cards planned.plan (candidates held day tree sieve.order (cards_emptied sieve.deck held))

-- the changes that move these cards in, which are the first of the plan on its day
pub record IsFilled (deck : ℤ) (planned : ReadPlan) (held : Rows) (filled : Filled) : Type 0 where
  pub are : (tree : Tree) → pieces_in planned.expr.tokens.items ≡ pieces_of tree
      → filled.chosen ≡ first_cards planned.plan (candidates held filled.day tree planned.plan.order (cards_emptied deck held))
  pub change : filled.change ≡ refill deck (filtered_at held) (due_in filled.chosen) held unchanged

-- a bad search
abbrev pub IsSearchFault : FilteredFault → Type 0
IsSearchFault fault = (own : SearchFault) × (fault ≡ of_search_fault own)

-- the deck, its plan or its search is bad, told or not
abbrev pub IsPlanFault : ℤ → FilteredFault → Type 0
IsPlanFault deck fault = IsDeckFault deck fault ⊎ (fault ≡ faults.BadPlan deck) ⊎ IsSearchFault fault

-- what the call may answer, told or not
abbrev pub IsBuildFault : ℤ → FilteredFault → Type 0
IsBuildFault deck fault = IsPlanFault deck fault ⊎ IsEndOf fault
