-- Where keepers come from; and a maker in memory.
use Rattle.std.specs.Prelude.{◌≡◌, refl, ℕ, ◌≤◌, false, if◌then◌else◌, List, [], ◌∷◌, Option, Some, None, Result}
use Rattle.std.specs.Coded.{Coded, code_by, coded×, coded_list, coded_ℕ}
use Rattle.std.specs.Result.{IsErrOf}
use Rattle.ak_faults.specs.Calls.{is_named}
use Rattle.ak_faults.specs.Causes.{Health, Rose, one_more}
use Rattle.ak_io.specs.Ends.{uncertain}
use Rattle.ak_keep.specs.Keepers.{all_known, is_marked}
use Rattle.ak_keep.specs.MemoryKeepers.{MemoryState}

-- a maker's count never falls, and it rose if it is why the call failed
pub record IsMakerCaused {T E : Type 0} (error : E) (before now : Health) (result : Result T E) : Type 0 where
  pub later : before.faults ≤ now.faults
  pub failed : IsErrOf result error → Rose before now

-- ---- a maker in memory
-- a keeper in memory that is not marked and has had no fault
pub record IsNew (keeper : MemoryState) : Type 0 where
  pub unmarked : is_marked (all_known keeper.kept) ≡ false
  pub faultless : keeper.faults ≡ 0

-- the keepers to come, how many calls came, which of them fail, and how many faults were counted
pub record MakerState : Type 0 where
  pub to_come : List MemoryState
  pub calls : ℕ
  pub fails : List ℕ
  pub fault_count : ℕ

-- the code by which two of them are told apart
abbrev pub maker_code : Coded MemoryState → Coded MakerState
maker_code keeper =
    code_by (List MemoryState × (ℕ × (List ℕ × ℕ))) (coded× (coded_list keeper) (coded× coded_ℕ (coded× (coded_list coded_ℕ) coded_ℕ)))
    (λ s. (s.to_come, (s.calls, (s.fails, s.fault_count)))) (λ p. record { to_come = p.0; calls = p.1.0; fails = p.1.1.0; fault_count = p.1.1.1 }) (λ _. refl)

-- it is never calm, since its keepers may end
abbrev pub maker_health : MakerState → Health
maker_health maker = uncertain maker.fault_count

-- the maker after a call that failed
abbrev pub after_refusal : MakerState → MakerState
after_refusal maker = record maker { calls = one_more maker.calls; fault_count = one_more maker.fault_count }

-- the first of the keepers to come
abbrev pub next_keeper : List MemoryState → Option MemoryState
next_keeper [] = None
next_keeper (keeper ∷ rest) = Some keeper

-- what the next call makes: nothing if it is to fail or no keeper is to come
abbrev pub makes : MakerState → Option MemoryState
makes maker = if is_named maker.calls maker.fails then None else next_keeper maker.to_come

-- the maker after a call that is not named, by the keepers that were to come
abbrev pub after_making : MakerState → List MemoryState → MakerState
after_making maker [] = after_refusal maker
after_making maker (keeper ∷ rest) = record maker { to_come = rest; calls = one_more maker.calls }

-- the maker after a call
abbrev pub after_make : MakerState → MakerState
after_make maker = if is_named maker.calls maker.fails then after_refusal maker else after_making maker maker.to_come
