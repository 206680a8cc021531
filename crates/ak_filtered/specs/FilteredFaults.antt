-- How the calls on filtered decks are refused: for the first of their tests that holds.
use Rattle.std.specs.Prelude.{◌≡◌, ◌⊎◌, Result, IfErr, OnOk}
use Rattle.ak_edit.specs.Refusals.{Refusal}
use Rattle.ak_edit.specs.declared.desk_faults.DeskFault.{DeskFault}
use Rattle.ak_edit.specs.declared.desk_faults.DeskFault.TheVariants as desk
use Rattle.ak_faults.specs.Causes.{Health, HasCauseOf}
use Rattle.ak_filtered.specs.declared.faults.FilteredFault.{FilteredFault}
use Rattle.ak_filtered.specs.declared.faults.FilteredFault.TheVariants as faults
use Rattle.ak_keep.specs.declared.keepers.KeepFault.{KeepFault}
use Rattle.ak_keep.specs.declared.keepers.KeepFault.TheVariants as kept
use Rattle.ak_search.specs.declared.faults.SearchFault.{SearchFault}
use Rattle.ak_search.specs.declared.faults.SearchFault.TheVariants as searches

-- ---- words for the faults of other calls: being out of memory has one form
-- for a refusal of the desk's own rules
abbrev pub of_desk_fault : DeskFault → FilteredFault
of_desk_fault desk.Memory = faults.Memory
of_desk_fault fault = faults.Desk fault

-- for a refusal of the keeper
abbrev pub of_keep_fault : KeepFault → FilteredFault
of_keep_fault kept.Failed = faults.Desk desk.Failed
of_keep_fault kept.Memory = faults.Memory

-- for a search that can't be read
abbrev pub of_search_fault : SearchFault → FilteredFault
of_search_fault searches.Memory = faults.Memory
of_search_fault fault = faults.Search fault

-- ---- tests
-- a test of a call: the faults with which it refuses
abbrev pub Test : Type 1
Test = FilteredFault → Type 0

-- the first test refuses with this fault, or it refuses with none and the others refuse with this one
abbrev pub FirstOf : Test → Test → Test
FirstOf first others fault = first fault ⊎ (((any : FilteredFault) → first any → ⊥) × others fault)

-- a test of the desk's own rules
abbrev pub ByDesk : Refusal → Test
ByDesk tests fault = (own : DeskFault) × tests own × (fault ≡ faults.Desk own)

-- the keeper failed, or memory was out: this may come at any place of a call
abbrev pub IsOutside : FilteredFault → Type 0
IsOutside fault = (fault ≡ faults.Desk desk.Failed) ⊎ (fault ≡ faults.Memory)

-- the answer of a call with these tests: it is accepted only if none of them holds, and refused for the first of them that
-- holds, but for what comes from outside
pub record TellsBy {T : Type 0} (tests : Test) (result : Result T FilteredFault) : Type 0 where
  pub accepted : OnOk result ((fault : FilteredFault) → tests fault → ⊥)
  pub refused : IfErr result (λ fault. IsOutside fault ⊎ tests fault)

-- the same of a call with one more test at its end. What is left by a call that is accepted says that this one does not hold
pub record TellsToEnd {T : Type 0} (tests end : Test) (result : Result T FilteredFault) : Type 0 where
  pub accepted : OnOk result ((fault : FilteredFault) → tests fault → ⊥)
  pub refused : IfErr result (λ fault. IsOutside fault ⊎ FirstOf tests end fault)

-- the count of faults never falls, and it rose if the keeper failed; a keeper that is known not to fail did not
abbrev pub FilteredCause : {T : Type 0} → Health → Health → Result T FilteredFault → Type 0
FilteredCause before now result = HasCauseOf (faults.Desk desk.Failed) before now result
