-- How the tests of a call on filtered decks follow one another, and faults of other calls in their words.
use Rattle.std.specs.Prelude.{◌≡◌, ◌⊎◌, ℤ, Result, Ok, Err}
use Rattle.std.proofs.Common.{refl, sym, ap, subst, ◌∙◌, inl, inr}
use Rattle.ak_edit.specs.Ends.{RefusesEnd, RefusesStamp}
use Rattle.ak_edit.specs.Refusals.{AnswersBy, IsFromOutside, Refusal}
use Rattle.ak_edit.specs.declared.desk_faults.DeskFault.{DeskFault}
use Rattle.ak_edit.specs.declared.desk_faults.DeskFault.TheVariants as desk
use Rattle.ak_filtered.specs.FilteredFaults.{ByDesk, FirstOf, IsOutside, TellsBy, TellsToEnd, Test, of_desk_fault, of_keep_fault}
use Rattle.ak_filtered.specs.declared.faults.FilteredFault.{FilteredFault}
use Rattle.ak_filtered.specs.declared.faults.FilteredFault.TheVariants as faults
use Rattle.ak_keep.specs.Collections.{Collection}
use Rattle.ak_keep.specs.declared.keepers.KeepFault.{KeepFault}
use Rattle.ak_keep.specs.declared.keepers.KeepFault.TheVariants as kept
use Rattle.ak_merge.specs.Edits.{Edit}

-- ---- words
-- a fault of the desk that is none of memory keeps its word
abbrev pub KeepsWord : Refusal → Type 0
KeepsWord tests = (own : DeskFault) → tests own → of_desk_fault own ≡ faults.Desk own

pub outside_of : (own : DeskFault) → IsFromOutside own → IsOutside (of_desk_fault own)
outside_of own (inl failed) = inl (ap of_desk_fault failed)
outside_of own (inr memory) = inr (ap of_desk_fault memory)

pub keeper_outside : (fault : KeepFault) → IsOutside (of_keep_fault fault)
keeper_outside kept.Failed = inl refl
keeper_outside kept.Memory = inr refl

-- the word of a fault that is this one
pub word_of : (own other : DeskFault) → own ≡ other → of_desk_fault other ≡ faults.Desk other → of_desk_fault own ≡ faults.Desk own
word_of own other is word = subst (λ (f : DeskFault). of_desk_fault f ≡ faults.Desk f) (sym is) word

pub stamp_word : (at : ℤ) (c : Collection) (edit : Edit) → KeepsWord (RefusesStamp at c edit)
stamp_word at c edit own is = word_of own desk.StampEnd is.0 refl

pub end_word : (at : ℤ) (c : Collection) (edit : Edit) → KeepsWord (RefusesEnd at c edit)
end_word at c edit own (inl row) = word_of own (desk.Row row.0) row.1 refl
end_word at c edit own (inr stamp) = stamp_word at c edit own stamp.1

-- ---- tests
-- a refusal by the first tests is one by all
pub told_first : {T U : Type 0} (first others : Test) (fault : FilteredFault) → TellsBy {T = T} first (Err fault) → TellsBy {T = U} (FirstOf first others) (Err fault)
told_first first others fault tells = record { accepted = tt; refused = elim tells.refused [ inl outside ↦ inl outside | inr is ↦ inr (inl is) ] }

-- the answer of the others, if the first tests pass
pub told_others : {T U : Type 0} (first others : Test) (value : T) (result : Result U FilteredFault) → TellsBy first (Ok value) → TellsBy others result → TellsBy (FirstOf first others) result
told_others first others value (Ok other) passes tells = record {
  accepted = λ fault either. elim either [ inl is ↦ passes.accepted fault is | inr is ↦ tells.accepted fault is.1 ];
  refused = tt;
}
told_others first others value (Err fault) passes tells = record {
  accepted = tt;
  refused = elim tells.refused [ inl outside ↦ inl outside | inr is ↦ inr (inr (passes.accepted, is)) ];
}

-- what comes from outside may come at any place
pub told_outside : {T : Type 0} (tests : Test) (fault : FilteredFault) → IsOutside fault → TellsBy {T = T} tests (Err fault)
told_outside tests fault outside = record { accepted = tt; refused = inl outside }

-- a refusal by a test that holds
pub told_by : {T : Type 0} (tests : Test) (fault : FilteredFault) → tests fault → TellsBy {T = T} tests (Err fault)
told_by tests fault is = record { accepted = tt; refused = inr is }

-- the desk's own tests
pub desk_told : {T U : Type 0} (tests : Refusal) (own : DeskFault) → KeepsWord tests → AnswersBy {T = T} tests (Err own) → TellsBy {T = U} (ByDesk tests) (Err (of_desk_fault own))
desk_told tests own word answers = record {
  accepted = tt;
  refused = elim answers.refused [ inl outside ↦ inl (outside_of own outside) | inr is ↦ inr (own, is, word own is) ];
}

pub desk_passed : {T U : Type 0} (tests : Refusal) (value : T) (other : U) → AnswersBy tests (Ok value) → TellsBy (ByDesk tests) (Ok other)
desk_passed tests value other answers = record { accepted = λ fault by. answers.accepted by.0 by.1; refused = tt }

-- ---- with a test at the end
pub ended_first : {T U : Type 0} (tests end : Test) (fault : FilteredFault) → TellsBy {T = T} tests (Err fault) → TellsToEnd {T = U} tests end (Err fault)
ended_first tests end fault tells = record { accepted = tt; refused = elim tells.refused [ inl outside ↦ inl outside | inr is ↦ inr (inl is) ] }

pub ended_outside : {T : Type 0} (tests end : Test) (fault : FilteredFault) → IsOutside fault → TellsToEnd {T = T} tests end (Err fault)
ended_outside tests end fault outside = record { accepted = tt; refused = inl outside }

pub ended_well : {T U : Type 0} (tests end : Test) (value : T) (other : U) → TellsBy tests (Ok value) → TellsToEnd tests end (Ok other)
ended_well tests end value other tells = record { accepted = tells.accepted; refused = tt }

pub ended_last : {T U V : Type 0} (tests end : Test) (own : DeskFault) (value : T) (last : Refusal) → TellsBy tests (Ok value) → AnswersBy {T = U} last (Err own)
    → (last own → end (of_desk_fault own)) → TellsToEnd {T = V} tests end (Err (of_desk_fault own))
ended_last tests end own value last tells answers leads = record {
  accepted = tt;
  refused = elim answers.refused [ inl outside ↦ inl (outside_of own outside) | inr is ↦ inr (inr (tells.accepted, leads is)) ];
}
