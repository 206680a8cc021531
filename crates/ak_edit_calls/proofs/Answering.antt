-- How the tests of a call follow one another.
use Rattle.std.specs.Prelude.{Result, Ok, Err, OnOk}
use Rattle.std.proofs.Common.{inl, inr}
use Rattle.ak_edit.specs.Refusals.{AnswersBy, OrElse, Refusal}
use Rattle.ak_edit.specs.declared.desk_faults.DeskFault.{DeskFault}

-- a refusal by the first tests is one by all
pub refused_first : {T U : Type 0} (first others : Refusal) (fault : DeskFault) → AnswersBy {T = T} first (Err fault) → AnswersBy {T = U} (OrElse first others) (Err fault)
refused_first first others fault answers = record {
  accepted = tt;
  refused = elim answers.refused [ inl outside ↦ inl outside | inr is ↦ inr (inl is) ];
}

-- the answer of the others, if the first tests pass
pub passed_first : {T U : Type 0} (first others : Refusal) (value : T) (result : Result U DeskFault) → AnswersBy first (Ok value) → AnswersBy others result → AnswersBy (OrElse first others) result
passed_first first others value (Ok other) passes answers = record {
  accepted = λ fault either. elim either [ inl is ↦ passes.accepted fault is | inr is ↦ answers.accepted fault is.1 ];
  refused = tt;
}
passed_first first others value (Err fault) passes answers = record {
  accepted = tt;
  refused = elim answers.refused [ inl outside ↦ inl outside | inr is ↦ inr (inr (passes.accepted, is)) ];
}

-- the answer of the others, if the first tests never refuse
pub never_first : {T : Type 0} (first others : Refusal) (result : Result T DeskFault) → ((fault : DeskFault) → first fault → ⊥) → AnswersBy (OrElse first others) result → AnswersBy others result
never_first first others (Ok value) never answers = record { accepted = λ fault is. answers.accepted fault (inr (never, is)); refused = tt }
never_first first others (Err fault) never answers = record {
  accepted = tt;
  refused = elim answers.refused [ inl outside ↦ inl outside | inr either ↦ elim either [ inl is ↦ absurd (never fault is) | inr is ↦ inr is.1 ] ];
}

-- what follows of a call that went through
pub on_ok-map : {T : Type 0} (result : Result T DeskFault) (P Q : Type 0) → (P → Q) → OnOk result P → OnOk result Q
on_ok-map (Ok value) P Q step is = step is
on_ok-map (Err fault) P Q step is = tt
