-- Answers in other forms, and what causes them.
use Rattle.std.specs.Prelude.{◌≡◌, ℤ, Result, Ok, Err}
use Rattle.std.proofs.Common.{ap, sym, ◌∙◌}
use Rattle.std.specs.Result.{IsErrOf}
use Rattle.ak_base.specs.declared.names.Table.TheVariants as tables
use Rattle.ak_edit.specs.Refusals.{AnswersBy, DeskCause, Refusal}
use Rattle.ak_edit.specs.declared.desk_faults.DeskFault.{DeskFault}
use Rattle.ak_edit.specs.declared.desk_faults.DeskFault.TheVariants as faults
use Rattle.ak_faults.specs.Causes.{GoesOn, Health}
use Rattle.ak_merge.specs.Holdings.{name_in}
use Rattle.ak_deck_paths.specs.Additions.{IsUseFault}

-- the same tests accept whatever is answered
pub other_answer : {T U : Type 0} (tests : Refusal) (value : T) (other : U) → AnswersBy {T = T} tests (Ok value) → AnswersBy {T = U} tests (Ok other)
other_answer tests value other answers = record { accepted = answers.accepted; refused = tt }

pub other_refusal : {T U : Type 0} (tests : Refusal) (fault : DeskFault) → AnswersBy {T = T} tests (Err fault) → AnswersBy {T = U} tests (Err fault)
other_refusal tests fault answers = record { accepted = tt; refused = answers.refused }

-- ---- causes
abbrev error_in : {T : Type 0} → DeskFault → Result T DeskFault → DeskFault
error_in other (Ok value) = other
error_in other (Err fault) = fault

fault_is : {T : Type 0} (fault other : DeskFault) → IsErrOf {T = T} (Err fault) other → fault ≡ other
fault_is fault other is = ap (error_in fault) is

not_failed : (id : ℤ) → faults.InUse (name_in tables.Deck id) ≡ faults.Failed → ⊥
not_failed id is = cc

-- after what was asked, a refusal for a deck that is in the way has no cause in the keeper
pub use_cause : {T : Type 0} (a b : Health) (fault : DeskFault) → GoesOn a b → IsUseFault fault → DeskCause {T = T} a b (Err fault)
use_cause a b fault goes used = record {
  goes = goes;
  failed = λ is. absurd (not_failed used.0 (sym used.1 ∙ fault_is fault faults.Failed is));
  unfailed = λ _ is. not_failed used.0 (sym used.1 ∙ fault_is fault faults.Failed is);
}
