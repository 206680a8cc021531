-- Faults that come from outside, and tests that passed.
use Rattle.std.specs.Prelude.{◌≡◌, ◌⊎◌, ℤ, Option, Some, None, IfSome, Result, Ok, Err}
use Rattle.std.proofs.Common.{inl, inr, refl, sym, ap, arith, ◌∙◌}
use Rattle.std.specs.Result.{IsErrOf}
use Rattle.ak_edit.specs.DeskFaults.{of_keep_fault}
use Rattle.ak_edit.specs.Refusals.{AnswersBy, DeskCause, IsFromOutside, Refusal}
use Rattle.ak_edit.specs.declared.desk_faults.DeskFault.{DeskFault}
use Rattle.ak_edit.specs.declared.desk_faults.DeskFault.TheVariants as faults
use Rattle.ak_edit_calls.proofs.Telling.{where_always, where_held-map}
use Rattle.ak_faults.proofs.Healths.{goes_further}
use Rattle.ak_faults.specs.Causes.{GoesOn, Health}
use Rattle.ak_keep.specs.Collections.{Collection, collection_of}
use Rattle.ak_keep.specs.Keepers.{Keeping, WhereHeld}
use Rattle.ak_keep.specs.declared.keepers.KeepFault.{KeepFault}
use Rattle.ak_keep.specs.declared.keepers.KeepFault.TheVariants as kept
use Rattle.ak_study.specs.Answers.{IsAskedFault, IsCardFault}

pub from_keeper : (fault : KeepFault) → IsFromOutside (of_keep_fault fault)
from_keeper kept.Failed = inl refl
from_keeper kept.Memory = inr refl

-- what comes from outside refuses by any tests
pub outside_told : (T : Type 0) (k : Keeping) (tests : Collection → Refusal) (fault : DeskFault) → IsFromOutside fault → WhereHeld k (λ c. AnswersBy {T = T} (tests c) (Err fault))
outside_told T k tests fault outside =
    where_always k (λ h. IfSome (collection_of h) (λ c. AnswersBy {T = T} (tests c) (Err fault)))
    (λ h. elim (collection_of h) as (λ (o : Option Collection). IfSome o (λ c. AnswersBy {T = T} (tests c) (Err fault))) [ None ↦ tt | Some c ↦ record { accepted = tt; refused = inl outside } ])

-- tests that passed with one answer passed with any other
pub passed_told : (T U : Type 0) (k : Keeping) (tests : Collection → Refusal) (value : T) (other : U) → WhereHeld k (λ c. AnswersBy (tests c) (Ok value)) → WhereHeld k (λ c. AnswersBy (tests c) (Ok other))
passed_told T U k tests value other =
    where_held-map k (λ c. AnswersBy (tests c) (Ok value)) (λ c. AnswersBy (tests c) (Ok other)) (λ c passed. record { accepted = passed.accepted; refused = tt })

-- tests that refused one answer refused any other
pub failed_told : (T U : Type 0) (k : Keeping) (tests : Collection → Refusal) (fault : DeskFault) → WhereHeld k (λ c. AnswersBy {T = T} (tests c) (Err fault)) → WhereHeld k (λ c. AnswersBy {T = U} (tests c) (Err fault))
failed_told T U k tests fault =
    where_held-map k (λ c. AnswersBy {T = T} (tests c) (Err fault)) (λ c. AnswersBy {T = U} (tests c) (Err fault)) (λ c failed. record { accepted = tt; refused = failed.refused })

-- ---- causes
abbrev fault_in : {T : Type 0} → DeskFault → Result T DeskFault → DeskFault
fault_in other (Ok value) = other
fault_in other (Err fault) = fault

fault_is : {T : Type 0} (fault other : DeskFault) → IsErrOf {T = T} (Err fault) other → fault ≡ other
fault_is fault other is = ap (fault_in fault) is

-- a cause of one call is one of the call that made it, from an earlier moment on
pub later_cause : (T U : Type 0) (a b c : Health) (fault : DeskFault) → GoesOn a b → DeskCause {T = T} b c (Err fault) → DeskCause {T = U} a c (Err fault)
later_cause T U a b c fault goes cause = record {
  goes = goes_further goes cause.goes;
  failed = λ is. let rose = cause.failed (ap Err (fault_is fault faults.Failed is)) in omega (arith, rose, goes.later);
  unfailed = λ calm is. cause.unfailed (goes.calm calm) (ap Err (fault_is fault faults.Failed is));
}

-- what is answered has a cause
pub cause_ok : {T : Type 0} {a b : Health} (answer : T) → GoesOn a b → DeskCause a b (Ok answer)
cause_ok answer goes = record { goes = goes; failed = λ is. cc; unfailed = λ _ is. cc }

end_is_no_failure : (fault : DeskFault) → fault ≡ faults.IdEnd → fault ≡ faults.Failed → ⊥
end_is_no_failure fault is failed = let clash : faults.IdEnd ≡ faults.Failed = sym is ∙ failed in absurd (grind (arith, clash))

-- that no id is free is no failure
pub cause_of_end : (T : Type 0) (a b : Health) (fault : DeskFault) → fault ≡ faults.IdEnd → GoesOn a b → DeskCause {T = T} a b (Err fault)
cause_of_end T a b fault end goes = record {
  goes = goes;
  failed = λ is. absurd (end_is_no_failure fault end (fault_is fault faults.Failed is));
  unfailed = λ _ is. end_is_no_failure fault end (fault_is fault faults.Failed is);
}

-- a fault of a card is one of what is asked
pub card_is_asked : (id : ℤ) (fault : DeskFault) → IsFromOutside fault ⊎ IsCardFault id fault → IsFromOutside fault ⊎ IsAskedFault id fault
card_is_asked id fault is = elim is [ inl outside ↦ inl outside | inr card ↦ inr (inl card) ]
