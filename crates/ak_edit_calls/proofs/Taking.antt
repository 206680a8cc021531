-- The answers of calls, whatever they give if they are accepted.
use Rattle.std.specs.Prelude.{◌≡◌, Result, Ok, Err, Option, Some, None, IfOk, IfSome}
use Rattle.std.proofs.Common.{ap, inl, arith}
use Rattle.std.specs.Result.{IsErrOf}
use Rattle.ak_edit.specs.Refusals.{AnswersBy, DeskCause, IsFromOutside, Refusal}
use Rattle.ak_edit.specs.declared.desk_faults.DeskFault.{DeskFault}
use Rattle.ak_edit.specs.declared.desk_faults.DeskFault.TheVariants as faults
use Rattle.ak_faults.proofs.Healths.{goes_further, goes_nowhere}
use Rattle.ak_faults.specs.Causes.{GoesOn, Health}
use Rattle.ak_keep.specs.Collections.{Collection, Holding, collection_of}
use Rattle.ak_keep.specs.Keepers.{Keeping, WhereHeld}
use Rattle.ak_keep.specs.Marks.{WithMark}

-- an answer that gives something else
pub ok_too : {T U : Type 0} (tests : Refusal) (value : T) (other : U) → AnswersBy tests (Ok value) → AnswersBy tests (Ok other)
ok_too tests value other answers = record { accepted = answers.accepted; refused = tt }

pub err_too : {T U : Type 0} (tests : Refusal) (fault : DeskFault) → AnswersBy {T = T} tests (Err fault) → AnswersBy {T = U} tests (Err fault)
err_too tests fault answers = record { accepted = tt; refused = answers.refused }

some_all : (o : Option Collection) (P : Collection → Type 0) → ((c : Collection) → P c) → IfSome o P
some_all None P all = tt
some_all (Some c) P all = all c

told_all : (told : Option (WithMark Holding)) (P : Collection → Type 0) → ((c : Collection) → P c) → IfSome told (λ w. IfSome (collection_of w.current) P)
told_all None P all = tt
told_all (Some w) P all = some_all (collection_of w.current) P all

-- what is true of any collection is true of the one that is held
pub where_held-all : (k : Keeping) (P : Collection → Type 0) → ((c : Collection) → P c) → WhereHeld k P
where_held-all k P all = told_all k.told P all

-- what follows of what a call gives
pub if_ok-map : {T : Type 0} (result : Result T DeskFault) (P Q : T → Type 0) → ((value : T) → P value → Q value) → IfOk result P → IfOk result Q
if_ok-map (Ok value) P Q step is = step value is
if_ok-map (Err fault) P Q step is = tt

-- ---- the cause
-- what a later part of a call caused is caused by the call
pub later_cause : {T : Type 0} (a b c : Health) (result : Result T DeskFault) → GoesOn a b → DeskCause b c result → DeskCause a c result
later_cause a b c result goes cause = record {
  goes = goes_further goes cause.goes;
  failed = λ is. let rose = cause.failed is in omega (arith, rose, goes.later);
  unfailed = λ calm is. cause.unfailed (goes.calm calm) is;
}

abbrev pub error_in : {T : Type 0} → DeskFault → Result T DeskFault → DeskFault
error_in other (Ok value) = other
error_in other (Err fault) = fault

-- a refusal by one fault, of a call that gives something else
same_refusal : {T U : Type 0} (fault other : DeskFault) → IsErrOf {T = T} (Err fault) other → IsErrOf {T = U} (Err fault) other
same_refusal fault other is = ap Err (ap (error_in fault) is)

pub cause_too : {T U : Type 0} (a b : Health) (fault : DeskFault) → DeskCause {T = T} a b (Err fault) → DeskCause {T = U} a b (Err fault)
cause_too a b fault cause = record {
  goes = cause.goes;
  failed = λ is. cause.failed (same_refusal fault faults.Failed is);
  unfailed = λ calm is. cause.unfailed calm (same_refusal fault faults.Failed is);
}

-- a refusal that is no failure of the keeper has no cause in it
pub no_cause : {T : Type 0} (a b : Health) (fault : DeskFault) → GoesOn a b → (fault ≡ faults.Failed → ⊥) → DeskCause {T = T} a b (Err fault)
no_cause a b fault goes other = record {
  goes = goes;
  failed = λ is. absurd (other (ap (error_in fault) is));
  unfailed = λ calm is. other (ap (error_in fault) is);
}

pub no_cause_here : {T : Type 0} (a : Health) (fault : DeskFault) → (fault ≡ faults.Failed → ⊥) → DeskCause {T = T} a a (Err fault)
no_cause_here a fault other = no_cause a a fault (goes_nowhere a) other

-- ---- from outside
-- out of memory, or the keeper failed
pub outside_held : (T : Type 0) (k : Keeping) (tests : Collection → Refusal) (fault : DeskFault) → IsFromOutside fault → WhereHeld k (λ c. AnswersBy {T = T} (tests c) (Err fault))
outside_held T k tests fault outside = where_held-all k (λ c. AnswersBy {T = T} (tests c) (Err fault)) (λ c. record { accepted = tt; refused = inl outside })
