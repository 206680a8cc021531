-- How calls end, as lines.
use Rattle.std.specs.Prelude.{◌≡◌, is_some, Result, Ok, Err, IfErr, IfOk, OnErr}
use Rattle.std.proofs.Common.{ap, ◌∙◌}
use Rattle.ak_any_lines.specs.FilteredCalls.{EndsCall}
use Rattle.ak_any_lines.specs.LineResults.{RefusalCause, by_call, by_desk, line_refusal, without_value}
use Rattle.ak_desk.specs.Desks.{IsIdle}
use Rattle.ak_desk_lines.proofs.EndedLines.{same_state}
use Rattle.ak_desk_lines.specs.DeskStates.{DeskState}
use Rattle.ak_desk_texts.specs.declared.answers.DeskAnswer.{DeskAnswer}
use Rattle.ak_desk_texts.specs.declared.line_refusals.LineRefusal.{LineRefusal}
use Rattle.ak_desk_texts.specs.declared.line_refusals.LineRefusal.TheVariants as refusals
use Rattle.ak_edit.specs.Refusals.{DeskCause}
use Rattle.ak_edit.specs.declared.desk_faults.DeskFault.{DeskFault}
use Rattle.ak_edit.specs.declared.desk_faults.DeskFault.TheVariants as desk
use Rattle.ak_faults.specs.Causes.{Health}
use Rattle.ak_filtered.specs.FilteredFaults.{FilteredCause}
use Rattle.ak_filtered.specs.declared.faults.FilteredFault.{FilteredFault}
use Rattle.ak_filtered.specs.declared.faults.FilteredFault.TheVariants as filtered
use Rattle.ak_keep.specs.Collections.{Collection}
use Rattle.ak_keep.specs.Keepers.{Keeping, WhereHeld}

-- ---- a refusal leaves all as it was
pub left_as_was : {T E : Type 0} (was now : DeskState) (made : Result T E) → OnErr made (now.keeping ≡ was.keeping) → OnErr made (now.steps ≡ was.steps)
    → OnErr made (now ≡ was)
left_as_was was now (Ok value) held steps = tt
left_as_was was now (Err fault) held steps = same_state was now held steps

-- a call on filtered decks ended so
pub call_ends : {T : Type 0} (IsDone : Collection → T → Type 0) (Tells : Collection → Result T FilteredFault → Type 0) (May : FilteredFault → Type 0) (was now : DeskState) (made : Result T FilteredFault)
    → IfOk made (λ value. WhereHeld was.keeping (λ c. IsDone c value)) → OnErr made (now.keeping ≡ was.keeping) → OnErr made (now.steps ≡ was.steps)
    → WhereHeld was.keeping (λ c. Tells c made) → IfErr made May → now.keeping.headed ≡ was.keeping.headed → EndsCall IsDone Tells May was now made
call_ends IsDone Tells May was now made done held steps tests listed stays = record {
  done = done;
  left = left_as_was was now made held steps;
  tests = tests;
  listed = listed;
  stays = stays;
}

-- ---- causes
-- the fault of a refusal, if it is the desk's
abbrev own_fault : LineRefusal → DeskFault
own_fault (refusals.Desk fault) = fault
own_fault refusal = desk.Memory

same_refusal : {T : Type 0} (a b : LineRefusal) → ◌≡◌ {A = Result T LineRefusal} (Err a) (Err b) → a ≡ b
same_refusal a b is = cc

as_desk : {T : Type 0} (fault : DeskFault) → ◌≡◌ {A = Result T LineRefusal} (Err (refusals.Desk fault)) (Err (refusals.Desk desk.Failed)) → fault ≡ desk.Failed
as_desk fault is = ap own_fault (same_refusal (refusals.Desk fault) (refusals.Desk desk.Failed) is)

pub desk_cause : (made : Result DeskAnswer DeskFault) (before now : Health) → DeskCause before now made → RefusalCause before now (by_desk made)
desk_cause (Ok answer) before now cause = record { goes = cause.goes; failed = λ is. cc; unfailed = λ _ is. cc }
desk_cause (Err fault) before now cause = record {
  goes = cause.goes;
  failed = λ is. cause.failed (ap Err (as_desk fault is));
  unfailed = λ calm is. cause.unfailed calm (ap Err (as_desk fault is));
}

-- a fault of a call on filtered decks that is the keeper's
keepers_own : (fault : FilteredFault) → line_refusal fault ≡ refusals.Desk desk.Failed → fault ≡ filtered.Desk desk.Failed
keepers_own (filtered.Desk fault) is = ap filtered.Desk (ap own_fault is)
keepers_own (filtered.NotFiltered deck) is = cc
keepers_own (filtered.Search fault) is = cc
keepers_own (filtered.BadPlan deck) is = cc
keepers_own filtered.Memory is = cc

pub call_cause : {T : Type 0} (answer : T → DeskAnswer) (made : Result T FilteredFault) (before now : Health) → FilteredCause before now made
    → RefusalCause before now (by_call answer made)
call_cause answer (Ok value) before now cause = record { goes = cause.goes; failed = λ is. cc; unfailed = λ _ is. cc }
call_cause answer (Err fault) before now cause = record {
  goes = cause.goes;
  failed = λ is. cause.failed (ap Err (keepers_own fault (same_refusal (line_refusal fault) (refusals.Desk desk.Failed) is)));
  unfailed = λ calm is. cause.unfailed calm (ap Err (keepers_own fault (same_refusal (line_refusal fault) (refusals.Desk desk.Failed) is)));
}

-- the value of a result makes no difference for its cause
pub valueless_cause : {T : Type 0} (made : Result T DeskFault) (before now : Health) → DeskCause before now made → DeskCause before now (without_value made)
valueless_cause (Ok value) before now cause = record { goes = cause.goes; failed = λ is. cc; unfailed = λ _ is. cc }
valueless_cause (Err fault) before now cause = record {
  goes = cause.goes;
  failed = λ is. cause.failed (as_failed is);
  unfailed = λ calm is. cause.unfailed calm (as_failed is);
}
  where
    as_failed : {U : Type 0} → ◌≡◌ {A = Result (Unit {0}) DeskFault} (Err fault) (Err desk.Failed) → ◌≡◌ {A = Result U DeskFault} (Err fault) (Err desk.Failed)
    as_failed is = cc

pub listed_without : {T : Type 0} (made : Result T DeskFault) (P : DeskFault → Type 0) → IfErr made P → IfErr (without_value made) P
listed_without (Ok value) P listed = tt
listed_without (Err fault) P listed = listed

-- ---- a desk between two calls
-- a keeper whose marks and heads are as they were is idle still
pub idle_still : (k now : Keeping) → now.headed ≡ k.headed → IsIdle k → IsIdle now
idle_still k now same idle = record {
  unmarked = ap (λ h. is_some h.mark) same ∙ idle.unmarked;
  held = ap (λ h. h.current) same ∙ idle.held;
}
