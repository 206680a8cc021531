-- A run stops at a line that was taken, or goes on after it.
use Rattle.std.proofs.Common.{◌≡◌, ◌≢◌, ℕ, Bool, true, false, List, [], Option, Some, None, Result, Ok, Err, refl, sym, subst, inl, inr}
use Rattle.std.proofs.KnownBytes.{Appends-nil, Appends-kept}
use Rattle.std.specs.Io.KnownBytes.{Appends, Keeps}
use Rattle.ak_faults.specs.Causes.{Health, HasCauseOf}
use Rattle.ak_io.proofs.Readings.{takes_first}
use Rattle.ak_io.specs.Lines.{Takes}
use Rattle.ak_io.specs.Scripts.{refusal_bytes}
use Rattle.ak_io.specs.declared.lines.Line.{Line}
use Rattle.ak_line_runs.specs.LinePrints.{printed_by}
use Rattle.ak_line_runs.specs.LineRuns.{Accepted, IsNext, Refused, RunKind, came_to}
use Rattle.ak_line_runs.specs.RunSteps.{ArePrinted, IsCamePrinted, IsRefusalPrinted, Steps}
use Rattle.ak_line_runs.specs.declared.command_ends.CommandEnd.{CommandEnd}
use Rattle.ak_line_runs.specs.declared.command_ends.CommandEnd.TheVariants as ends
use Rattle.ak_line_runs.specs.declared.line_prints.LinePrint.{LinePrint}
use Rattle.ak_line_runs.specs.declared.line_stops.LineStop.{LineStop}
use Rattle.ak_line_runs.specs.declared.line_stops.LineStop.TheVariants as stops

-- nothing is written
kept_nothing : (w w' : Option (List ℕ)) → Keeps w w' → Appends w w' []
kept_nothing w w' kept = Appends-kept w w w' [] (Appends-nil w) kept

-- the line that was taken is the next
taken_is_next : (left left' : Option (List Line)) (line : Line) → Takes left left' (Some line) → IsNext left line
taken_is_next None left' line takes = tt
taken_is_next (Some lines) left' line takes =
    let first = takes_first lines left' line takes in subst (λ l. IsNext (Some l) line) (sym first.1) refl

-- ---- a step, by what the line that was taken came to and what was written of that
module _ {S : Type 0} (Ends : RunKind S) (left left' : Option (List Line)) (number : ℕ) (line : Line) (s t : S) (w w' : Option (List ℕ))
    (takes : Takes left left' (Some line)) where
  abbrev StepsSo : Result Bool CommandEnd → Type 0
  StepsSo went = Steps Ends left left' number s t w w' went

  next : IsNext left line
  next = taken_is_next left left' line takes

  steps_printing : (printed : List (List ℕ)) (went : Result Bool CommandEnd) → Ends number line s t (Accepted printed) → ArePrinted printed went w w' → StepsSo went
  steps_printing printed went ended (inl (goes, written)) = subst StepsSo (sym goes) (line, printed, takes, ended, written)
  steps_printing printed went ended (inr (failed, (front, rest, is, written))) =
      subst StepsSo (sym failed) (front, inl (printed, (line, next, ended), (rest, is)), written)

  steps_refused : (why : List ℕ) (went : Result Bool CommandEnd) → Ends number line s t (Refused why) → IsRefusalPrinted number why went w w' → StepsSo went
  steps_refused why went ended (inl (refused, written)) =
      subst StepsSo (sym refused) (refusal_bytes number why, (why, (line, next, ended), refl), written)
  steps_refused why went ended (inr (inl (failed, (front, rest, is, written)))) =
      subst StepsSo (sym failed) (front, inr (why, (line, next, ended), (rest, is)), written)
  steps_refused why went ended (inr (inr (out, kept))) =
      subst StepsSo (sym out) ([], (refl, inr (inr (why, (line, next, ended)))), kept_nothing w w' kept)

  pub steps_after : (came : Result (List (List ℕ)) LineStop) (went : Result Bool CommandEnd) → Ends number line s t (came_to came)
      → IsCamePrinted number came went w w' → StepsSo went
  steps_after (Ok printed) went ended shown = steps_printing printed went ended shown
  steps_after (Err (stops.Refused why)) went ended shown = steps_refused why went ended shown
  steps_after (Err stops.Failed) went ended (failed, kept) = subst StepsSo (sym failed) ([], ((line, next, ended), refl), kept_nothing w w' kept)
  steps_after (Err stops.Memory) went ended (out, kept) = subst StepsSo (sym out) ([], (refl, inr (inl (line, next, ended))), kept_nothing w w' kept)

-- ---- what is told of a line by how its print ended
-- it was accepted, if the run goes on
pub printed_is_accepted : (number : ℕ) (came : Result (List (List ℕ)) LineStop) (went : Result Bool CommandEnd) (w w' : Option (List ℕ))
    → IsCamePrinted number came went w w' → went ≡ Ok true → (printed : List (List ℕ)) × (came ≡ Ok printed)
printed_is_accepted number (Ok printed) went w w' shown is = (printed, refl)
printed_is_accepted number (Err (stops.Refused why)) went w w' (inl (refused, written)) is = cc
printed_is_accepted number (Err (stops.Refused why)) went w w' (inr (inl (failed, part))) is = cc
printed_is_accepted number (Err (stops.Refused why)) went w w' (inr (inr (out, kept))) is = cc
printed_is_accepted number (Err stops.Failed) went w w' (failed, kept) is = cc
printed_is_accepted number (Err stops.Memory) went w w' (out, kept) is = cc

-- and the input has neither ended nor failed in it
pub printed_not_input : (number : ℕ) (came : Result (List (List ℕ)) LineStop) (went : Result Bool CommandEnd) (w w' : Option (List ℕ))
    → IsCamePrinted number came went w w' → (went ≢ Ok false) × (went ≢ Err ends.Done) × (went ≢ Err ends.ReadFailed)
printed_not_input number (Ok printed) went w w' (inl (goes, written)) = ((λ is. cc), (λ is. cc), (λ is. cc))
printed_not_input number (Ok printed) went w w' (inr (failed, part)) = ((λ is. cc), (λ is. cc), (λ is. cc))
printed_not_input number (Err (stops.Refused why)) went w w' (inl (refused, written)) = ((λ is. cc), (λ is. cc), (λ is. cc))
printed_not_input number (Err (stops.Refused why)) went w w' (inr (inl (failed, part))) = ((λ is. cc), (λ is. cc), (λ is. cc))
printed_not_input number (Err (stops.Refused why)) went w w' (inr (inr (out, kept))) = ((λ is. cc), (λ is. cc), (λ is. cc))
printed_not_input number (Err stops.Failed) went w w' (failed, kept) = ((λ is. cc), (λ is. cc), (λ is. cc))
printed_not_input number (Err stops.Memory) went w w' (out, kept) = ((λ is. cc), (λ is. cc), (λ is. cc))

-- the keeper failed in it, if the print tells so
pub printed_is_failed : (number : ℕ) (came : Result (List (List ℕ)) LineStop) (went : Result Bool CommandEnd) (w w' : Option (List ℕ))
    → IsCamePrinted number came went w w' → went ≡ Err ends.KeeperFailed → came ≡ Err stops.Failed
printed_is_failed number (Ok printed) went w w' (inl (goes, written)) is = cc
printed_is_failed number (Ok printed) went w w' (inr (failed, part)) is = cc
printed_is_failed number (Err (stops.Refused why)) went w w' (inl (refused, written)) is = cc
printed_is_failed number (Err (stops.Refused why)) went w w' (inr (inl (failed, part))) is = cc
printed_is_failed number (Err (stops.Refused why)) went w w' (inr (inr (out, kept))) is = cc
printed_is_failed number (Err stops.Failed) went w w' shown is = refl
printed_is_failed number (Err stops.Memory) went w w' (out, kept) is = cc

stop_of : (came : Result LinePrint LineStop) (stop : LineStop) → printed_by came ≡ Err stop → came ≡ Err stop
stop_of (Ok print) stop is = cc
stop_of (Err other) stop is = cc

failed_in : (number : ℕ) (came : Result LinePrint LineStop) (went : Result Bool CommandEnd) (w w' : Option (List ℕ))
    → IsCamePrinted number (printed_by came) went w w' → went ≡ Err ends.KeeperFailed → came ≡ Err stops.Failed
failed_in number came went w w' shown is = stop_of came stops.Failed (printed_is_failed number (printed_by came) went w w' shown is)

-- so the keeper's cause is handed on
pub keeper_caused : (number : ℕ) (came : Result LinePrint LineStop) (went : Result Bool CommandEnd) (w w' : Option (List ℕ)) (before now : Health)
    → HasCauseOf stops.Failed before now came → IsCamePrinted number (printed_by came) went w w' → HasCauseOf ends.KeeperFailed before now went
keeper_caused number came went w w' before now cause shown = record {
  goes = cause.goes;
  failed = λ is. cause.failed (failed_in number came went w w' shown is);
  unfailed = λ calm is. cause.unfailed calm (failed_in number came went w w' shown is);
}
