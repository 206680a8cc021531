-- A run of a lab's lines, out of that of its lines.
use Rattle.std.proofs.Common.{◌≡◌, ◌≢◌, ℕ, Bool, true, Result, Ok, Err, IfOk, List, [], Option, subst, inl, inr}
use Rattle.ak_io.specs.Lines.{Reading, lines_left}
use Rattle.ak_io.specs.declared.lines.Line.{Line}
use Rattle.ak_lab.specs.LabRuns.{IsLabOpening, RunsLab}
use Rattle.ak_lab.specs.LabStates.{IsReady, LabState, opened_lab}
use Rattle.ak_lab.specs.LineOutcomes.{EndsAs}
use Rattle.ak_line_runs.proofs.Going.{PastStops}
use Rattle.ak_line_runs.proofs.Stopping.{printed_is_accepted, printed_is_failed}
use Rattle.ak_line_runs.specs.LinePrints.{printed_by}
use Rattle.ak_line_runs.specs.LineRuns.{Failed, IsLineRun, came_to, input_lines}
use Rattle.ak_line_runs.specs.RunSteps.{IsCamePrinted}
use Rattle.ak_line_runs.specs.declared.command_ends.CommandEnd.{CommandEnd}
use Rattle.ak_line_runs.specs.declared.command_ends.CommandEnd.TheVariants as ends
use Rattle.ak_line_runs.specs.declared.line_prints.LinePrint.{LinePrint}
use Rattle.ak_line_runs.specs.declared.line_stops.LineStop.{LineStop}
use Rattle.ak_openings.specs.declared.whole_collections.Opening.{Opening}
use Rattle.ak_sync_in_memory.specs.declared.logs.Entry.{Entry}

-- the line past the input's limit doesn't go
pub past_stops : PastStops EndsAs
past_stops number s t printed (inl (same, (skipped, none))) = cc
past_stops number s t printed (inr (said, (unskipped, text, is, says), ends)) = cc

-- no line ends for a failed keeper
never_failed : (number : ℕ) (line : Line) (s t : LabState) → EndsAs number line s t Failed → ⊥
never_failed number line s t (inl (same, nothing)) = nothing
never_failed number line s t (inr (said, says, nothing)) = nothing

-- nor does the run for one
pub goes_unfailed : (number : ℕ) (line : Line) (s t : LabState) (came : Result (List (List ℕ)) LineStop) (went : Result Bool CommandEnd) (w w' : Option (List ℕ))
    → EndsAs number line s t (came_to came) → IsCamePrinted number came went w w' → went ≢ Err ends.KeeperFailed
goes_unfailed number line s t came went w w' ended shown is =
    never_failed number line s t
    (subst (λ (r : Result (List (List ℕ)) LineStop). EndsAs number line s t (came_to r)) (printed_is_failed number came went w w' shown is) ended)

-- if the run goes on, the lab is ready for the next line
pub ready_after_line : (number : ℕ) (came : Result LinePrint LineStop) (went : Result Bool CommandEnd) (w w' : Option (List ℕ)) (s : LabState)
    → IsCamePrinted number (printed_by came) went w w' → IfOk came (λ printed. IsReady s) → went ≡ Ok true → IsReady s
ready_after_line number (Ok print) went w w' s shown ready is = ready
ready_after_line number (Err stop) went w w' s shown ready is = let e = (printed_is_accepted number (Err stop) went w w' shown is).1 in cc

-- a lab that was opened ran all lines of the input
pub runs_lab : (end : CommandEnd) (left : Option (List ℕ)) (reading : Reading) (opening : Opening) (before last : LabState) (entries : List Entry) (w0 w1 : Option (List ℕ))
    → reading ≡ record { ahead = []; room = 1_073_741_824; number = 0 } → before ≡ opened_lab opening → IsLabOpening opening
    → IsLineRun EndsAs end (lines_left reading left) before last w0 w1 → entries ≡ last.server.entries → RunsLab end (input_lines left) entries w0 w1
runs_lab end left reading opening before last entries w0 w1 starts same opens run log = record {
  opening = opening;
  opens = opens;
  last = last;
  run = subst (λ (s : LabState). IsLineRun EndsAs end (input_lines left) s last w0 w1) same
      (subst (λ (r : Reading). IsLineRun EndsAs end (lines_left r left) before last w0 w1) starts run);
  log = log;
}
