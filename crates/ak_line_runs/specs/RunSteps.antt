-- What a step of a run does: one line, with what is written for it.
use Rattle.std.specs.Prelude.{◌≡◌, ◌⊎◌, ℕ, Bool, true, false, List, length, Option, Some, Result, Ok, Err}
use Rattle.std.specs.Io.KnownBytes.{Appends, Keeps}
use Rattle.ak_faults.specs.Causes.{Health, HasCauseOf}
use Rattle.ak_io.specs.Lines.{Takes}
use Rattle.ak_io.specs.Scripts.{AppendsPart, refusal_bytes, written_lines}
use Rattle.ak_io.specs.declared.lines.Line.{Line}
use Rattle.ak_line_runs.specs.LineRuns.{Accepted, AllGo, AreLines, RunKind, Stops}
use Rattle.ak_line_runs.specs.declared.command_ends.CommandEnd.{CommandEnd}
use Rattle.ak_line_runs.specs.declared.command_ends.CommandEnd.TheVariants as ends
use Rattle.ak_line_runs.specs.declared.line_stops.LineStop.{LineStop}
use Rattle.ak_line_runs.specs.declared.line_stops.LineStop.TheVariants as stops

-- ---- what is written of a line
-- the lines are written and the run goes on, or a front of them is and the output failed
abbrev pub ArePrinted : List (List ℕ) → Result Bool CommandEnd → Option (List ℕ) → Option (List ℕ) → Type 0
ArePrinted lines result old new = (result ≡ Ok true) × Appends old new (written_lines lines)
    ⊎ (result ≡ Err ends.WriteFailed) × AppendsPart old new (written_lines lines)

-- the refusal of the line of this number is written; or a front of it, if the output failed; or nothing, if memory was out for it
abbrev pub IsRefusalPrinted : ℕ → List ℕ → Result Bool CommandEnd → Option (List ℕ) → Option (List ℕ) → Type 0
IsRefusalPrinted number why result old new = (result ≡ Err ends.Refused) × Appends old new (refusal_bytes number why)
    ⊎ (result ≡ Err ends.WriteFailed) × AppendsPart old new (refusal_bytes number why)
    ⊎ (result ≡ Err ends.Memory) × Keeps old new

-- what the line of this number came to is written
abbrev pub IsCamePrinted : ℕ → Result (List (List ℕ)) LineStop → Result Bool CommandEnd → Option (List ℕ) → Option (List ℕ) → Type 0
IsCamePrinted number (Ok printed) result old new = ArePrinted printed result old new
IsCamePrinted number (Err (stops.Refused why)) result old new = IsRefusalPrinted number why result old new
IsCamePrinted number (Err stops.Failed) result old new = (result ≡ Err ends.KeeperFailed) × Keeps old new
IsCamePrinted number (Err stops.Memory) result old new = (result ≡ Err ends.Memory) × Keeps old new

-- ---- steps
-- a line was taken of those that were left, it went, and what it prints was written
abbrev pub TakesAndGoes : {S : Type 0} → RunKind S → Option (List Line) → Option (List Line) → ℕ → S → S
    → Option (List ℕ) → Option (List ℕ) → Type 0
TakesAndGoes Ends left left' number s t old new =
    (line : Line) × (printed : List (List ℕ)) × Takes left left' (Some line) × Ends number line s t (Accepted printed)
    × Appends old new (written_lines printed)

-- the run stopped at the next line, and what it wrote of it
abbrev pub StopsThere : {S : Type 0} → RunKind S → CommandEnd → Option (List Line) → ℕ → S → S
    → Option (List ℕ) → Option (List ℕ) → Type 0
StopsThere Ends end left number s t old new = (more : List ℕ) × Stops Ends end left number s t more × Appends old new more

-- what a step of a run comes to: a line went, none is left, or the run stopped
abbrev pub Steps : {S : Type 0} → RunKind S → Option (List Line) → Option (List Line) → ℕ → S → S
    → Option (List ℕ) → Option (List ℕ) → Result Bool CommandEnd → Type 0
Steps Ends left left' number s t old new (Ok true) = TakesAndGoes Ends left left' number s t old new
Steps Ends left left' number s t old new (Ok false) = StopsThere Ends ends.Done left number s t old new
Steps Ends left left' number s t old new (Err end) = StopsThere Ends end left number s t old new

-- these lines went so far and that was written, and these are left
pub record IsSoFar {S : Type 0} (Ends : RunKind S) (all left : Option (List Line)) (taken : ℕ) (before reached : S) (old now : Option (List ℕ))
    : Type 0 where
  pub gone : List Line
  pub printed : List (List ℕ)
  pub number : length gone ≡ taken
  pub lines : AreLines all gone left
  pub goes : AllGo Ends 1 gone before reached printed
  pub written : Appends old now (written_lines printed)

-- a step ends with a failed end only if that counted a fault, and never with a calm one
pub record StepCause (result : Result Bool CommandEnd) (keeps keeps' reads reads' writes writes' : Health) : Type 0 where
  pub kept : HasCauseOf ends.KeeperFailed keeps keeps' result
  pub read : HasCauseOf ends.ReadFailed reads reads' result
  pub written : HasCauseOf ends.WriteFailed writes writes' result
