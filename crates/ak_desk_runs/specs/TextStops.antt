-- How what a text says goes in the program: it is answered, or stops.
use Rattle.std.specs.Prelude.{◌≡◌, ◌≢◌, ◌⊎◌, ⊤, ℕ, List, Some, Result, Ok, Err}
use Rattle.ak_desk_language.specs.AnyLines.{SaysAnyLine}
use Rattle.ak_desk_language.specs.declared.any_lines.AnyLine.{AnyLine}
use Rattle.ak_desk_lines.specs.declared.turns.Turn.{Turn}
use Rattle.ak_desk_runs.specs.LineOutcomes.{EndsAtDesk}
use Rattle.ak_desk_runs.specs.RunStates.{LineState}
use Rattle.ak_desk_texts.specs.FaultTexts.{refusal_text}
use Rattle.ak_desk_texts.specs.declared.answers.DeskAnswer.{DeskAnswer}
use Rattle.ak_desk_texts.specs.declared.line_refusals.LineRefusal.{LineRefusal}
use Rattle.ak_desk_texts.specs.declared.line_refusals.LineRefusal.TheVariants as refusals
use Rattle.ak_edit.specs.declared.desk_faults.DeskFault.TheVariants as desks
use Rattle.ak_line_runs.specs.LineTexts.{SaysNoLine}
use Rattle.ak_line_runs.specs.declared.line_stops.LineStop.{LineStop}
use Rattle.ak_line_runs.specs.declared.line_stops.LineStop.TheVariants as stops

-- a line of the desk is answered there, or stops so
abbrev pub SaidComesOut : AnyLine → Turn → LineState → LineState → Result DeskAnswer LineStop → Type 0
SaidComesOut said turn s t (Ok answer) = EndsAtDesk said turn s t (Ok answer)
SaidComesOut said turn s t (Err (stops.Refused why)) =
    (refusal : LineRefusal) × EndsAtDesk said turn s t (Err refusal) × (refusal_text refusal ≡ Some why)
SaidComesOut said turn s t (Err stops.Failed) = EndsAtDesk said turn s t (Err (refusals.Desk desks.Failed))
SaidComesOut said turn s t (Err stops.Memory) =
    (refusal : LineRefusal) × (refusal ≢ refusals.Desk desks.Failed) × EndsAtDesk said turn s t (Err refusal)

-- the stop of a text that says no line of the desk
abbrev pub IsUnsaid : List ℕ → Result DeskAnswer LineStop → Type 0
IsUnsaid text (Ok answer) = ⊥
IsUnsaid text (Err (stops.Refused why)) = SaysNoLine text why
IsUnsaid text (Err stops.Failed) = ⊥
IsUnsaid text (Err stops.Memory) = ⊤

-- a text says a line of the desk that comes out so, or it says none, or memory was out before that was known
abbrev pub TextComesOut : List ℕ → Turn → LineState → LineState → Result DeskAnswer LineStop → Type 0
TextComesOut text turn s t result =
    ((said : AnyLine) × SaysAnyLine text said × SaidComesOut said turn s t result)
    ⊎ (t ≡ s) × IsUnsaid text result
