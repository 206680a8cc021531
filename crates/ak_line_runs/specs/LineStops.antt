-- Why a line does not go.
use Rattle.std.specs.Prelude.{◌≡◌, ◌≢◌, ⊤, ℕ, List, Some, Result}
use Rattle.ak_desk_language.specs.declared.line_faults.LineFault.{LineFault}
use Rattle.ak_desk_texts.specs.FaultTexts.{line_fault_text, refusal_text}
use Rattle.ak_desk_texts.specs.declared.line_refusals.LineRefusal.{LineRefusal}
use Rattle.ak_desk_texts.specs.declared.line_refusals.LineRefusal.TheVariants as refusals
use Rattle.ak_edit.specs.declared.desk_faults.DeskFault.TheVariants as desks
use Rattle.ak_faults.specs.Causes.{Health, HasCauseOf}
use Rattle.ak_line_runs.specs.declared.line_stops.LineStop.{LineStop}
use Rattle.ak_line_runs.specs.declared.line_stops.LineStop.TheVariants as stops

-- it is refused by this text, or memory was out for it
abbrev pub IsStopBy : List ℕ → LineStop → Type 0
IsStopBy text (stops.Refused why) = why ≡ text
IsStopBy text stops.Failed = ⊥
IsStopBy text stops.Memory = ⊤

-- the stop for a text that says no line
abbrev pub IsLineStop : LineFault → LineStop → Type 0
IsLineStop fault (stops.Refused why) = line_fault_text fault ≡ Some why
IsLineStop fault stops.Failed = ⊥
IsLineStop fault stops.Memory = ⊤

-- the stop for a line that the desk refuses: it is that of the keeper exactly if the refusal is
abbrev pub IsRefusalStop : LineRefusal → LineStop → Type 0
IsRefusalStop refusal (stops.Refused why) = refusal_text refusal ≡ Some why
IsRefusalStop refusal stops.Failed = refusal ≡ refusals.Desk desks.Failed
IsRefusalStop refusal stops.Memory = refusal ≢ refusals.Desk desks.Failed

-- a line stops for the keeper only if that counted a fault, and never over a calm one
abbrev pub StopCause : {T : Type 0} → Health → Health → Result T LineStop → Type 0
StopCause before now result = HasCauseOf stops.Failed before now result
