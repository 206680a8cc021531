-- Why a line of a lab does not go.
use Rattle.std.specs.Prelude.{◌≡◌, ⊤, ℕ, List, [], ◌∷◌, ◌++◌, Some, Result, Ok, Err}
use Rattle.ak_client.specs.declared.outcomes.Outcome.{Outcome}
use Rattle.ak_edit.specs.declared.desk_faults.DeskFault.{DeskFault}
use Rattle.ak_lab.specs.LabSyncs.{session_word}
use Rattle.ak_lab_wires.specs.declared.lab_sessions.SessionKind.{SessionKind}
use Rattle.ak_lab_lines.specs.LabTexts.{ending_text, no_request_text}
use Rattle.ak_lab_wires.specs.Servings.{HasRequests, first_lacking}
use Rattle.ak_line_runs.specs.declared.line_stops.LineStop.{LineStop}
use Rattle.ak_line_runs.specs.declared.line_stops.LineStop.TheVariants as stops
use Rattle.ak_sync_in_memory.specs.Entries.{LoggedState}
use Rattle.ak_outcomes.specs.OutcomeTexts.{outcome_text}
use Rattle.ak_desk_texts.specs.FaultTexts.{desk_fault_text}

-- the stop for requests that the server's log lacks
abbrev pub LacksStop : ℕ → ℕ → LoggedState → LineStop → Type 0
LacksStop from count server (stops.Refused why) =
    (HasRequests from count server → ⊥) × (why ≡ no_request_text (first_lacking from count server))
LacksStop from count server stops.Failed = ⊥
LacksStop from count server stops.Memory = ⊤

-- the stop for new reviews that are refused
abbrev pub IsDeskStop : DeskFault → LineStop → Type 0
IsDeskStop fault (stops.Refused why) = desk_fault_text fault ≡ Some why
IsDeskStop fault stops.Failed = ⊥
IsDeskStop fault stops.Memory = ⊤

-- the line of a session that ended so after those of what crossed it, or memory was out for it. An outcome that has no text is that memory was out
abbrev pub PrintsOutcome : SessionKind → List ℕ → List (List ℕ) → Outcome → Result (List (List ℕ)) LineStop → Type 0
PrintsOutcome kind name crossed outcome (Ok printed) = (text : List ℕ) × (outcome_text outcome ≡ Some text)
    × (printed ≡ crossed ++ ending_text (session_word kind) name text ∷ [])
PrintsOutcome kind name crossed outcome (Err stop) = stop ≡ stops.Memory
