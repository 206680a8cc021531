-- How a line of a lab's script ends, by what the lab was before it and is after it.
use Rattle.std.specs.Prelude.{◌≡◌, ◌⊎◌, ℕ, true, false, List, [], Some, None, codes}
use Rattle.ak_io.specs.declared.lines.Line.{Line}
use Rattle.ak_lab.specs.LabStates.{LabState, at_line}
use Rattle.ak_lab.specs.LabSteps.{Accepts, RefusesWith, RunsShort}
use Rattle.ak_lab_lines.specs.LabLines.{lab_line_of}
use Rattle.ak_lab_lines.specs.declared.lab_lines.LabLine.{LabLine}
use Rattle.ak_line_runs.specs.LineRuns.{Accepted, Failed, OutOfMemory, Outcome, Refused, RunKind}
use Rattle.ak_line_runs.specs.LineTexts.{is_skipped_line, text_in, textless}

-- a line that is said ends so. In a lab no line ends for a failed keeper
abbrev pub SaidEnds : LabLine → LabState → LabState → Outcome → Type 0
SaidEnds said s t (Accepted printed) = Accepts said s t printed
SaidEnds said s t (Refused why) = RefusesWith said s t why
SaidEnds said s t Failed = ⊥
SaidEnds said s t OutOfMemory = RunsShort said s t

-- a line says nothing: it is skipped, or refused, or memory was out before that was known
abbrev pub SaysNothing : Line → Outcome → Type 0
SaysNothing line (Accepted printed) = (is_skipped_line line ≡ true) × (printed ≡ [])
SaysNothing line (Refused why) = (is_skipped_line line ≡ false)
    × ((text_in line ≡ None) × (why ≡ textless line)
    ⊎ (text : List ℕ) × (text_in line ≡ Some text) × (lab_line_of text ≡ None) × (why ≡ codes "bad line"))
SaysNothing line Failed = ⊥
SaysNothing line OutOfMemory = is_skipped_line line ≡ false

-- a line has a text that says this
abbrev pub Says : Line → LabLine → Type 0
Says line said =
    (is_skipped_line line ≡ false) × (text : List ℕ) × (text_in line ≡ Some text) × (lab_line_of text ≡ Some said)

-- how the line of this number ends: it says nothing and changes nothing, or what it says ends so
abbrev pub EndsAs : RunKind LabState
EndsAs number line s t outcome =
    (t ≡ at_line number s) × SaysNothing line outcome
    ⊎ (said : LabLine) × Says line said × SaidEnds said (at_line number s) t outcome
