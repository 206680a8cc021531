-- What an accepted line prints.
use Rattle.std.specs.Prelude.{ℕ, List, [], ◌∷◌, Result, Ok, Err}
use Rattle.ak_desk_texts.specs.AnswerTexts.{answer_text}
use Rattle.ak_line_runs.specs.declared.line_prints.LinePrint.{LinePrint}
use Rattle.ak_line_runs.specs.declared.line_prints.LinePrint.TheVariants as prints
use Rattle.ak_line_runs.specs.declared.line_stops.LineStop.{LineStop}

-- the lines that it prints
abbrev pub printed_lines : LinePrint → List (List ℕ)
printed_lines (prints.Lines lines) = lines
printed_lines (prints.Answer answer) = answer_text answer ∷ []

-- the lines that a line prints, or why it stops
abbrev pub printed_by : Result LinePrint LineStop → Result (List (List ℕ)) LineStop
printed_by (Ok print) = Ok (printed_lines print)
printed_by (Err stop) = Err stop
