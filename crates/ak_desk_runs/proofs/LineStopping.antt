-- How a line ends, from how its text or what it says ended.
use Rattle.std.proofs.Common.{◌≡◌, ℕ, false, List, [], ◌∷◌, Some, None, Ok, Err, refl, ◌∙◌, inl, inr}
use Rattle.ak_desk_lines.specs.declared.turns.Turn.{Turn}
use Rattle.ak_desk_runs.specs.LineOutcomes.{EndsAs, TakesTurn}
use Rattle.ak_desk_runs.specs.RunStates.{RunState}
use Rattle.ak_desk_runs.specs.TextStops.{TextComesOut}
use Rattle.ak_desk_texts.specs.AnswerTexts.{answer_text}
use Rattle.ak_desk_texts.specs.declared.answers.DeskAnswer.{DeskAnswer}
use Rattle.ak_io.specs.declared.lines.Line.{Line}
use Rattle.ak_line_runs.specs.LineRuns.{Accepted, came_to}
use Rattle.ak_line_runs.specs.LineStops.{IsStopBy}
use Rattle.ak_line_runs.specs.LineTexts.{is_skipped_line, text_in, textless}
use Rattle.ak_line_runs.specs.declared.line_stops.LineStop.{LineStop}
use Rattle.ak_line_runs.specs.declared.line_stops.LineStop.TheVariants as stops

-- a line without a text stops
pub textless_stops : (line : Line) (turn : Turn) (s t : RunState) (why : List ℕ) (stop : LineStop)
    → is_skipped_line line ≡ false → TakesTurn line s t turn → text_in line ≡ None → why ≡ textless line → t.work ≡ s.work → IsStopBy why stop
    → EndsAs line s t (came_to (Err stop))
textless_stops line turn s t why (stops.Refused text) unpassed takes none is same stopped =
    inr (unpassed, turn, takes, inl (same, inl (none, stopped ∙ is)))
textless_stops line turn s t why stops.Failed unpassed takes none is same stopped = absurd stopped
textless_stops line turn s t why stops.Memory unpassed takes none is same stopped = inr (unpassed, turn, takes, inl same)

-- a text is accepted
pub text_accepted : (line : Line) (turn : Turn) (s t : RunState) (text : List ℕ) (answer : DeskAnswer)
    → is_skipped_line line ≡ false → TakesTurn line s t turn → text_in line ≡ Some text → TextComesOut text turn s.work t.work (Ok answer)
    → EndsAs line s t (Accepted (answer_text answer ∷ []))
text_accepted line turn s t text answer unpassed takes is (inl (said, says, ended)) =
    inr (unpassed, turn, takes, (answer, (text, said, is, says, ended), refl))
text_accepted line turn s t text answer unpassed takes is (inr (same, unsaid)) = absurd unsaid

-- a text stops
pub text_stops : (line : Line) (turn : Turn) (s t : RunState) (text : List ℕ) (stop : LineStop)
    → is_skipped_line line ≡ false → TakesTurn line s t turn → text_in line ≡ Some text → TextComesOut text turn s.work t.work (Err stop)
    → EndsAs line s t (came_to (Err stop))
text_stops line turn s t text (stops.Refused why) unpassed takes is (inl (said, says, (refusal, ended, told))) =
    inr (unpassed, turn, takes, inr (refusal, (text, said, is, says, ended), told))
text_stops line turn s t text (stops.Refused why) unpassed takes is (inr (same, unsaid)) =
    inr (unpassed, turn, takes, inl (same, inr (text, is, unsaid)))
text_stops line turn s t text stops.Failed unpassed takes is (inl (said, says, ended)) =
    inr (unpassed, turn, takes, (text, said, is, says, ended))
text_stops line turn s t text stops.Failed unpassed takes is (inr (same, unsaid)) = absurd unsaid
text_stops line turn s t text stops.Memory unpassed takes is (inl (said, says, (refusal, apart, ended))) =
    inr (unpassed, turn, takes, inr (refusal, apart, (text, said, is, says, ended)))
text_stops line turn s t text stops.Memory unpassed takes is (inr (same, unsaid)) = inr (unpassed, turn, takes, inl same)
