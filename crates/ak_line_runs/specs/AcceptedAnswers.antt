-- How many answers were accepted.
use Rattle.std.specs.Prelude.{ℕ, Result, Ok, Err}
use Rattle.ak_desk_lines.specs.LineEnds.{counted}
use Rattle.ak_desk_texts.specs.declared.answers.DeskAnswer.{DeskAnswer}
use Rattle.ak_desk_texts.specs.declared.line_refusals.LineRefusal.{LineRefusal}

-- how many answers were accepted once a line of the desk ended so, if it was that many before
abbrev pub done_after : Result DeskAnswer LineRefusal → ℕ → ℕ
done_after (Ok answer) done = counted answer done
done_after (Err refusal) done = done
