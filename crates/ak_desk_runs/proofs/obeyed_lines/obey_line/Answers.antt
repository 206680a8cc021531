use Rattle.std.proofs.Common.{refl, sym, ap, ◌∙◌, inl}
use Rattle.std.proofs.lemmas.Result.{err_from_is_err_and}
use Rattle.ak_desk_runs.proofs.LineStopping.{text_accepted, text_stops, textless_stops}
use Rattle.ak_line_runs.specs.LineRuns.{Accepted}
use Rattle.ak_desk_runs.proofs.obeyed_lines.obey_line.Goals as goal

pub returns-then-is_skipped_line-clause-ends : goal.returns-then-is_skipped_line-clause-ends
returns-then-is_skipped_line-clause-ends g c = inl (sym c.is_skipped_line.ensures ∙ c.if-is_skipped_line.true, refl, ap Accepted c.new.ensures)

pub returns-in-Err-clause-ends : goal.returns-in-Err-clause-ends
returns-in-Err-clause-ends g c =
    textless_stops _ _ _ _ _ c.stop_by.result (sym c.is_skipped_line.ensures ∙ c.if-is_skipped_line.false)
    (record {
      moment = c.take_turn-turn.ensures.moment;
      range = c.take_turn-turn.ensures.range;
      word = c.take_turn-turn.ensures.word;
      done = c.take_turn-turn.ensures.done;
    })
    c.in-Err.ensures.err.0 c.in-Err.ensures.err.1 refl c.stop_by.ensures

pub returns-clause-ends : goal.returns-clause-ends
returns-clause-ends g c =
    text_accepted _ _ _ _ _ _ (sym c.is_skipped_line.ensures ∙ c.if-is_skipped_line.false)
    (record {
      moment = c.take_turn-turn.ensures.moment;
      range = c.take_turn-turn.ensures.range;
      word = c.take_turn-turn.ensures.word;
      done = c.take_turn-turn.ensures.done;
    })
    c.in-Ok.ensures.ok c.in_ok-answer.ensures.ends

pub returns-in_err-answer-clause-ends : goal.returns-in_err-answer-clause-ends
returns-in_err-answer-clause-ends g c =
    let p = err_from_is_err_and c.from_residual.result c.from_residual.ensures.1 in
    rw (p.1, p.2) (text_stops _ _ _ _ _ _ (sym c.is_skipped_line.ensures ∙ c.if-is_skipped_line.false)
    (record {
      moment = c.take_turn-turn.ensures.moment;
      range = c.take_turn-turn.ensures.range;
      word = c.take_turn-turn.ensures.word;
      done = c.take_turn-turn.ensures.done;
    })
    c.in-Ok.ensures.ok c.in_err-answer.ensures.ends)
