use Rattle.std.proofs.Common.{drop}
use Rattle.ak_faults.specs.Causes.{GoesOn}
use Rattle.ak_io.specs.Scripts.{Reached}
use Rattle.ak_desk_texts.specs.AnswerTexts.{ids_text}
use Rattle.ak_line_runs.proofs.answer_pieces.put_ids.Given as goal

-- the ids that are left are still to be written
abbrev pub invariant-loop-id : goal.invariant-loop-id
invariant-loop-id g l = record {
  so_far : Reached (g.O.Sink.written l.fn.out) (g.O.Sink.written l.out) (ids_text l.ids) (ids_text (drop l.id-index l.ids));
  goes : GoesOn (g.O.End.health l.fn.out) (g.O.End.health l.out);
}
