use Rattle.std.proofs.Common.{[], ◌∷◌}
use Rattle.std.proofs.lemmas.Result.{on_err_weaker}
use Rattle.ak_io.proofs.Scripts.{part_after, part_longer}
use Rattle.ak_line_runs.proofs.Pieces.{told}
use Rattle.ak_line_runs.proofs.answer_pieces.print_pieces.Goals as goal

pub returns-in_err-put_answer-clause-part : goal.returns-in_err-put_answer-clause-part
returns-in_err-put_answer-clause-part g c = told _ _ _ _ (part_longer _ _ _ (10 ∷ []) c.in_err-put_answer.ensures.part)

pub returns-clause-part : goal.returns-clause-part
returns-clause-part g c = on_err_weaker c.write_all.result (part_after _ _ _ _ _ c.in_ok-put_answer.ensures.ok) c.write_all.ensures.part
