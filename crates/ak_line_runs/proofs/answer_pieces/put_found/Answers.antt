use Rattle.std.proofs.lemmas.Result.{on_err_weaker}
use Rattle.ak_io.proofs.Scripts.{part_after, part_longer}
use Rattle.ak_desk_texts.specs.AnswerTexts.{ids_text}
use Rattle.ak_line_runs.proofs.Pieces.{told}
use Rattle.ak_line_runs.proofs.answer_pieces.put_found.Goals as goal

pub returns-in_err-put_number-clause-part : goal.returns-in_err-put_number-clause-part
returns-in_err-put_number-clause-part g c = told _ _ _ _ (part_longer _ _ _ (ids_text c.args.cards.now) c.in_err-put_number.ensures.part)

pub returns-clause-part : goal.returns-clause-part
returns-clause-part g c = on_err_weaker c.put_ids.result (part_after _ _ _ _ _ c.in_ok-put_number.ensures.ok) c.put_ids.ensures.part
