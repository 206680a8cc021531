use Rattle.std.proofs.Common.{codes}
use Rattle.std.proofs.KnownBytes.{Appends-trans}
use Rattle.std.proofs.lemmas.Result.{on_err_weaker}
use Rattle.ak_io.proofs.Scripts.{part_after, part_longer}
use Rattle.ak_desk_texts.specs.AnswerTexts.{ids_text}
use Rattle.ak_line_runs.proofs.Pieces.{longer, told}
use Rattle.ak_line_runs.proofs.answer_pieces.put_note.Goals as goal

pub returns-in_err-put_id-clause-part : goal.returns-in_err-put_id-clause-part
returns-in_err-put_id-clause-part g c = told _ _ _ _ (longer _ _ _ (codes " cards") (ids_text c.args.cards.now) c.in_err-put_id.ensures.part)

pub returns-in_err-write_all-clause-part : goal.returns-in_err-write_all-clause-part
returns-in_err-write_all-clause-part g c =
    told _ _ _ _ (part_longer _ _ _ (ids_text c.args.cards.now) (part_after _ _ _ _ (codes " cards") c.in_ok-put_id.ensures.ok c.in_err-write_all.ensures.part))

pub returns-clause-part : goal.returns-clause-part
returns-clause-part g c =
    on_err_weaker c.put_ids.result (part_after _ _ _ _ _ (Appends-trans _ _ _ _ (codes " cards") c.in_ok-put_id.ensures.ok c.in_ok-write_all.ensures.ok)) c.put_ids.ensures.part
