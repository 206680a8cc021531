use Rattle.std.proofs.Common.{◌≡◌}
use Rattle.std.proofs.lemmas.Result.{on_err_weaker}
use Rattle.ak_io.proofs.Scripts.{part_after, part_longer}
use Rattle.ak_line_runs.proofs.Pieces.{told}
use Rattle.ak_line_runs.proofs.answer_pieces.put_between.Goals as goal

pub returns-in_err-put_id-clause-part : goal.returns-in_err-put_id-clause-part
returns-in_err-put_id-clause-part g c = told _ _ _ _ (part_longer _ _ _ c.args.after.now c.in_err-put_id.ensures.part)

pub returns-clause-part : goal.returns-clause-part
returns-clause-part g c =
    let bytes : c.as_bytes.result.now ≡ c.args.after.now = c.as_bytes.ensures.value in
    on_err_weaker c.write_all.result (part_after _ _ _ _ _ c.in_ok-put_id.ensures.ok) (rw bytes at c.write_all.ensures.part)
