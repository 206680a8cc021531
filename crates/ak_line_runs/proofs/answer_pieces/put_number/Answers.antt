use Rattle.std.proofs.Common.{◌≡◌}
use Rattle.std.proofs.lemmas.Result.{on_err_weaker}
use Rattle.ak_io.proofs.Scripts.{part_after, part_longer}
use Rattle.ak_line_runs.proofs.Pieces.{told}
use Rattle.ak_line_runs.proofs.answer_pieces.put_number.Goals as goal

pub returns-in_err-write_all-clause-part : goal.returns-in_err-write_all-clause-part
returns-in_err-write_all-clause-part g c =
    let bytes : c.as_bytes.result.now ≡ c.args.words.now = c.as_bytes.ensures.value in
    told _ _ _ _ (part_longer _ _ c.args.words.now (g.I.Integer.text c.args.number) (rw bytes at c.in_err-write_all.ensures.part))

pub returns-clause-part : goal.returns-clause-part
returns-clause-part g c =
    let bytes : c.as_bytes.result.now ≡ c.args.words.now = c.as_bytes.ensures.value in
    on_err_weaker c.put_digits.result (part_after _ _ _ _ _ (rw bytes at c.in_ok-write_all.ensures.ok)) c.put_digits.ensures.part
