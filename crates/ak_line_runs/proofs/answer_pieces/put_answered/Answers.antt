use Rattle.std.proofs.Common.{codes}
use Rattle.std.proofs.lemmas.Result.{on_err_weaker, on_ok_weaker}
use Rattle.std.specs.Fmt.{signed_decimal}
use Rattle.ak_line_runs.proofs.Pieces.{longer, next_part, next_written, told}
use Rattle.ak_line_runs.proofs.answer_pieces.put_answered.Goals as goal

pub returns-in_err-put_id-clause-part : goal.returns-in_err-put_id-clause-part
returns-in_err-put_id-clause-part g c = told _ _ _ _ (longer _ _ _ (codes " ivl ") (signed_decimal c.args.interval.now) (longer _ _ _ (codes " due ") (signed_decimal c.args.due.now) c.in_err-put_id.ensures.part))

pub returns-in_err-put_id-2-clause-part : goal.returns-in_err-put_id-2-clause-part
returns-in_err-put_id-2-clause-part g c =
    told _ _ _ _ (longer _ _ _ (codes " ivl ") (signed_decimal c.args.interval.now) (next_part _ _ _ _ (codes " due ") (signed_decimal c.args.due.now) c.in_ok-put_id.ensures.ok c.in_err-put_id-2.ensures.part))

pub returns-clause-ok : goal.returns-clause-ok
returns-clause-ok g c =
    on_ok_weaker c.put_id-3.result (next_written _ _ _ _ (codes " ivl ") (signed_decimal c.args.interval.now) (next_written _ _ _ _ (codes " due ") (signed_decimal c.args.due.now) c.in_ok-put_id.ensures.ok c.in_ok-put_id-2.ensures.ok)) c.put_id-3.ensures.ok

pub returns-clause-part : goal.returns-clause-part
returns-clause-part g c =
    on_err_weaker c.put_id-3.result (next_part _ _ _ _ (codes " ivl ") (signed_decimal c.args.interval.now) (next_written _ _ _ _ (codes " due ") (signed_decimal c.args.due.now) c.in_ok-put_id.ensures.ok c.in_ok-put_id-2.ensures.ok)) c.put_id-3.ensures.part
