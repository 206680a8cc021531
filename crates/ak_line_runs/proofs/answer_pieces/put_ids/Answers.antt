use Rattle.ak_line_runs.proofs.Pieces.{id_stopped, id_written, told}
use Rattle.ak_faults.proofs.Healths.{goes_further}
use Rattle.ak_line_runs.proofs.answer_pieces.put_ids.Goals as goal

pub returns-in_err-put_id-clause-part : goal.returns-in_err-put_id-clause-part
returns-in_err-put_id-clause-part g c =
    told _ _ _ _ (id_stopped _ _ _ _ c.args.ids.now c.loop-id.id-index c.loop-id-test.true c.loop-id.invariant.so_far c.in_err-put_id.ensures.part)

pub loop-id-preserved : goal.loop-id-preserved
loop-id-preserved g c = record {
  so_far = id_written _ _ _ _ c.args.ids.now c.loop-id.id-index c.loop-id-test.true c.loop-id.invariant.so_far c.in_ok-put_id.ensures.ok;
  goes = goes_further c.loop-id.invariant.goes c.in_ok-put_id.ensures.cause.goes;
}
