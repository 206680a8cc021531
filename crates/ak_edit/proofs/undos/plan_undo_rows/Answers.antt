use Rattle.std.proofs.Common.{◌∙◌, arith}
use Rattle.ak_faults.proofs.Healths.{goes_further}
use Rattle.ak_edit.proofs.Undoing.{passes_on, put_back_told}
use Rattle.ak_edit.proofs.undos.plan_undo_rows.Goals as goal

pub loop-before-preserved : goal.loop-before-preserved
loop-before-preserved g c =
    let K = g.K.Lookup in
    record {
      planned = put_back_told (K.keeping c.args.keeper.now) c.args.now.second c.args.rows.now c.loop-before.before-index c.before-item.result c.in_ok-write.write c.loop-before.writes.items c.push_write.new.writes.items
          (omega arith) c.before-item.is c.loop-before.invariant.planned (rw c.loop-before.invariant.same at c.in_ok-write.ensures.reads.told) c.in_ok-push_write.ensures.ok;
      passing = rw c.in_ok-push_write.ensures.ok (passes_on c.loop-before.writes.items c.in_ok-write.write c.loop-before.invariant.passing c.in_ok-write.ensures.passing);
      kept = c.in_ok-write.ensures.reads.kept ∙ c.loop-before.invariant.kept;
      same = c.in_ok-write.ensures.reads.same ∙ c.loop-before.invariant.same;
      goes = goes_further c.loop-before.invariant.goes c.in_ok-write.ensures.reads.cause.goes;
    }
