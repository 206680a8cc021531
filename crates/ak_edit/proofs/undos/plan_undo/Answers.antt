use Rattle.std.proofs.Common.{◌≡◌, Some, ◌∙◌}
use Rattle.std.specs.FinMap.{get}
use Rattle.ak_faults.proofs.Healths.{goes_further}
use Rattle.ak_keep.proofs.Causing.{cause-ok}
use Rattle.ak_keep.specs.Collections.{Holding}
use Rattle.ak_edit.proofs.Planning.{where_both}
use Rattle.ak_edit.specs.UndoPlans.{IsUndoPlan, undo_writes}
use Rattle.ak_edit.proofs.undos.plan_undo.Goals as goal

pub returns-clause-reads : goal.returns-clause-reads
returns-clause-reads g c =
    let K = g.K.Lookup in
    record {
      kept = c.in_ok-before.ensures.reads.kept ∙ c.in_ok-writes.ensures.reads.kept;
      same = c.in_ok-before.ensures.reads.same ∙ c.in_ok-writes.ensures.reads.same;
      cause = cause-ok _ (goes_further c.in_ok-writes.ensures.reads.cause.goes c.in_ok-before.ensures.reads.cause.goes);
      told = where_both (K.keeping c.args.keeper.now) (λ (h : Holding). c.in_ok-writes.writes.items ≡ undo_writes c.args.now.second (get h.rows) c.args.step.now.rows)
          (λ (h : Holding). h.head ≡ Some c.in_ok-before.before)
          (λ (h : Holding). IsUndoPlan c.args.now c.args.step.now h (record { writes = c.in_ok-writes.writes; before = c.in_ok-before.before; after = c.in_ok-after.after }))
          (λ h writes head. record { head = head; writes = writes })
          (rw c.as_slice.ensures at c.in_ok-writes.ensures.reads.told) (rw c.in_ok-writes.ensures.reads.same at c.in_ok-before.ensures.reads.told);
    }
