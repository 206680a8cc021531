use Rattle.std.proofs.Common.{◌≡◌, Some, sym, ap, subst, ◌∙◌}
use Rattle.std.specs.FinMap.{entries, get}
use Rattle.ak_faults.proofs.Healths.{goes_further}
use Rattle.ak_keep.proofs.Causing.{cause-ok}
use Rattle.ak_keep.specs.Collections.{Holding}
use Rattle.ak_edit.proofs.Entries.{entries-from_sorted}
use Rattle.ak_edit.proofs.Heading.{after_in_range}
use Rattle.ak_edit.proofs.Planning.{where_both}
use Rattle.ak_edit.specs.Carrying.{IsPlanned}
use Rattle.ak_edit.specs.Overlays.{IsFitting, Overlay}
use Rattle.ak_edit.specs.Plans.{writes_of}
use Rattle.ak_edit.proofs.changes.Change.plan.Goals as goal

pub returns-clause-reads : goal.returns-clause-reads
returns-clause-reads g c =
    let K = g.K.Lookup in
    let same_entries : entries c.args.self.now.rows ≡ c.self.inside.rows.entries =
    ap (λ (o : Overlay). entries o.rows) (sym c.self.view_is) ∙ entries-from_sorted c.self.inside.rows.entries c.in_ok-writes.ensures.ordered in
    record {
      kept = c.in_ok-before.ensures.reads.kept ∙ c.in_ok-writes.ensures.reads.kept;
      same = c.in_ok-before.ensures.reads.same ∙ c.in_ok-writes.ensures.reads.same;
      cause = cause-ok _ (goes_further c.in_ok-writes.ensures.reads.cause.goes c.in_ok-before.ensures.reads.cause.goes);
      told = where_both (K.keeping c.args.keeper.now) (λ (h : Holding). c.in_ok-writes.writes.items ≡ writes_of c.args.now.second (get h.rows) c.self.inside.rows.entries)
          (λ (h : Holding). h.head ≡ Some c.in_ok-before.before)
          (λ (h : Holding). IsPlanned c.args.now c.args.self.now h (record { writes = c.in_ok-writes.writes; before = c.in_ok-before.before; after = c.in_ok-after.after }))
          (λ h writes head. record { head = head; after = c.in_ok-after.ensures; writes = writes ∙ ap (writes_of c.args.now.second (get h.rows)) (sym same_entries) })
          c.in_ok-writes.ensures.reads.told (rw c.in_ok-writes.ensures.reads.same at c.in_ok-before.ensures.reads.told);
    }

pub returns-clause-range : goal.returns-clause-range
returns-clause-range g c = record {
  read = c.in_ok-writes.ensures.read;
  distinct = c.in_ok-writes.ensures.distinct;
  before = c.in_ok-before.ensures.range;
  after = after_in_range c.args.now.at c.args.self.now c.in_ok-before.before c.in_ok-after.after c.in_ok-after.ensures (subst IsFitting c.self.view_is c.self.invariant) c.in_ok-before.ensures.range;
}
