use Rattle.std.proofs.Common.{◌≡◌, ◌∙◌, [], refl, subst, rules}
use Rattle.std.proofs.lemmas.List.{append-nil}
use Rattle.ak_edit.specs.Plans.{IsPlanOf}
use Rattle.ak_faults.proofs.Healths.{goes_further}
use Rattle.ak_edit.proofs.Distinct.{distinct_writes, plan_on}
use Rattle.ak_edit.proofs.Planning.{planned_on}
use Rattle.ak_edit.proofs.plans.plan_rows.Goals as goal

pub loop-name-preserved : goal.loop-name-preserved
loop-name-preserved g c =
    let K = g.K.Lookup in
    record {
      planned = planned_on (K.keeping c.args.keeper.now) c.args.now.second c.args.rows.now.entries c.next.new.self (c.in-Some.name.now, c.in-Some.made.now) c.loop-name.writes.items c.plan_row.new.writes.items
          (rw c.in-Some.ensures.steps at c.loop-name.invariant.planned) (rw c.loop-name.invariant.same at c.in_ok-plan_row.ensures.reads.told);
      made = plan_on c.args.now.second c.args.rows.now.entries c.next.new.self (c.in-Some.name.now, c.in-Some.made.now) c.loop-name.writes.items c.plan_row.new.writes.items
          (rw c.in-Some.ensures.steps at c.loop-name.invariant.made) c.in_ok-plan_row.ensures.some;
      read = c.in_ok-plan_row.ensures.read c.loop-name.invariant.read;
      kept = c.in_ok-plan_row.ensures.reads.kept ∙ c.loop-name.invariant.kept;
      same = c.in_ok-plan_row.ensures.reads.same ∙ c.loop-name.invariant.same;
      goes = goes_further c.loop-name.invariant.goes c.in_ok-plan_row.ensures.reads.cause.goes;
    }

pub returns-clause-distinct : goal.returns-clause-distinct
returns-clause-distinct g c =
    let ended : c.loop-name.name-iterator ≡ [] = search rules in
    let made = rw ended at c.loop-name.invariant.made in
    distinct_writes c.args.now.second c.args.rows.now.entries c.loop-name.writes.items (subst (IsPlanOf c.args.now.second c.args.rows.now.entries) (append-nil c.loop-name.writes.items) (made [] refl)) c.len-ordered.ensures.ordered
