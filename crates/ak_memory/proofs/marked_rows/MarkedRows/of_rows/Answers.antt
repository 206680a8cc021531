use Rattle.std.proofs.Common.{◌≡◌, [], ap, ◌∙◌, arith}
use Rattle.std.proofs.lemmas.Grind.{common_steps}
use Rattle.ak_memory.proofs.Filling.{filled-all, fills-first, fills-next}
use Rattle.ak_memory.proofs.marked_rows.MarkedRows.of_rows.Goals as goal

pub loop-row-init : goal.loop-row-init
loop-row-init c =
    fills-first c.new-made.result.current c.into_iter-row-iterator.result.rest.items c.args.rows (ap (λ v. v.current) c.new-made.ensures) (c.into_iter-row-iterator.ensures.into_iter_gives.0 ∙ c.into_vec-row-items.ensures)

pub loop-row-preserved : goal.loop-row-preserved
loop-row-preserved c = λ q.
    fills-next c.loop-row.made.current c.add.new.self.current c.in-Some.row c.loop-row.row-iterator.rest.items c.next.new.self.rest.items c.in-Some.ensures.steps.0 q (c.in_ok-add.ensures q) ∙ c.loop-row.invariant q

pub returns : goal.returns
returns c =
    let none : c.loop-row.row-iterator.rest.items ≡ [] = grind (arith, common_steps) in
    filled-all c.loop-row.made.current c.loop-row.row-iterator.rest.items c.args.rows none c.loop-row.invariant
