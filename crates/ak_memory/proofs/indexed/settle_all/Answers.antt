use Rattle.std.proofs.Common.{◌+◌, List, drop, length, ap, ◌∙◌, arith}
use Rattle.ak_base.specs.declared.names.Name.{Name}
use Rattle.ak_memory.proofs.Settling.{changed-step, names_from, rows-step}
use Rattle.ak_memory.proofs.indexed.settle_all.Goals as goal

pub loop-name-preserved : goal.loop-name-preserved
loop-name-preserved c =
    let names : List Name = c.args.names.now in
    let i = c.loop-name.name-index in
    let step = c.settle_one.ensures in
    let inv = c.loop-name.invariant in
    let parts = names_from names i _ c.loop-name-test.true in
    record {
      keys = step.keys;
      rows = λ each q. rows-step (drop i names) (drop (i + 1) names) _ c.args.version c.loop-name.places.entries c.settle_one.new.places.entries parts step.rows each q ∙ inv.rows each q;
      changed = λ q. changed-step (drop i names) (drop (i + 1) names) _ c.loop-name.places.entries c.settle_one.new.places.entries parts step.changed q ∙ inv.changed q;
      full = λ f. step.full (inv.full f);
      count = let left = ap length parts in omega (arith, left, step.count, inv.count);
    }
