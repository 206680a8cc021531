use Rattle.std.proofs.Common.{ℤ, ◌≡◌, ◌≤ℤ◌, false, sym, ap, subst, ◌∙◌, rules, arith, w64, of_z, to_z}
use Rattle.std.proofs.lemmas.Int.{ints}
use Rattle.ak_base.specs.Limits.{last_id}
use Rattle.ak_base.specs.declared.names.Name.{Name}
use Rattle.ak_base.specs.declared.names.Table.{Table}
use Rattle.ak_memory.specs.TakenRuns.{IsRun, is_used_under}
use Rattle.ak_memory.proofs.TakenRuns.{run_more}
use Rattle.ak_memory.proofs.taken_runs.TakenRun.extended.Goals.{then-loop-name-test+else-is_used, else-loop-name-test}
use Rattle.ak_memory.proofs.taken_runs.TakenRun.extended.Goals as goal

pub loop-name-preserved : goal.loop-name-preserved
loop-name-preserved c =
    let was = c.loop-name.invariant in
    let next = c.next-name.ensures in
    record {
      taken = subst (λ (n : Name). IsRun (is_used_under c.args.places.now.entries) c.args.table (record { from = c.args.self.from; end = n.id })) (sym next)
          (run_more (is_used_under c.args.places.now.entries) c.args.table c.args.self.from c.loop-name.name was.table was.taken (sym c.is_used.ensures ∙ c.if-is_used.true));
      table = ap (λ (n : Name). n.table) next ∙ was.table;
      ahead = rw next (grind (arith, ints, was.ahead));
    }

pub returns-clause-free : goal.returns-clause-free
returns-clause-free c =
    let id = c.loop-name.name.id in
    let fits : to_z w64 (of_z w64 id) ≡ id = search rules in
    let places = c.args.places.now.entries in
    elim c.loop-name-test.branch as (λ _. to_z w64 (of_z w64 id) ≤ℤ last_id → is_used_under places (record { table = c.args.table; id = to_z w64 (of_z w64 id) }) ≡ false) [
      | then-loop-name-test+else-is_used w ↦ λ _.
          subst (λ (i : ℤ). is_used_under places (record { table = c.args.table; id = i }) ≡ false) (sym fits)
          (subst (λ (t : Table). is_used_under places (record { table = t; id = id }) ≡ false) c.loop-name.invariant.table (sym w.is_used.ensures ∙ w.if-is_used.false))
      | else-loop-name-test w ↦ λ within. absurd (grind (arith, ints, within, w.loop-name-test.false))
    ]
