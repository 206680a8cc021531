use Rattle.std.proofs.Common.{◌≡◌, ◌∙◌, [], ◌∷◌, rules, arith}
use Rattle.std.proofs.lemmas.Grind.{common_steps}
use Rattle.ak_faults.proofs.Healths.{goes_further}
use Rattle.ak_types.proofs.NoteWalks.{rows_end, rows_one}
use Rattle.ak_types.proofs.retyped_notes.retype_rows.Goals as goal

pub loop-row-preserved : goal.loop-row-preserved
loop-row-preserved g c =
    let split : c.loop-row.row-iterator.rest.items ≡ c.in-Some.row ∷ c.next.new.self.rest.items = search rules in
    record {
      same = c.in_ok-retype_row.ensures.same ∙ c.loop-row.invariant.same;
      leads = rows_one (g.K.Lookup.keeping c.args.keeper.now) c.args.retyping.now.given.now c.args.retyping.now.old.now c.in-Some.row c.next.new.self.rest.items c.args.rows.items c.loop-row.made c.retype_row.new.made c.args.made.now
          (rw split at c.loop-row.invariant.leads) (rw c.loop-row.invariant.same at c.in_ok-retype_row.ensures.ok);
      goes = goes_further c.loop-row.invariant.goes c.in_ok-retype_row.ensures.cause.goes;
    }

pub returns-clause-ok : goal.returns-clause-ok
returns-clause-ok g c =
    let none : c.loop-row.row-iterator.rest.items ≡ [] = grind (arith, common_steps) in
    rows_end (g.K.Lookup.keeping c.args.keeper.now) c.args.retyping.now.given.now c.args.retyping.now.old.now c.args.rows.items c.loop-row.made c.args.made.now
    (rw none at c.loop-row.invariant.leads)
