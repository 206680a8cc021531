use Rattle.std.proofs.Common.{rules, w64}
use Rattle.std.proofs.lemmas.Int.{to_z-of_z}
use mir.Val.{SFits}
use Rattle.ak_keep.proofs.Causing.{cause-ok}
use Rattle.ak_queue.proofs.Burying.{sibling_told}
use Rattle.ak_queue.proofs.PartLists.{taken_other}
use Rattle.ak_queue.proofs.burials.take_sibling.Goals as goal

pub returns-clause-taken : goal.returns-clause-taken
returns-clause-taken g c =
    let fits : SFits w64 c.args.id = search rules in
    taken_other c.takes-taken.result c.args.burial.answered c.args.id c.args.buried.now c.push_if.new.buried (rw (to_z-of_z w64 c.args.id fits) at c.takes-taken.ensures.other) (rw (to_z-of_z w64 c.args.id fits) at c.in_ok-push_if.ensures)

pub returns-clause-reads : goal.returns-clause-reads
returns-clause-reads g c =
    let fits : SFits w64 c.args.id = search rules in
    let found = c.in_ok-found.ensures.reads in
    record {
      kept = found.kept;
      same = found.same;
      cause = cause-ok tt found.cause.goes;
      told = sibling_told (g.R.Lookup.keeping c.args.from.now).told c.args.burial c.args.id c.in_ok-found.found c.takes-taken.result c.args.buried.now c.push_if.new.buried (rw (to_z-of_z w64 c.args.id fits) at found.told) (rw (to_z-of_z w64 c.args.id fits) at c.takes-taken.ensures.buried) (rw (to_z-of_z w64 c.args.id fits) at c.in_ok-push_if.ensures);
    }
