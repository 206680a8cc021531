use Rattle.std.proofs.Common.{◌≡◌, rules, w64, SFits}
use Rattle.std.proofs.lemmas.Int.{to_z-of_z}
use Rattle.ak_filtered.proofs.Filling.{day_read}
use Rattle.ak_keep.proofs.Causing.{cause-ok}
use Rattle.ak_filtered.proofs.builds.read_day.Goals as goal

pub returns-clause-reads : goal.returns-clause-reads
returns-clause-reads g c =
    let at : SFits w64 c.args.at = c.ranges.at in
    let crt : SFits w64 c.in-Some.head.crt = search rules in
    record {
      kept = c.in_ok-head.ensures.reads.kept;
      same = c.in_ok-head.ensures.reads.same;
      cause = cause-ok _ c.in_ok-head.ensures.reads.cause.goes;
      told = day_read (g.K.Lookup.keeping c.args.keeper.now) c.args.at c.of.result c.in_ok-head.field-0 c.in-Some.head c.in-Some.is
          (rw (to_z-of_z w64 c.args.at at, to_z-of_z w64 c.in-Some.head.crt crt) at c.of.ensures.day) c.in_ok-head.ensures.reads.told;
    }
