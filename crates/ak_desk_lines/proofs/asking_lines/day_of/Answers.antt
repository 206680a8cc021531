use Rattle.std.proofs.Common.{rules, w64, SFits}
use Rattle.std.proofs.lemmas.Int.{to_z-of_z}
use Rattle.ak_desk_lines.proofs.FoundDays.{day_told}
use Rattle.ak_keep.proofs.Causing.{cause-ok}
use Rattle.ak_desk_lines.proofs.asking_lines.day_of.Goals as goal

pub returns : goal.returns
returns g c =
    let at : SFits w64 c.args.at = c.ranges.at in
    let crt : SFits w64 c.in-Some.head.crt = search rules in
    record {
      reads = record {
        kept = c.in_ok-head.ensures.reads.kept;
        same = c.in_ok-head.ensures.reads.same;
        cause = cause-ok _ c.in_ok-head.ensures.reads.cause.goes;
        told = day_told (g.K.Lookup.keeping c.args.keeper.now) c.args.at c.in_ok-head.field-0 c.in-Some.head c.of.result c.in-Some.is c.in_ok-head.ensures.reads.told
            (rw (to_z-of_z w64 c.in-Some.head.crt crt, to_z-of_z w64 c.args.at at) at c.of.ensures.day);
      };
    }
