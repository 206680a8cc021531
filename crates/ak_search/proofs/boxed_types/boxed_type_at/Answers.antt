use Rattle.std.proofs.Common.{sym, w64}
use Rattle.std.proofs.lemmas.Int.{to_z-of_z}
use Rattle.ak_keep.proofs.Causing.{cause-ok}
use Rattle.ak_search.proofs.boxed_types.boxed_type_at.Goals as goal

pub returns : goal.returns
returns g c =
    let read = c.in_ok-found.ensures.reads in
    record {
      reads = record {
        kept = read.kept;
        same = read.same;
        cause = cause-ok c.in_ok-made.made read.cause.goes;
        told = rw (to_z-of_z w64 c.args.id c.ranges.id) at (rw (sym c.in_ok-made.ensures) at read.told);
      };
    }
