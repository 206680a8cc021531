use Rattle.std.proofs.Common.{refl, w64}
use Rattle.std.proofs.lemmas.Int.{to_z-of_z}
use Rattle.ak_faults.proofs.Healths.{goes_nowhere}
use Rattle.ak_keep.proofs.Causing.{cause-ok}
use Rattle.ak_search.proofs.Telling.{note_known, note_read}
use Rattle.ak_search.proofs.related.Latest.look_up_note.Goals as goal

pub returns-then-is_by : goal.returns-then-is_by
returns-then-is_by g c = record {
  reads = record {
    kept = refl;
    same = refl;
    cause = cause-ok tt (goes_nowhere (g.R.Lookup.health c.args.from.now));
    told = note_known (g.R.Lookup.keeping c.args.from.now).told c.args.self.now c.args.id (rw (to_z-of_z w64 c.args.id c.ranges.id) at (c.is_by.ensures c.if-is_by.true));
  };
}

pub returns : goal.returns
returns g c =
    let read = c.in_ok-note.ensures.reads in
    record {
      reads = record {
        kept = read.kept;
        same = read.same;
        cause = cause-ok tt read.cause.goes;
        told = note_read (g.R.Lookup.keeping c.args.from.now).told c.args.self.now _ c.args.id c.in_ok-note.note (rw (to_z-of_z w64 c.args.id c.ranges.id) refl) (rw (to_z-of_z w64 c.args.id c.ranges.id) at read.told);
      };
    }
