use Rattle.std.proofs.Common.{refl, to_z, of_z, w64}
use Rattle.std.proofs.lemmas.Int.{to_z-of_z}
use Rattle.ak_faults.proofs.Healths.{goes_nowhere}
use Rattle.ak_keep.proofs.Causing.{cause-ok}
use Rattle.ak_search.proofs.Telling.{type_known, type_read, type_turned, with_type}
use Rattle.ak_search.proofs.related.Latest.look_up_type_at.Goals as goal

pub returns-then-is_by : goal.returns-then-is_by
returns-then-is_by g c = record {
  reads = record {
    kept = refl;
    same = refl;
    cause = cause-ok tt (goes_nowhere (g.R.Lookup.health c.args.from.now));
    told = type_known (g.R.Lookup.keeping c.args.from.now).told c.args.self.now c.args.id (rw (to_z-of_z w64 c.args.id c.ranges.id) at (c.is_by.ensures c.if-is_by.true)) c.requires;
  };
}

pub returns : goal.returns
returns g c =
    let read = c.in_ok-note_type.ensures.reads in
    let kept = c.keep_type.new.self in
    let own = to_z w64 (of_z w64 c.args.id) in
    let fits = to_z-of_z w64 c.args.id c.ranges.id in
    let found = c.in_ok-note_type.note_type in
    record {
      reads = record {
        kept = read.kept;
        same = read.same;
        cause = cause-ok tt read.cause.goes;
        told = type_read (g.R.Lookup.keeping c.args.from.now).told c.args.self.now (with_type kept own found c.take.new.self) c.args.id found kept.types
            (type_turned c.args.self.now kept own c.args.id found c.take.new.self c.keep_type.ensures.same fits) c.requires c.in_ok-keep_type.ensures.types (rw fits at read.told);
      };
    }
