use Rattle.std.proofs.Common.{refl, to_z, of_z, w64}
use Rattle.std.proofs.lemmas.Int.{to_z-of_z}
use Rattle.ak_faults.proofs.Healths.{goes_nowhere}
use Rattle.ak_keep.proofs.Causing.{cause-ok}
use Rattle.ak_search.proofs.Telling.{type_looked_up, type_taken}
use Rattle.ak_search.proofs.kept_types.KeptTypes.take.Goals as goal

pub returns-in-Some : goal.returns-in-Some
returns-in-Some g c = record {
  reads = record {
    kept = refl;
    same = refl;
    cause = cause-ok c.in-Some.note_type (goes_nowhere (g.R.Lookup.health c.args.from.now));
    told = type_taken (g.R.Lookup.keeping c.args.from.now).told c.args.self.now (record { by_id = c.remove.new.self }) c.args.id (to_z w64 (of_z w64 c.args.id)) c.in-Some.note_type (to_z-of_z w64 c.args.id c.ranges.id)
        c.in-Some.ensures.value c.remove.ensures.updates.0;
  };
}

pub returns-in-None : goal.returns-in-None
returns-in-None g c =
    let read = c.boxed_type_at.ensures.reads in
    record {
      reads = record {
        kept = read.kept;
        same = read.same;
        cause = read.cause;
        told = type_looked_up (g.R.Lookup.keeping c.args.from.now).told c.args.self.now (record { by_id = c.remove.new.self }) c.args.id (to_z w64 (of_z w64 c.args.id)) c.boxed_type_at.result c.remove.ensures.updates.0
            (rw (to_z-of_z w64 c.args.id c.ranges.id) at read.told);
      };
    }
