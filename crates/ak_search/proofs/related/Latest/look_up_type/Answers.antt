use Rattle.std.proofs.Common.{refl, sym}
use Rattle.ak_faults.proofs.Healths.{goes_nowhere}
use Rattle.ak_keep.proofs.Causing.{cause-ok}
use Rattle.ak_search.proofs.Telling.{type_none}
use Rattle.ak_search.proofs.related.Latest.look_up_type.Goals as goal

pub returns-in-None : goal.returns-in-None
returns-in-None g c = record {
  reads = record {
    kept = refl;
    same = refl;
    cause = cause-ok tt (goes_nowhere (g.R.Lookup.health c.args.from.now));
    told = type_none (g.R.Lookup.keeping c.args.from.now).told c.args.self.now _ refl (sym c.in-None.ensures);
  };
}
