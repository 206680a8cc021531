use Rattle.std.proofs.Common.{false, refl}
use Rattle.std.proofs.lemmas.Result.{IfOk-weaker}
use Rattle.ak_faults.proofs.Healths.{goes_nowhere}
use Rattle.ak_keep.proofs.Causing.{cause-ok}
use Rattle.ak_search.proofs.Telling.{hit_told, no_hit_told}
use Rattle.ak_search.proofs.searches.is_hit.Goals as goal

pub returns-in-Card : goal.returns-in-Card
returns-in-Card g c =
    let asked = c.meets.ensures.reads in
    record {
      reads = record {
        kept = asked.kept;
        same = asked.same;
        cause = asked.cause;
        told = IfOk-weaker c.meets.result _ _ (λ is. hit_told (g.R.Lookup.keeping c.args.from.now).told c.args.search.now c.meets.new.self c.args.row.now c.in-Card.card is c.in-Card.is) asked.told;
      };
    }

pub returns-in_default : goal.returns-in_default
returns-in_default g c = record {
  reads = record {
    kept = refl;
    same = refl;
    cause = cause-ok false (goes_nowhere (g.R.Lookup.health c.args.from.now));
    told = no_hit_told (g.R.Lookup.keeping c.args.from.now).told c.args.search.now c.args.row.now c.in_default.not-Card;
  };
}
