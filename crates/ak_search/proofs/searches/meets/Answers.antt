use Rattle.std.proofs.Common.{false, refl}
use Rattle.ak_faults.proofs.Healths.{goes_nowhere}
use Rattle.ak_keep.proofs.Causing.{cause-ok}
use Rattle.ak_search.specs.Grammar.{pieces_in}
use Rattle.ak_search.proofs.AtOnce.{fails_stays}
use Rattle.ak_search.proofs.searches.meets.Goals as goal

pub returns-then-fails_unseen : goal.returns-then-fails_unseen
returns-then-fails_unseen g c = record {
  reads = record {
    kept = refl;
    same = refl;
    cause = cause-ok false (goes_nowhere (g.R.Lookup.health c.args.from.now));
    told = fails_stays (g.R.Lookup.keeping c.args.from.now).told c.args.context.now c.args.card.now c.args.latest.now (pieces_in c.args.tokens.now) (c.fails_unseen.ensures c.if-fails_unseen.true);
  };
}
