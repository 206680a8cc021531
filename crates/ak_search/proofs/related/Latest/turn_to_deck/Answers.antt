use Rattle.std.proofs.Common.{◌≡◌, of_z, refl, rules, to_z, w64}
use Rattle.ak_faults.proofs.Healths.{goes_nowhere}
use Rattle.ak_keep.proofs.Causing.{cause-ok}
use Rattle.ak_search.proofs.Telling.{deck_known, deck_read}
use Rattle.ak_search.proofs.related.Latest.turn_to_deck.Goals as goal

pub returns-then-is_by : goal.returns-then-is_by
returns-then-is_by g c =
    let id : to_z w64 (of_z w64 c.args.card.now.did) ≡ c.args.card.now.did = search rules in
    record {
      reads = record {
        kept = refl;
        same = refl;
        cause = cause-ok tt (goes_nowhere (g.R.Lookup.health c.args.from.now));
        told = deck_known (g.R.Lookup.keeping c.args.from.now).told c.args.self.now c.args.card.now (rw id at (c.is_by.ensures c.if-is_by.true));
      };
    }

pub returns : goal.returns
returns g c =
    let id : to_z w64 (of_z w64 c.args.card.now.did) ≡ c.args.card.now.did = search rules in
    let read = c.in_ok-deck.ensures.reads in
    record {
      reads = record {
        kept = read.kept;
        same = read.same;
        cause = cause-ok tt read.cause.goes;
        told = deck_read (g.R.Lookup.keeping c.args.from.now).told c.args.self.now _ c.args.card.now c.in_ok-deck.deck (rw id refl) read.told;
      };
    }
