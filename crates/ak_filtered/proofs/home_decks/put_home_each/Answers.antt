use Rattle.std.proofs.Common.{◌≡◌, ◌∷◌, ◌∙◌, length, refl, rules}
use Rattle.ak_faults.proofs.Healths.{goes_further, goes_nowhere}
use Rattle.ak_filtered.proofs.SendingEach.{all_sent, card_sent, none_sent}
use Rattle.ak_keep.proofs.Causing.{cause-ok}
use Rattle.ak_filtered.proofs.home_decks.put_home_each.Goals as goal

pub loop-id-init : goal.loop-id-init
loop-id-init g c = record {
  kept = refl;
  same = refl;
  goes = goes_nowhere (g.R.Lookup.health c.args.from.now);
  sent = none_sent (g.R.Lookup.keeping c.args.from.now).told c.args.decks.now c.args.cards.now c.args.change.now;
}

pub loop-id-preserved : goal.loop-id-preserved
loop-id-preserved g c =
    let rest : c.loop-id.rest.now ≡ c.in-Some.id.now ∷ c.in-Some.others.now = search rules in
    record {
      kept = c.in_ok-one.ensures.reads.kept ∙ c.loop-id.invariant.kept;
      same = c.in_ok-one.ensures.reads.same ∙ c.loop-id.invariant.same;
      goes = goes_further c.loop-id.invariant.goes c.in_ok-one.ensures.reads.cause.goes;
      sent = card_sent (g.R.Lookup.keeping c.args.from.now).told c.args.decks.now c.args.cards.now c.args.change.now c.loop-id.went c.in_ok-one.one c.either-went.result c.in-Some.id.now c.in-Some.others.now c.loop-id.change c.put_home.new.change c.either-went.ensures
          (rw rest at c.loop-id.invariant.sent) (rw c.loop-id.invariant.same at c.in_ok-one.ensures.reads.told);
    }

pub returns : goal.returns
returns g c =
    let none : length c.loop-id.rest.now ≡ 0 = search rules in
    record {
      reads = record {
        kept = c.loop-id.invariant.kept;
        same = c.loop-id.invariant.same;
        cause = cause-ok c.loop-id.went c.loop-id.invariant.goes;
        told = all_sent (g.R.Lookup.keeping c.args.from.now).told c.args.decks.now c.args.cards.now c.args.change.now c.loop-id.went c.loop-id.rest.now c.loop-id.change none c.loop-id.invariant.sent;
      };
    }
