use Rattle.std.proofs.Common.{◌≡◌, ◌∷◌, ◌∙◌, rules, refl, List}
use Rattle.ak_base.specs.declared.decks.Deck.{Deck}
use Rattle.ak_faults.proofs.Healths.{goes_nowhere, goes_further}
use Rattle.ak_keep.specs.Collections.{Holding}
use Rattle.ak_queue.specs.Limits.{all_limits}
use Rattle.ak_keep.proofs.Collecting.{none_told, one_told}
use Rattle.ak_queue.proofs.Limiting.{limits-first}
use Rattle.ak_queue.proofs.limits.read_limits.Goals as goal

pub loop-deck-init : goal.loop-deck-init
loop-deck-init g c = record {
  kept = refl;
  same = refl;
  goes = goes_nowhere (g.R.Lookup.health c.args.from.now);
  found = none_told (g.R.Lookup.keeping c.args.from.now).told (λ (h : Holding) (ds : List Deck). all_limits h.rows c.args.scope.now.day c.args.scope.now.root ds) c.new-limits.result c.args.decks.now c.new-limits.ensures;
}

pub loop-deck-preserved : goal.loop-deck-preserved
loop-deck-preserved g c =
    let rest : c.loop-deck.rest.now ≡ c.in-Some.deck.now ∷ c.in-Some.others.now = search rules in
    record {
      kept = c.in_ok-take_deck.ensures.reads.kept ∙ c.loop-deck.invariant.kept;
      same = c.in_ok-take_deck.ensures.reads.same ∙ c.loop-deck.invariant.same;
      goes = goes_further c.loop-deck.invariant.goes c.in_ok-take_deck.ensures.reads.cause.goes;
      found = one_told (g.R.Lookup.keeping c.args.from.now).told (λ (h : Holding) (ds : List Deck). all_limits h.rows c.args.scope.now.day c.args.scope.now.root ds) (λ (h : Holding). all_limits h.rows c.args.scope.now.day c.args.scope.now.root c.args.decks.now)
          (λ h d ds. limits-first h.rows c.args.scope.now.day c.args.scope.now.root d ds) c.loop-deck.limits c.take_deck.new.limits c.in-Some.deck.now c.in-Some.others.now
          (rw rest at c.loop-deck.invariant.found) (rw c.loop-deck.invariant.same at c.in_ok-take_deck.ensures.reads.told);
    }
