use Rattle.std.proofs.Common.{◌≡◌, ◌∙◌, [], ◌∷◌, refl, rules, arith, w64, SFits, to_z, of_z, ℕ, ℤ}
use Rattle.std.proofs.lemmas.Grind.{common_steps}
use Rattle.std.proofs.lemmas.Int.{to_z-of_z}
use Rattle.std.proofs.lemmas.Result.{err_from_is_err_and}
use Rattle.ak_faults.proofs.Healths.{goes_further, goes_nowhere}
use Rattle.ak_filtered.proofs.EmptiedSubtrees.{all_done, each_stopped, emptied_once, none_emptied, one_emptied}
use Rattle.ak_study.proofs.AnswerFaults.{later_cause}
use Rattle.ak_filtered.proofs.emptyings.empty_each.Goals as goal

pub loop-deck-init : goal.loop-deck-init
loop-deck-init g c =
    let items : c.into_iter-deck-iterator.result.rest.items ≡ c.args.decks = search rules in
    record {
      stays = refl;
      goes = goes_nowhere (g.K.Lookup.health c.args.keeper.now);
      has = rw items (none_emptied (to_z w64 (of_z w64 c.args.at)) c.args.decks (g.K.Lookup.keeping c.args.keeper.now) c.args.steps.now);
    }

pub loop-deck-preserved : goal.loop-deck-preserved
loop-deck-preserved g c =
    let split : c.loop-deck.deck-iterator.rest.items ≡ c.in-Some.deck ∷ c.next.new.self.rest.items = search rules in
    let at : ℤ = to_z w64 (of_z w64 c.args.at) in
    let id : SFits w64 c.in-Some.deck.id = search rules in
    record {
      stays = c.in_ok-empty_deck.ensures.ends.stays ∙ c.loop-deck.invariant.stays;
      goes = goes_further c.loop-deck.invariant.goes c.in_ok-empty_deck.ensures.cause.goes;
      has = one_emptied at c.args.decks c.in-Some.deck c.next.new.self.rest.items (g.K.Lookup.keeping c.args.keeper.now) (g.K.Lookup.keeping c.loop-deck.keeper) (g.K.Lookup.keeping c.empty_deck.new.keeper)
          c.args.steps.now c.loop-deck.steps c.empty_deck.new.steps c.in_ok-empty_deck.ensures.ends.cleared (rw split at c.loop-deck.invariant.has)
          (emptied_once at c.in-Some.deck.id (g.K.Lookup.keeping c.loop-deck.keeper) (g.K.Lookup.keeping c.empty_deck.new.keeper) c.empty_deck.new.steps c.in_ok-empty_deck.field-0 c.in_ok-empty_deck.ensures.ends.cleared
          (rw (to_z-of_z w64 c.in-Some.deck.id id) at c.in_ok-empty_deck.ensures.ends.done) (rw (to_z-of_z w64 c.in-Some.deck.id id) at c.in_ok-empty_deck.ensures.ends.answers));
    }

pub returns-clause-ends : goal.returns-clause-ends
returns-clause-ends g c =
    let none : c.loop-deck.deck-iterator.rest.items ≡ [] = grind (arith, common_steps) in
    let fits : SFits w64 c.args.at = c.ranges.at in
    all_done c.args.at c.args.decks c.loop-deck.deck-iterator.rest.items (g.K.Lookup.keeping c.args.keeper.now) (g.K.Lookup.keeping c.loop-deck.keeper) c.args.steps.now c.loop-deck.steps tt none (rw (to_z-of_z w64 c.args.at fits) at c.loop-deck.invariant.has)

pub returns-in_err-empty_deck-clause-ends : goal.returns-in_err-empty_deck-clause-ends
returns-in_err-empty_deck-clause-ends g c =
    let split : c.loop-deck.deck-iterator.rest.items ≡ c.in-Some.deck ∷ c.next.new.self.rest.items = search rules in
    let fits : SFits w64 c.args.at = c.ranges.at in
    let id : SFits w64 c.in-Some.deck.id = search rules in
    let p = err_from_is_err_and c.from_residual.result c.from_residual.ensures.1 in
    rw (p.1, p.2, c.in_err-empty_deck.ensures.ends.same, c.in_err-empty_deck.ensures.ends.kept)
    (each_stopped ℕ (Unit {0}) (g.K.Lookup.keeping c.args.keeper.now) (g.K.Lookup.keeping c.loop-deck.keeper) c.args.at c.args.decks c.in-Some.deck c.next.new.self.rest.items c.args.steps.now c.loop-deck.steps c.in_err-empty_deck.field-0.0 c.in_err-empty_deck.ensures.listed
    (rw (split, to_z-of_z w64 c.args.at fits) at c.loop-deck.invariant.has) (rw (to_z-of_z w64 c.args.at fits, to_z-of_z w64 c.in-Some.deck.id id) at c.in_err-empty_deck.ensures.ends.answers))

pub returns-in_err-empty_deck-clause-cause : goal.returns-in_err-empty_deck-clause-cause
returns-in_err-empty_deck-clause-cause g c =
    let p = err_from_is_err_and c.from_residual.result c.from_residual.ensures.1 in
    rw (p.1, p.2) (later_cause ℕ (Unit {0}) _ _ _ c.in_err-empty_deck.field-0.0 c.loop-deck.invariant.goes c.in_err-empty_deck.ensures.cause)
