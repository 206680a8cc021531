use Rattle.std.proofs.Common.{◌≡◌, ◌≤ℤ◌, ℤ, List, length, pos, get_or, refl, ap, ◌∙◌, rules, arith, w64, SFits}
use Rattle.std.proofs.lemmas.Int.{ints, to_z-of_z}
use Rattle.std.proofs.lemmas.Result.{err_from_is_err_and}
use Rattle.ak_base.specs.declared.cards.Card.{Card}
use Rattle.ak_edit_calls.proofs.MakingRows.{made_all, made_answers, makes_all, makes_one, one_lacks}
use Rattle.ak_faults.proofs.Healths.{goes_further, goes_nowhere}
use Rattle.ak_notes.proofs.NewCards.{next_one}
use Rattle.ak_notes.specs.NewCards.{IsNewCard, new_card}
use Rattle.ak_notes.specs.declared.new_cards.MadeCards.{MadeCards}
use Rattle.ak_notes.proofs.new_cards.new_cards.Goals as goal

pub loop-ord-init : goal.loop-ord-init
loop-ord-init g c = record {
  id = c.requires;
  table = refl;
  next = rw c.new-cards.ensures refl;
  made = rw c.new-cards.ensures (makes_all (g.K.Lookup.keeping c.args.keeper.now) (IsNewCard c.args.place) c.args.start c.args.ords.now);
  same = refl;
  goes = goes_nowhere (g.K.Lookup.health c.args.keeper.now);
}

pub loop-ord-preserved : goal.loop-ord-preserved
loop-ord-preserved g c =
    let k = g.K.Lookup.keeping c.args.keeper.now in
    let i = c.loop-ord.ord-index in
    let items = c.as_slice-ord-items.ensures in
    let ord : ℤ = get_or c.as_slice-ord-items.result.now i (pos 0) in
    let fits : SFits w64 ord = search rules in
    let card : Card = c.in_ok-card.card in
    let made : card ≡ new_card c.args.place (get_or c.args.ords.now i (pos 0)) c.in_ok-name.name.id = rw (to_z-of_z w64 ord fits, items) at c.in_ok-card.ensures in
    let ahead : pos 1 ≤ℤ c.next-first.result.id = rw c.next-first.ensures (grind (arith, ints, c.loop-ord.invariant.id, c.in_ok-name.ensures.range.1.low)) in
    record {
      id = ahead;
      table = rw c.next-first.ensures (c.in_ok-name.ensures.range.0 ∙ c.loop-ord.invariant.table);
      next = rw (c.next-first.ensures, c.in_ok-push.ensures.ok)
          (next_one c.loop-ord.cards card c.in_ok-name.name c.loop-ord.first c.args.start c.in_ok-name.ensures.range.0 c.loop-ord.invariant.table (ap (λ (x : Card). x.id) made));
      made = rw (c.next-first.ensures, c.in_ok-push.ensures.ok)
          (makes_one k (IsNewCard c.args.place) c.args.start c.args.ords.now i (get_or c.args.ords.now i (pos 0)) (pos 0) c.loop-ord.first c.in_ok-name.name c.loop-ord.cards card
          (rw items at c.loop-ord-test.true) refl made (rw c.loop-ord.invariant.same at c.in_ok-name.ensures.free) c.loop-ord.invariant.made);
      same = c.in_ok-name.ensures.same ∙ c.loop-ord.invariant.same;
      goes = goes_further c.loop-ord.invariant.goes c.in_ok-name.ensures.cause.goes;
    }

pub returns-in_err-name-clause-refused : goal.returns-in_err-name-clause-refused
returns-in_err-name-clause-refused g c =
    let p = err_from_is_err_and c.from_residual.result c.from_residual.ensures.1 in
    rw (p.1, p.2)
    (one_lacks _ (g.K.Lookup.keeping c.args.keeper.now) (IsNewCard c.args.place) c.args.start c.args.ords.now c.loop-ord.ord-index (pos 0) c.loop-ord.first c.loop-ord.cards
    c.in_err-name.field-0.0 (rw c.as_slice-ord-items.ensures at c.loop-ord-test.true) (rw c.loop-ord.invariant.same at c.in_err-name.ensures.none) c.loop-ord.invariant.made)

pub returns-clause-made : goal.returns-clause-made
returns-clause-made g c =
    made_all (g.K.Lookup.keeping c.args.keeper.now) (IsNewCard c.args.place) c.args.start c.args.ords.now c.loop-ord.ord-index c.loop-ord.first c.loop-ord.cards
    (omega (arith, ap (λ (xs : List ℤ). length xs) c.as_slice-ord-items.ensures)) c.loop-ord.invariant.made

pub returns-clause-refused : goal.returns-clause-refused
returns-clause-refused g c =
    let made : MadeCards = record { cards = c.loop-ord.cards; next = c.loop-ord.first } in
    made_answers (g.K.Lookup.keeping c.args.keeper.now) (IsNewCard c.args.place) c.args.start c.args.ords.now c.loop-ord.cards made
    (made_all (g.K.Lookup.keeping c.args.keeper.now) (IsNewCard c.args.place) c.args.start c.args.ords.now c.loop-ord.ord-index c.loop-ord.first c.loop-ord.cards
    (omega (arith, ap (λ (xs : List ℤ). length xs) c.as_slice-ord-items.ensures)) c.loop-ord.invariant.made)
