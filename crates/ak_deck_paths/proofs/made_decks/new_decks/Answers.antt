use Rattle.std.proofs.Common.{◌≤ℤ◌, ℕ, List, [], length, pos, refl, ap, ◌∙◌, arith, w64, SFits, to_z, of_z}
use Rattle.std.proofs.lemmas.Int.{ints, to_z-of_z}
use Rattle.std.proofs.lemmas.Result.{err_from_is_err_and}
use Rattle.ak_base.specs.declared.names.Name.{Name}
use Rattle.ak_base.specs.declared.names.Table.TheVariants as tables
use Rattle.ak_edit_calls.proofs.MakingRows.{made_all, made_answers, makes_all, makes_one, one_lacks}
use Rattle.ak_edit_calls.specs.NewNames.{first_name}
use Rattle.ak_faults.proofs.Healths.{goes_further, goes_nowhere}
use Rattle.ak_deck_paths.proofs.MakingDecks.{last_in_range}
use Rattle.ak_deck_paths.specs.NewDecks.{IsNewDeck}
use Rattle.ak_deck_paths.proofs.made_decks.new_decks.Goals as goal

pub loop-path-init : goal.loop-path-init
loop-path-init g c =
    let at : SFits w64 c.args.at = c.ranges.at in
    record {
      id = c.first_name-first.ensures.id;
      made = rw (c.first_name-first.ensures.name, to_z-of_z w64 c.args.at at, c.new-decks.ensures)
          (makes_all (g.K.Lookup.keeping c.args.keeper.now) IsNewDeck (first_name tables.Deck c.args.at) c.args.paths.now);
      last = λ none. absurd (omega (arith, none));
      same = refl;
      goes = goes_nowhere (g.K.Lookup.health c.args.keeper.now);
    }

pub loop-path-preserved : goal.loop-path-preserved
loop-path-preserved g c =
    let k = g.K.Lookup.keeping c.args.keeper.now in
    let start : Name = first_name tables.Deck (to_z w64 (of_z w64 c.args.at)) in
    let i = c.loop-path.path-index in
    let items = c.as_slice-path-items.ensures in
    let path = c.path-item.result in
    let ahead : pos 1 ≤ℤ c.next-first.result.id = rw c.next-first.ensures (grind (arith, ints, c.loop-path.invariant.id, c.in_ok-name.ensures.range.1.low)) in
    record {
      id = ahead;
      made = rw (c.next-first.ensures, c.in_ok-push.ensures.ok)
          (makes_one k IsNewDeck start c.args.paths.now i path path c.loop-path.first c.in_ok-name.name c.loop-path.decks c.in_ok-deck.deck (rw items at c.loop-path-test.true)
          (rw items at c.path-item.is) c.in_ok-deck.ensures (rw c.loop-path.invariant.same at c.in_ok-name.ensures.free) c.loop-path.invariant.made);
      last = λ _. rw c.in_ok-push.ensures.ok (last_in_range c.loop-path.first c.in_ok-name.name path c.loop-path.decks c.in_ok-deck.deck c.loop-path.invariant.id c.in_ok-name.ensures.range c.in_ok-deck.ensures);
      same = c.in_ok-name.ensures.same ∙ c.loop-path.invariant.same;
      goes = goes_further c.loop-path.invariant.goes c.in_ok-name.ensures.cause.goes;
    }

pub returns-in_err-name-clause-refused : goal.returns-in_err-name-clause-refused
returns-in_err-name-clause-refused g c =
    let at : SFits w64 c.args.at = c.ranges.at in
    let p = err_from_is_err_and c.from_residual.result c.from_residual.ensures.1 in
    rw (p.1, p.2)
    (one_lacks _ (g.K.Lookup.keeping c.args.keeper.now) IsNewDeck (first_name tables.Deck c.args.at) c.args.paths.now c.loop-path.path-index [] c.loop-path.first c.loop-path.decks c.in_err-name.field-0.0
    (rw c.as_slice-path-items.ensures at c.loop-path-test.true) (rw c.loop-path.invariant.same at c.in_err-name.ensures.none) (rw (to_z-of_z w64 c.args.at at) at c.loop-path.invariant.made))

pub returns-clause-made : goal.returns-clause-made
returns-clause-made g c =
    let at : SFits w64 c.args.at = c.ranges.at in
    made_all (g.K.Lookup.keeping c.args.keeper.now) IsNewDeck (first_name tables.Deck c.args.at) c.args.paths.now c.loop-path.path-index c.loop-path.first c.loop-path.decks
    (omega (arith, ap (λ (xs : List (List ℕ)). length xs) c.as_slice-path-items.ensures)) (rw (to_z-of_z w64 c.args.at at) at c.loop-path.invariant.made)

pub returns-clause-range : goal.returns-clause-range
returns-clause-range g c some =
    c.loop-path.invariant.last (omega (arith, some, c.loop-path-test.false, ap (λ (xs : List (List ℕ)). length xs) c.as_slice-path-items.ensures))

pub returns-clause-refused : goal.returns-clause-refused
returns-clause-refused g c =
    let at : SFits w64 c.args.at = c.ranges.at in
    let start : Name = first_name tables.Deck c.args.at in
    made_answers (g.K.Lookup.keeping c.args.keeper.now) IsNewDeck start c.args.paths.now c.loop-path.decks c.loop-path.decks
    (made_all (g.K.Lookup.keeping c.args.keeper.now) IsNewDeck start c.args.paths.now c.loop-path.path-index c.loop-path.first c.loop-path.decks
    (omega (arith, ap (λ (xs : List (List ℕ)). length xs) c.as_slice-path-items.ensures)) (rw (to_z-of_z w64 c.args.at at) at c.loop-path.invariant.made))
