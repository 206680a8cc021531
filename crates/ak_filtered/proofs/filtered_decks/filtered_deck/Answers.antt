use Rattle.std.proofs.Common.{◌≡◌, true, false, sym, ap, subst, inr, Err, ℤ, rules, w64, SFits}
use Rattle.std.proofs.lemmas.Int.{to_z-of_z}
use Rattle.ak_base.specs.declared.decks.Deck.{Deck}
use Rattle.ak_base.specs.declared.rows.Row.{Row}
use Rattle.ak_filtered.proofs.DeckTests.{absent_listed, deck_absent, deck_filtered, deck_plain, desk_cause, filtered_told}
use Rattle.ak_filtered.specs.Emptyings.{RefusesDeck}
use Rattle.ak_filtered.specs.FilteredDecks.{IsDeckFault}
use Rattle.ak_filtered.specs.FilteredFaults.{FilteredCause, TellsBy}
use Rattle.ak_filtered.specs.declared.faults.FilteredFault.{FilteredFault}
use Rattle.ak_filtered.specs.declared.faults.FilteredFault.TheVariants as faults
use Rattle.ak_keep.specs.Keepers.{WhereHeld}
use Rattle.ak_filtered.proofs.filtered_decks.filtered_deck.Goals as goal

pub returns-then-not-deck-clause-refused : goal.returns-then-not-deck-clause-refused
returns-then-not-deck-clause-refused g c =
    let fits : SFits w64 c.args.id = c.ranges.id in
    let plain : c.in-Ok-Deck.deck.filtered ≡ false = search rules in
    subst (λ (n : ℤ). WhereHeld (g.K.Lookup.keeping c.args.keeper.now) (λ d. TellsBy {T = Deck} (RefusesDeck c.args.id d) (Err (faults.NotFiltered n)))) (sym (to_z-of_z w64 c.args.id fits))
    (deck_plain Deck (g.K.Lookup.keeping c.args.keeper.now) c.args.id c.in-Ok-Deck.deck plain
    (rw (to_z-of_z w64 c.args.id fits, c.in-Ok-Deck.field-0-is) at c.in-Ok-Deck.ensures.held) (rw (to_z-of_z w64 c.args.id fits, c.in-Ok-Deck.field-0-is) at c.in-Ok-Deck.ensures.refused))

pub returns-then-not-deck-clause-listed : goal.returns-then-not-deck-clause-listed
returns-then-not-deck-clause-listed g c =
    let fits : SFits w64 c.args.id = c.ranges.id in
    inr (inr (ap (λ (n : ℤ). faults.NotFiltered n) (to_z-of_z w64 c.args.id fits)))

pub returns-in-Err-clause-refused : goal.returns-in-Err-clause-refused
returns-in-Err-clause-refused g c =
    let fits : SFits w64 c.args.id = c.ranges.id in
    subst (λ (f : FilteredFault). WhereHeld (g.K.Lookup.keeping c.args.keeper.now) (λ d. TellsBy {T = Deck} (RefusesDeck c.args.id d) (Err f))) (sym c.from.ensures)
    (deck_absent Deck (g.K.Lookup.keeping c.args.keeper.now) c.args.id c.in-Err.fault (rw (to_z-of_z w64 c.args.id fits) at c.in-Err.ensures.refused))

pub returns-in-Err-clause-listed : goal.returns-in-Err-clause-listed
returns-in-Err-clause-listed g c =
    let fits : SFits w64 c.args.id = c.ranges.id in
    subst (λ (f : FilteredFault). IsDeckFault c.args.id f) (sym c.from.ensures) (absent_listed c.args.id c.in-Err.fault (rw (to_z-of_z w64 c.args.id fits) at c.in-Err.ensures.listed))

pub returns-in-Err-clause-cause : goal.returns-in-Err-clause-cause
returns-in-Err-clause-cause g c =
    subst (λ (f : FilteredFault). FilteredCause {T = Deck} (g.K.Lookup.health c.args.keeper.now) (g.K.Lookup.health c.held_row.new.keeper) (Err f)) (sym c.from.ensures)
    (desk_cause Row Deck _ _ c.in-Err.fault c.in-Err.ensures.cause)

pub returns-clause-held : goal.returns-clause-held
returns-clause-held g c =
    let fits : SFits w64 c.args.id = c.ranges.id in
    let filtered : c.in-Ok-Deck.deck.filtered ≡ true = search rules in
    filtered_told (g.K.Lookup.keeping c.args.keeper.now) c.args.id c.in-Ok-Deck.deck filtered (rw (to_z-of_z w64 c.args.id fits, c.in-Ok-Deck.field-0-is) at c.in-Ok-Deck.ensures.held)

pub returns-clause-refused : goal.returns-clause-refused
returns-clause-refused g c =
    let fits : SFits w64 c.args.id = c.ranges.id in
    let filtered : c.in-Ok-Deck.deck.filtered ≡ true = search rules in
    deck_filtered (g.K.Lookup.keeping c.args.keeper.now) c.args.id c.in-Ok-Deck.deck c.in-Ok-Deck.deck filtered
    (rw (to_z-of_z w64 c.args.id fits, c.in-Ok-Deck.field-0-is) at c.in-Ok-Deck.ensures.held) (rw (to_z-of_z w64 c.args.id fits, c.in-Ok-Deck.field-0-is) at c.in-Ok-Deck.ensures.refused)
