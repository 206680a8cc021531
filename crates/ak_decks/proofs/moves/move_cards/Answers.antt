use Rattle.std.proofs.Common.{ℤ, rules, w64, SFits}
use Rattle.std.proofs.lemmas.Int.{to_z-of_z}
use Rattle.ak_base.specs.declared.names.Table.TheVariants as tables
use Rattle.ak_edit_calls.proofs.Ids.{id_of_checked}
use Rattle.ak_decks.proofs.MovedCards.{move_ended, move_keeps, move_listed}
use Rattle.ak_keep.specs.Collections.{IsId}
use Rattle.ak_merge.specs.Holdings.{name_in}
use Rattle.ak_decks.proofs.moves.move_cards.Goals as goal

pub invariant_of-by : goal.invariant_of-by
invariant_of-by g c =
    let deck : ℤ = c.args.moved.now.deck in
    let fits : SFits w64 deck = search rules in
    let range : IsId deck = id_of_checked c.in_ok-deck.deck (name_in tables.Deck deck) c.in_ok-deck.ensures.checked (rw (to_z-of_z w64 deck fits) at c.in_ok-deck.ensures.named) in
    record { in_range = rw (to_z-of_z w64 deck fits) range }

pub edit_cards-requires-clause-keeps : goal.edit_cards-requires-clause-keeps
edit_cards-requires-clause-keeps g c =
    let deck : ℤ = c.args.moved.now.deck in
    let fits : SFits w64 deck = search rules in
    let range : IsId deck = id_of_checked c.in_ok-deck.deck (name_in tables.Deck deck) c.in_ok-deck.ensures.checked (rw (to_z-of_z w64 deck fits) at c.in_ok-deck.ensures.named) in
    rw (to_z-of_z w64 deck fits) (move_keeps deck range)

pub returns-clause-edits : goal.returns-clause-edits
returns-clause-edits g c =
    let deck : ℤ = c.args.moved.now.deck in
    let fits : SFits w64 deck = search rules in
    let at : SFits w64 c.args.at = c.ranges.at in
    move_ended (g.K.Lookup.keeping c.args.keeper.now) (g.K.Lookup.keeping c.edit_cards.new.keeper) c.args.at deck c.args.moved.now.cards.now c.in_ok-deck.deck
    c.args.steps.now c.edit_cards.new.steps c.edit_cards.result
    (rw (to_z-of_z w64 deck fits) at c.in_ok-deck.ensures.refused)
    (rw (c.held_row.ensures.same, to_z-of_z w64 deck fits, to_z-of_z w64 c.args.at at) at c.edit_cards.ensures.edits)

pub returns-clause-listed : goal.returns-clause-listed
returns-clause-listed g c = move_listed c.edit_cards.result c.edit_cards.ensures.listed
