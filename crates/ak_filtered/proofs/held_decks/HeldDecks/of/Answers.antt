use Rattle.std.proofs.Common.{◌≡◌, length, rules}
use Rattle.ak_filtered.proofs.DeckFlags.{all_flags}
use Rattle.ak_filtered.proofs.held_decks.HeldDecks.of.Goals as goal

pub returns : goal.returns
returns c =
    let none : length c.loop-deck.rest.now ≡ 0 = search rules in
    all_flags c.loop-deck.made c.loop-deck.rest.now c.args.decks.now none c.loop-deck.invariant
