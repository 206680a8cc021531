use Rattle.std.proofs.Common.{◌≡◌}
use Rattle.ak_faults.specs.Causes.{GoesOn}
use Rattle.ak_filtered.proofs.EmptiedSubtrees.{HasEmptied}
use Rattle.ak_filtered.proofs.emptyings.empty_each.Given as goal

-- the decks so far were emptied
abbrev pub invariant-loop-deck : goal.invariant-loop-deck
invariant-loop-deck g l = record {
  stays : (g.K.Lookup.keeping l.keeper).headed ≡ (g.K.Lookup.keeping l.fn.keeper).headed;
  goes : GoesOn (g.K.Lookup.health l.fn.keeper) (g.K.Lookup.health l.keeper);
  has : HasEmptied l.fn.at l.fn.decks l.deck-iterator.rest.items (g.K.Lookup.keeping l.fn.keeper) (g.K.Lookup.keeping l.keeper) l.fn.steps l.steps;
}
