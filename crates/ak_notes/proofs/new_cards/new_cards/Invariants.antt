use Rattle.std.proofs.Common.{◌≡◌, ◌≤ℤ◌, pos, drop}
use Rattle.ak_edit_calls.proofs.MakingRows.{MakesMoreIn}
use Rattle.ak_faults.specs.Causes.{GoesOn}
use Rattle.ak_keep.specs.Keepers.{WhereTold}
use Rattle.ak_notes.specs.NewCards.{IsNewCard, first_after}
use Rattle.ak_notes.proofs.new_cards.new_cards.Given as goal

-- with cards for the other ords from the next name on, the cards so far are those for all ords
abbrev pub invariant-loop-ord : goal.invariant-loop-ord
invariant-loop-ord g l = record {
  id : pos 1 ≤ℤ l.first.id;
  table : l.first.table ≡ l.fn.start.table;
  next : l.first ≡ first_after l.cards l.fn.start;
  made : WhereTold (g.K.Lookup.keeping l.fn.keeper) (MakesMoreIn (IsNewCard l.fn.place) l.fn.start l.ords (drop l.ord-index l.ords) l.first l.cards);
  same : g.K.Lookup.keeping l.keeper ≡ g.K.Lookup.keeping l.fn.keeper;
  goes : GoesOn (g.K.Lookup.health l.fn.keeper) (g.K.Lookup.health l.keeper);
}
