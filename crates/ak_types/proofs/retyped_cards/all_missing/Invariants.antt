use Rattle.std.proofs.Common.{◌≡◌, drop}
use Rattle.ak_faults.specs.Causes.{GoesOn}
use Rattle.ak_keep.specs.Keepers.{WhereTold}
use Rattle.ak_notes.specs.LackingNotes.{IsReady}
use Rattle.ak_types.proofs.MissingAll.{GoesOnTo}
use Rattle.ak_types.proofs.retyped_cards.all_missing.Given as goal

-- what is made for the other notes goes on to what is made for all
abbrev pub invariant-loop-note : goal.invariant-loop-note
invariant-loop-note g l = record {
  same : g.K.Lookup.keeping l.keeper ≡ g.K.Lookup.keeping l.fn.keeper;
  ready : IsReady l.made.next;
  more : WhereTold (g.K.Lookup.keeping l.fn.keeper) (λ h. GoesOnTo h.rows l.lacking l.fn.next (drop l.note-index l.lacking) l.made);
  goes : GoesOn (g.K.Lookup.health l.fn.keeper) (g.K.Lookup.health l.keeper);
}
