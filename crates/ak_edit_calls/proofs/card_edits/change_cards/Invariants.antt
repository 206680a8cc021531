use Rattle.std.proofs.Common.{◌≡◌, drop}
use Rattle.std.specs.FinMap.{get}
use Rattle.ak_base.specs.declared.names.Table.TheVariants as tables
use Rattle.ak_edit_calls.specs.Calls.{first_missing}
use Rattle.ak_edit_calls.specs.CardEdits.{put_each}
use Rattle.ak_faults.specs.Causes.{GoesOn}
use Rattle.ak_keep.specs.Keepers.{WhereTold}
use Rattle.ak_edit_calls.proofs.card_edits.change_cards.Given as goal

-- the cards that were passed are held, and what the rest makes of the changes so far is what all make of those at first
abbrev pub invariant-loop-id : goal.invariant-loop-id
invariant-loop-id g l = record {
  same : g.K.Lookup.keeping l.keeper ≡ g.K.Lookup.keeping l.fn.keeper;
  put : WhereTold (g.K.Lookup.keeping l.fn.keeper) (λ h. put_each (g.C.CardChange.change l.by) (get h.rows) (drop l.id-index l.cards) l.change ≡ put_each (g.C.CardChange.change l.by) (get h.rows) l.cards l.fn.change);
  missing : WhereTold (g.K.Lookup.keeping l.fn.keeper) (λ h. first_missing (get h.rows) tables.Card (drop l.id-index l.cards) ≡ first_missing (get h.rows) tables.Card l.cards);
  goes : GoesOn (g.K.Lookup.health l.fn.keeper) (g.K.Lookup.health l.keeper);
}
