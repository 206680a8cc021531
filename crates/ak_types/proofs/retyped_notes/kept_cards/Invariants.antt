use Rattle.std.proofs.Common.{◌≡◌, ◌++◌, drop}
use Rattle.ak_faults.specs.Causes.{GoesOn}
use Rattle.ak_keep.specs.Keepers.{WhereTold}
use Rattle.ak_types.specs.RetypedRows.{kept_cards}
use Rattle.ak_types.proofs.retyped_notes.kept_cards.Given as goal

-- with those of the other ids, the cards so far are all that stay
abbrev pub invariant-loop-id : goal.invariant-loop-id
invariant-loop-id g l = record {
  kept : g.K.Lookup.kept l.keeper ≡ g.K.Lookup.kept l.fn.keeper;
  same : g.K.Lookup.keeping l.keeper ≡ g.K.Lookup.keeping l.fn.keeper;
  told : WhereTold (g.K.Lookup.keeping l.fn.keeper)
      (λ h. l.kept ++ kept_cards l.retyping.given.now l.retyping.old.now h.rows (drop l.id-index l.ids) ≡ kept_cards l.retyping.given.now l.retyping.old.now h.rows l.ids);
  goes : GoesOn (g.K.Lookup.health l.fn.keeper) (g.K.Lookup.health l.keeper);
}
