use Rattle.std.proofs.Common.{◌≡◌}
use Rattle.ak_faults.specs.Causes.{GoesOn}
use Rattle.ak_keep.specs.Keepers.{WhereTold}
use Rattle.ak_types.proofs.NoteWalks.{Leads}
use Rattle.ak_types.proofs.retyped_notes.retype_rows.Given as goal

-- the other rows lead to what all lead to
abbrev pub invariant-loop-row : goal.invariant-loop-row
invariant-loop-row g l = record {
  same : g.K.Lookup.keeping l.keeper ≡ g.K.Lookup.keeping l.fn.keeper;
  leads : WhereTold (g.K.Lookup.keeping l.fn.keeper) (λ h. Leads l.retyping.given.now l.retyping.old.now h.rows l.row-iterator.rest.items l.fn.rows.items l.made l.fn.made);
  goes : GoesOn (g.K.Lookup.health l.fn.keeper) (g.K.Lookup.health l.keeper);
}
