use Rattle.std.proofs.Common.{◌≡◌, drop}
use Rattle.std.specs.FinMap.{get}
use Rattle.ak_base.specs.declared.names.Table.TheVariants as tables
use Rattle.ak_edit_calls.specs.Calls.{first_missing}
use Rattle.ak_faults.specs.Causes.{GoesOn}
use Rattle.ak_keep.specs.Keepers.{WhereTold}
use Rattle.ak_notes.specs.Deletions.{without_each}
use Rattle.ak_notes.proofs.deletions.remove_notes.Given as goal

-- the notes that were passed are held, and what the rest makes of the changes so far is what all make of those at first
abbrev pub invariant-loop-id : goal.invariant-loop-id
invariant-loop-id g l = record {
  same : g.K.Lookup.keeping l.keeper ≡ g.K.Lookup.keeping l.fn.keeper;
  removed : WhereTold (g.K.Lookup.keeping l.fn.keeper) (λ h. without_each h.rows (drop l.id-index l.notes) l.change ≡ without_each h.rows l.notes l.fn.change);
  missing : WhereTold (g.K.Lookup.keeping l.fn.keeper) (λ h. first_missing (get h.rows) tables.Note (drop l.id-index l.notes) ≡ first_missing (get h.rows) tables.Note l.notes);
  goes : GoesOn (g.K.Lookup.health l.fn.keeper) (g.K.Lookup.health l.keeper);
}
