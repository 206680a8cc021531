use Rattle.std.proofs.Common.{◌≡◌}
use Rattle.ak_faults.specs.Causes.{GoesOn}
use Rattle.ak_keep.specs.Keepers.{WhereTold}
use Rattle.ak_keep.specs.Walks.{most_pages}
use Rattle.ak_types.proofs.NoteWalks.{LeadsAhead}
use Rattle.ak_types.proofs.retyped_notes.retype_held.Given as goal

-- the notes ahead lead to what all lead to
abbrev pub invariant-pages : goal.invariant-pages
invariant-pages g l = record {
  same : g.K.Lookup.keeping l.keeper ≡ g.K.Lookup.keeping l.fn.keeper;
  leads : WhereTold (g.K.Lookup.keeping l.fn.keeper) (λ h. LeadsAhead l.retyping.given.now l.retyping.old.now l.walk l.made l.fn.made h.rows);
  goes : GoesOn (g.K.Lookup.health l.fn.keeper) (g.K.Lookup.health l.keeper);
}

abbrev pub decreases-pages : goal.decreases-pages
decreases-pages g l = most_pages l.walk
