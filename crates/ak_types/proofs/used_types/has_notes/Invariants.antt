use Rattle.std.proofs.Common.{◌≡◌}
use Rattle.ak_faults.specs.Causes.{GoesOn}
use Rattle.ak_keep.specs.Keepers.{WhereTold}
use Rattle.ak_keep.specs.Walks.{most_pages}
use Rattle.ak_types.proofs.UsedTypes.{IsAhead}
use Rattle.ak_types.proofs.used_types.has_notes.Given as goal

-- a note of the type is held if one is ahead
abbrev pub invariant-pages : goal.invariant-pages
invariant-pages g l = record {
  kept : g.K.Lookup.kept l.keeper ≡ g.K.Lookup.kept l.fn.keeper;
  same : g.K.Lookup.keeping l.keeper ≡ g.K.Lookup.keeping l.fn.keeper;
  ahead : WhereTold (g.K.Lookup.keeping l.fn.keeper) (λ h. IsAhead l.note_type l.walk h.rows);
  goes : GoesOn (g.K.Lookup.health l.fn.keeper) (g.K.Lookup.health l.keeper);
}

abbrev pub decreases-pages : goal.decreases-pages
decreases-pages g l = most_pages l.walk
