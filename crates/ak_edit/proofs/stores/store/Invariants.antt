use Rattle.std.proofs.Common.{◌≡◌, ◌++◌}
use Rattle.ak_faults.specs.Causes.{GoesOn}
use Rattle.ak_keep.specs.Keepers.{IsMarkedAt, back}
use Rattle.ak_edit.specs.Stores.{AreMadeWrites, all_written, befores_of}
use Rattle.ak_edit.proofs.stores.store.Given as goal

-- the writes that are left lead to what all lead to
abbrev pub invariant-loop-write : goal.invariant-loop-write
invariant-loop-write g l = record {
  leads : all_written l.write-iterator.rest.items (g.K.Lookup.keeping l.keeper) ≡ all_written l.fn.writes.items (g.K.Lookup.keeping l.fn.keeper);
  before : l.befores ++ befores_of l.write-iterator.rest.items ≡ befores_of l.fn.writes.items;
  made : AreMadeWrites l.write-iterator.rest.items;
  stays : IsMarkedAt (back (g.K.Lookup.keeping l.fn.keeper)) (g.K.Lookup.keeping l.keeper);
  goes : GoesOn (g.K.Lookup.health l.fn.keeper) (g.K.Lookup.health l.keeper);
}
