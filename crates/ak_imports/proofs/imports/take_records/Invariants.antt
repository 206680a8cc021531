use Rattle.std.proofs.Common.{◌≡◌, ◌+◌, true}
use Rattle.std.specs.Prelude.{length}
use Rattle.ak_faults.specs.Causes.{GoesOn}
use Rattle.ak_imports.proofs.TakingAll.{TakesFront}
use Rattle.ak_keep.specs.Keepers.{IsMarkedAt, back}
use Rattle.ak_imports.proofs.imports.take_records.Given as goal

-- the records so far were done, each in its turn
abbrev pub invariant-loop-record : goal.invariant-loop-record
invariant-loop-record g l = record {
  counted : l.number + length l.record-iterator.rest.items ≡ length l.fn.records.items;
  total : l.counts.added + (l.counts.updated + l.counts.same) ≡ l.number;
  held : (g.K.Lookup.keeping l.keeper).headed.current ≡ true;
  stays : IsMarkedAt (back (g.K.Lookup.keeping l.fn.keeper)) (g.K.Lookup.keeping l.keeper);
  goes : GoesOn (g.K.Lookup.health l.fn.keeper) (g.K.Lookup.health l.keeper);
  taken : TakesFront l.arrival l.fn.records.items l.record-iterator.rest.items l.number l.counts l.fn.work (g.K.Lookup.keeping l.fn.keeper) l.work (g.K.Lookup.keeping l.keeper);
}
