use Rattle.std.proofs.Common.{◌≡◌, drop, map}
use Rattle.ak_faults.specs.Causes.{GoesOn}
use Rattle.ak_keep.specs.Keepers.{IsMarkedAt, back}
use Rattle.ak_sync_rows.specs.Takes.{rows_taken}
use Rattle.ak_session.specs.Messages.{grave_with}
use Rattle.ak_sync_rows.proofs.takes.take_graves.Given as goal

-- the graves that are left lead to what all lead to
abbrev pub invariant-loop-id : goal.invariant-loop-id
invariant-loop-id g l = record {
  leads : rows_taken l.side l.usn (map (grave_with l.kind) (drop l.id-index l.ids)) (g.K.Lookup.keeping l.keeper) ≡ rows_taken l.side l.usn (map (grave_with l.kind) l.ids) (g.K.Lookup.keeping l.fn.keeper);
  stays : IsMarkedAt (back (g.K.Lookup.keeping l.fn.keeper)) (g.K.Lookup.keeping l.keeper);
  goes : GoesOn (g.K.Lookup.health l.fn.keeper) (g.K.Lookup.health l.keeper);
}
