use Rattle.std.proofs.Common.{◌≡◌, drop, map}
use Rattle.ak_base.specs.declared.rows.Row.TheVariants as rows
use Rattle.ak_faults.specs.Causes.{GoesOn}
use Rattle.ak_keep.specs.Keepers.{IsMarkedAt, back}
use Rattle.ak_sync_rows.specs.Takes.{rows_taken}
use Rattle.ak_sync_rows.proofs.takes.take_notes.Given as goal

-- the rows that are left lead to what all lead to
abbrev pub invariant-loop-row : goal.invariant-loop-row
invariant-loop-row g l = record {
  leads : rows_taken l.side l.usn (map rows.Note (drop l.row-index l.came)) (g.K.Lookup.keeping l.keeper) ≡ rows_taken l.side l.usn (map rows.Note l.came) (g.K.Lookup.keeping l.fn.keeper);
  stays : IsMarkedAt (back (g.K.Lookup.keeping l.fn.keeper)) (g.K.Lookup.keeping l.keeper);
  goes : GoesOn (g.K.Lookup.health l.fn.keeper) (g.K.Lookup.health l.keeper);
}
