use Rattle.std.proofs.Common.{◌≡◌, ◌++◌, drop, Ok}
use Rattle.std.specs.FinMap.{get}
use Rattle.ak_faults.specs.Causes.{GoesOn}
use Rattle.ak_keep.specs.Keepers.{WhereTold}
use Rattle.ak_edit.specs.MadeRows.{check_of_rows}
use Rattle.ak_edit.specs.UndoPlans.{undo_writes}
use Rattle.ak_edit.proofs.undos.plan_undo_rows.Given as goal

-- the writes so far and those of the entries that are left are those of all entries
abbrev pub invariant-loop-before : goal.invariant-loop-before
invariant-loop-before g l = record {
  planned : WhereTold (g.K.Lookup.keeping l.fn.keeper) (λ h. l.writes.items ++ undo_writes l.now.second (get h.rows) (drop l.before-index l.rows) ≡ undo_writes l.now.second (get h.rows) l.rows);
  passing : check_of_rows l.writes.items ≡ Ok tt;
  kept : g.K.Lookup.kept l.keeper ≡ g.K.Lookup.kept l.fn.keeper;
  same : g.K.Lookup.keeping l.keeper ≡ g.K.Lookup.keeping l.fn.keeper;
  goes : GoesOn (g.K.Lookup.health l.fn.keeper) (g.K.Lookup.health l.keeper);
}
