use Rattle.std.proofs.Common.{◌≡◌, drop}
use Rattle.ak_edit.specs.MadeRows.{check_of_rows}
use Rattle.ak_edit.proofs.made_rows.check_rows.Given as goal

-- the rows that were passed have no fault
abbrev pub invariant-loop-write : goal.invariant-loop-write
invariant-loop-write l = check_of_rows (drop l.write-index l.writes) ≡ check_of_rows l.writes
