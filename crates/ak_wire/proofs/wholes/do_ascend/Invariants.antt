use Rattle.std.proofs.Common.{◌≡◌, None, drop}
use Rattle.ak_wire.specs.Wholes.{rows_after}
use Rattle.ak_wire.proofs.wholes.do_ascend.Given as goal

-- the ids so far ascend
abbrev pub invariant-loop-row : goal.invariant-loop-row
invariant-loop-row l = rows_after l.before (drop l.row-index l.rows) ≡ rows_after None l.rows
