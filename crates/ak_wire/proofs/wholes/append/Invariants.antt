use Rattle.std.proofs.Common.{◌≡◌, ◌++◌}
use Rattle.ak_wire.proofs.wholes.append.Given as goal

-- the rows so far, and then those that are left
abbrev pub invariant-loop-row : goal.invariant-loop-row
invariant-loop-row l = l.rows ++ l.row-iterator.rest.items ≡ l.fn.rows ++ l.fn.added
