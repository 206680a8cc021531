use Rattle.std.proofs.Common.{◌≡◌, drop}
use Rattle.ak_imports.specs.OwnTests.{first_row_fault}
use Rattle.ak_imports.proofs.own_tests.first_row_fault.Given as goal

-- the rows that were passed have no fault
abbrev pub invariant-loop-row : goal.invariant-loop-row
invariant-loop-row l = first_row_fault (drop l.row-index l.rows) ≡ first_row_fault l.rows
