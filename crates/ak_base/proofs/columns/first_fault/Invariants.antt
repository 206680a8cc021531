use Rattle.std.proofs.Common.{◌≡◌, drop}
use Rattle.ak_base.specs.Columns.{first_fault}
use Rattle.ak_base.proofs.columns.first_fault.Given as goal

-- no column so far has a fault
abbrev pub invariant-loop-fault : goal.invariant-loop-fault
invariant-loop-fault l = first_fault (drop l.fault-index l.faults) ≡ first_fault l.faults
