use Rattle.std.proofs.Common.{◌≡◌, ◌+◌, ◌≤◌, drop}
use Rattle.ak_wire.specs.Budgets.{cost_of}
use Rattle.ak_wire.specs.declared.budgets.Scan.TheVariants as scans
use Rattle.ak_wire.proofs.budgets.is_within_budget.Given as goal

-- what the bytes so far are counted as, with what is left, and that it is within the budget
abbrev pub invariant-loop-byte : goal.invariant-loop-byte
invariant-loop-byte l =
    record {
      so_far : l.bytes + cost_of l.scan (drop l.byte-index l.body) ≡ cost_of scans.Outside l.body;
      within : l.bytes ≤ 4_294_967_296;
    }
