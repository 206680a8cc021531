use Rattle.std.proofs.Common.{◌≡◌, ◌+◌, ◌≤◌, false, length}
use Rattle.ak_search.specs.Grammar.{fault_in}
use Rattle.ak_search.proofs.checks.first_fault.Given as goal

abbrev pub invariant-loop-token : goal.invariant-loop-token
invariant-loop-token l =
    record {
      few : l.depth + length l.rest ≤ length l.tokens;
      whole : fault_in l.depth l.before l.rest ≡ fault_in 0 false l.tokens;
    }

abbrev pub decreases-loop-token : goal.decreases-loop-token
decreases-loop-token l = length l.rest
