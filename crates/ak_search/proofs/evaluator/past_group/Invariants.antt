use Rattle.std.proofs.Common.{◌≡◌, ◌+◌, ◌≤◌, length}
use Rattle.ak_search.specs.Grammar.{pieces_in}
use Rattle.ak_search.specs.Passes.{behind_group}
use Rattle.ak_search.proofs.evaluator.past_group.Given as goal

-- what is left decides what stands behind the group
abbrev pub invariant-loop-token : goal.invariant-loop-token
invariant-loop-token l = record {
  few : l.depth + length l.rest ≤ length l.tokens;
  whole : behind_group l.depth (pieces_in l.rest) ≡ behind_group 0 (pieces_in l.tokens);
}

abbrev pub decreases-loop-token : goal.decreases-loop-token
decreases-loop-token l = length l.rest
