use Rattle.std.proofs.Common.{◌≡◌, ◌+◌, ◌≤◌, length, false}
use Rattle.ak_search.specs.AtOnce.{fails_at_once, some_term_fails}
use Rattle.ak_search.specs.Grammar.{pieces_in}
use Rattle.ak_search.proofs.at_once.some_term_fails.Given as goal

-- what is left decides
abbrev pub invariant-loop-token : goal.invariant-loop-token
invariant-loop-token l = record {
  few : l.depth + length l.rest ≤ length l.tokens;
  whole : some_term_fails (fails_at_once l.context.day l.context.answers l.card) l.depth l.failed (pieces_in l.rest) ≡ some_term_fails (fails_at_once l.context.day l.context.answers l.card) 0 false (pieces_in l.tokens);
}

abbrev pub decreases-loop-token : goal.decreases-loop-token
decreases-loop-token l = length l.rest
