use Rattle.std.proofs.Common.{◌≡◌, ◌≤◌, drop}
use Rattle.ak_search.specs.Grammar.{closes, pieces_in}
use Rattle.ak_search.proofs.checks.closes.Given as goal

abbrev pub invariant-loop-token : goal.invariant-loop-token
invariant-loop-token l =
    record {
      few : l.depth ≤ l.token-index;
      whole : closes l.depth (pieces_in (drop l.token-index l.tokens)) ≡ closes 0 (pieces_in l.tokens);
    }
