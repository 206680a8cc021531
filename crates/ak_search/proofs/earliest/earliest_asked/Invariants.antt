use Rattle.std.proofs.Common.{◌≡◌, ◌||◌, drop}
use Rattle.ak_search.specs.Grammar.{pieces_in}
use Rattle.ak_search.specs.Passes.{needs_answers, some_term}
use Rattle.ak_search.proofs.Earlier.{AskSo}
use Rattle.ak_search.proofs.earliest.earliest_asked.Given as goal

-- what was taken in, with the pieces that are left, is what all ask
abbrev pub invariant-loop-token : goal.invariant-loop-token
invariant-loop-token l = record {
  asked : (l.earliest.asked || some_term needs_answers (pieces_in (drop l.token-index l.tokens))) ≡ some_term needs_answers (pieces_in l.tokens);
  least : AskSo l.day l.earliest (pieces_in (drop l.token-index l.tokens)) (pieces_in l.tokens);
}
