use Rattle.std.proofs.Common.{◌≤◌, length, arith}
use Rattle.ak_search.proofs.Earlier.{asked_from}
use Rattle.ak_search.proofs.earliest.earliest_asked.Goals as goal

pub returns-clause-least : goal.returns-clause-least
returns-clause-least c =
    let done : length c.args.tokens.now ≤ c.loop-token.token-index = omega (arith, c.loop-token-test.false, c.loop-token.auto) in
    λ asked. asked_from c.args.day c.loop-token.earliest c.args.tokens.now c.loop-token.token-index done c.loop-token.invariant.least
