use Rattle.std.proofs.Common.{sym, ◌∙◌}
use Rattle.ak_search.specs.Grammar.{pieces_in}
use Rattle.ak_search.proofs.AtOnce.{fails_told}
use Rattle.ak_search.proofs.at_once.fails_unseen.Goals as goal

pub returns-then-tokens-gt1 : goal.returns-then-tokens-gt1
returns-then-tokens-gt1 c = λ fails. fails_told c.args.context.now c.args.card.now (pieces_in c.args.tokens.now) (sym c.some_term_fails.ensures ∙ fails)
