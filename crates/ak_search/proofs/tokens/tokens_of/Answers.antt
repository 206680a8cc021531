use Rattle.std.proofs.Common.{◌≡◌, ◌-◌, ◌==◌, false, rules}
use Rattle.ak_search.specs.Tokens.{next_lexeme, is_negated_by}
use Rattle.ak_search.proofs.Lexing.{one_token}
use Rattle.ak_search.proofs.tokens.tokens_of.Goals as goal

pub loop-first-preserved : goal.loop-first-preserved
loop-first-preserved c =
    let space : (c.in-Some.first.now.letter == 32) ≡ false = search rules in
    let minus : is_negated_by c.in-Some.first.now c.in-Some.others.now ≡ false = search rules in
    let taken : c.saturating_sub-taken.result ≡ (next_lexeme c.loop-first.minus c.loop-first.negated c.in-Some.first.now c.in-Some.others.now).size - 1 = search rules in
    search (rules, one_token c.loop-first.tokens.items c.loop-first.minus c.loop-first.negated c.in-Some.first.now c.in-Some.others.now c.saturating_sub-taken.result space minus taken)
