use Rattle.std.proofs.Common.{◌≡◌, ◌++◌, false, length}
use Rattle.ak_search.specs.Tokens.{tokens_from}
use Rattle.ak_search.proofs.tokens.tokens_of.Given as goal

abbrev pub invariant-loop-first : goal.invariant-loop-first
invariant-loop-first l = l.tokens.items ++ tokens_from 0 l.minus l.negated l.rest ≡ tokens_from 0 false false l.source_chars

abbrev pub decreases-loop-first : goal.decreases-loop-first
decreases-loop-first l = length l.rest
