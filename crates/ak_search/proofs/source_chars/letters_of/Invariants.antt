use Rattle.std.proofs.Common.{◌≡◌}
use Rattle.ak_search.proofs.source_chars.letters_of.Given as goal

-- the characters so far
abbrev pub invariant-loop-letter : goal.invariant-loop-letter
invariant-loop-letter l = l.letters.items ≡ l.yielded
