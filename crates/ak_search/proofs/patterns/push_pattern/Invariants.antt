use Rattle.std.proofs.Common.{◌≡◌, ◌++◌, drop}
use Rattle.ak_search.specs.Patterns.{pattern_of}
use Rattle.ak_search.proofs.patterns.push_pattern.Given as goal

abbrev pub invariant-loop-source_char : goal.invariant-loop-source_char
invariant-loop-source_char l = l.pattern ++ pattern_of (drop l.source_char-index l.source_chars) ≡ l.fn.pattern ++ pattern_of l.source_chars
