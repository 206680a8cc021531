use Rattle.std.proofs.Common.{◌≡◌, ◌+◌, drop}
use Rattle.ak_search.specs.Tokens.{word_size}
use Rattle.ak_search.proofs.lexemes.word_size.Given as goal

abbrev pub invariant-loop-source_char : goal.invariant-loop-source_char
invariant-loop-source_char l =
    record {
      counted : l.size ≡ l.source_char-index;
      whole : word_size l.source_chars ≡ word_size (drop l.source_char-index l.source_chars) + l.size;
    }
