use Rattle.std.proofs.Common.{◌≡◌, ◌+◌, drop}
use Rattle.ak_search.specs.SourceChars.{until}
use Rattle.ak_search.proofs.source_chars.until.Given as goal

abbrev pub invariant-loop-source_char : goal.invariant-loop-source_char
invariant-loop-source_char l =
    record {
      counted : l.size ≡ l.source_char-index;
      whole : until l.letter l.source_chars ≡ until l.letter (drop l.source_char-index l.source_chars) + l.size;
    }
