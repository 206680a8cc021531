use Rattle.std.proofs.Common.{◌≡◌, ◌++◌, ◌+◌, None, drop, length}
use Rattle.std.proofs.Math.Utf8.{encodes}
use Rattle.ak_search.specs.SourceChars.{source_chars_from}
use Rattle.ak_search.proofs.source_chars.read_source_chars.Given as goal

abbrev pub invariant-loop-letter : goal.invariant-loop-letter
invariant-loop-letter l =
    record {
      within : l.place + length (encodes (drop l.letter-index l.letters)) ≡ length (encodes l.letters);
      whole : l.source_chars.items ++ source_chars_from l.slash l.place (drop l.letter-index l.letters) ≡ source_chars_from None 0 l.letters;
    }
