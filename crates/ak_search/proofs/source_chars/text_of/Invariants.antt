use Rattle.std.proofs.Common.{◌≡◌, ◌++◌, drop}
use Rattle.std.specs.Prelude.{string_bytes}
use Rattle.ak_search.specs.SourceChars.{text_of}
use Rattle.ak_search.proofs.source_chars.text_of.Given as goal

abbrev pub invariant-loop-source_char : goal.invariant-loop-source_char
invariant-loop-source_char l = string_bytes l.made ++ text_of (drop l.source_char-index l.source_chars) ≡ text_of l.source_chars
