use Rattle.std.proofs.Common.{◌≡◌, drop}
use Rattle.std.specs.List.{list_any}
use Rattle.ak_notes.specs.GivenTexts.{is_space_or_less}
use Rattle.ak_notes.proofs.given_texts.has_space_or_less.Given as goal

-- none of the bytes so far is one
abbrev pub invariant-loop-byte : goal.invariant-loop-byte
invariant-loop-byte l = list_any is_space_or_less (drop l.byte-index l.bytes) ≡ list_any is_space_or_less l.bytes
