use Rattle.std.proofs.Common.{◌≡◌, ◌==◌, drop}
use Rattle.std.specs.List.{list_any}
use Rattle.ak_notes.proofs.given_texts.has_separator.Given as goal

-- none of the bytes so far is it
abbrev pub invariant-loop-byte : goal.invariant-loop-byte
invariant-loop-byte l = list_any (λ byte. byte == 31) (drop l.byte-index l.bytes) ≡ list_any (λ byte. byte == 31) l.bytes
