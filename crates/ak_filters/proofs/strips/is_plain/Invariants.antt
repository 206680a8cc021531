use Rattle.std.proofs.Common.{◌≡◌, drop}
use Rattle.ak_filters.specs.Strips.{is_plain}
use Rattle.ak_filters.proofs.strips.is_plain.Given as goal

-- what is left decides
abbrev pub invariant-loop-byte : goal.invariant-loop-byte
invariant-loop-byte l = is_plain l.text ≡ is_plain (drop l.byte-index l.bytes)
