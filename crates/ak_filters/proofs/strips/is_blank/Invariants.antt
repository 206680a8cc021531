use Rattle.std.proofs.Common.{◌≡◌, drop}
use Rattle.ak_filters.specs.Strips.{blank}
use Rattle.ak_filters.proofs.strips.is_blank.Given as goal

-- what is left decides
abbrev pub invariant-loop-byte : goal.invariant-loop-byte
invariant-loop-byte l = blank l.text ≡ blank (drop l.byte-index l.bytes)
