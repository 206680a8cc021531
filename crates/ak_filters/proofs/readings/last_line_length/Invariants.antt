use Rattle.std.proofs.Common.{◌≡◌, ◌≤◌, drop}
use Rattle.ak_filters.specs.Readings.{line_length}
use Rattle.ak_filters.proofs.readings.last_line_length.Given as goal

-- what is left decides, with the bytes of the line that was begun
abbrev pub invariant-loop-byte : goal.invariant-loop-byte
invariant-loop-byte l = (l.length ≤ l.byte-index) × (line_length l.length (drop l.byte-index l.byte-items) ≡ line_length 0 l.text)
