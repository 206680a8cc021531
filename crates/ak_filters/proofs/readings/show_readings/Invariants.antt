use Rattle.std.proofs.Common.{◌≡◌, ◌++◌, string_bytes, length}
use denote.Text.{Utf8}
use denote.Shadow.{shadow}
use Rattle.ak_filters.specs.Readings.{shown_from}
use Rattle.ak_filters.proofs.readings.show_readings.Given as goal

-- what is made, with what is shown of the rest, is what is shown of the text
abbrev pub invariant-loop-segment : goal.invariant-loop-segment
invariant-loop-segment l = shadow (Utf8 l.rest) × (string_bytes l.made ++ shown_from l.part 0 l.rest ≡ shown_from l.part 0 l.text)

abbrev pub decreases-loop-segment : goal.decreases-loop-segment
decreases-loop-segment l = length l.rest
