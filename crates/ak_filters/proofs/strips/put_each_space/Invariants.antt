use Rattle.std.proofs.Common.{◌≡◌, ◌++◌, string_bytes, length}
use denote.Text.{Utf8}
use denote.Shadow.{shadow}
use Rattle.ak_filters.specs.Strips.{spaced}
use Rattle.ak_filters.proofs.strips.put_each_space.Given as goal

-- what is made, with what the rest still gives, is what the text gives
abbrev pub invariant-loop-kept : goal.invariant-loop-kept
invariant-loop-kept l = shadow (Utf8 l.rest) × (string_bytes l.made ++ spaced 0 l.rest ≡ spaced 0 l.text)

abbrev pub decreases-loop-kept : goal.decreases-loop-kept
decreases-loop-kept l = length l.rest
