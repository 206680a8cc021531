use Rattle.std.proofs.Common.{◌≡◌, length}
use denote.Text.{Utf8}
use denote.Shadow.{shadow}
use Rattle.ak_deck_paths.specs.GivenPaths.{has_empty_part}
use Rattle.ak_deck_paths.proofs.given_paths.has_empty_part.Given as goal

-- the parts that are left decide
abbrev pub invariant-loop-part : goal.invariant-loop-part
invariant-loop-part l = shadow (Utf8 l.rest) × (has_empty_part l.rest ≡ has_empty_part l.path)

abbrev pub decreases-loop-part : goal.decreases-loop-part
decreases-loop-part l = length l.rest
