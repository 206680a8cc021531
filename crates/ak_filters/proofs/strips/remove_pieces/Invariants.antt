use Rattle.std.proofs.Common.{◌≡◌, ◌++◌, false, string_bytes, length}
use denote.Text.{Utf8}
use denote.Shadow.{shadow}
use Rattle.ak_filters.specs.Strips.{removed}
use Rattle.ak_filters.proofs.strips.remove_pieces.Given as goal

-- what is made, with what the rest still gives, is what the text gives
abbrev pub invariant-loop-kept : goal.invariant-loop-kept
invariant-loop-kept l = shadow (Utf8 l.rest) × (string_bytes l.made ++ removed false l.rest ≡ removed false l.text)

abbrev pub decreases-loop-kept : goal.decreases-loop-kept
decreases-loop-kept l = length l.rest
