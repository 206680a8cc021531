use Rattle.std.proofs.Common.{◌≡◌, ◌<◌, ℕ, false, get_or, None}
use Rattle.ak_types.specs.PlaceMaps.{names_place}
use Rattle.ak_types.proofs.place_maps.new_place.Given as goal

-- none of the entries so far names it
abbrev pub invariant-loop-place : goal.invariant-loop-place
invariant-loop-place l = (other : ℕ) → other < l.place → names_place l.old (get_or l.entries other None) ≡ false
