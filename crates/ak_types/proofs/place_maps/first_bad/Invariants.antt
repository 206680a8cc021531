use Rattle.std.proofs.Common.{◌≡◌, ◌<◌, ℕ, false}
use Rattle.ak_types.specs.PlaceMaps.{is_bad_at}
use Rattle.ak_types.proofs.place_maps.first_bad.Given as goal

-- no place so far is bad
abbrev pub invariant-loop-place : goal.invariant-loop-place
invariant-loop-place l = (other : ℕ) → other < l.place → is_bad_at l.map.old l.map.new l.map.entries.now other ≡ false
