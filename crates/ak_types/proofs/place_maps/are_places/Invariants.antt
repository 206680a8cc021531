use Rattle.std.proofs.Common.{◌≡◌, drop}
use Rattle.ak_types.specs.PlaceMaps.{are_places_from}
use Rattle.ak_types.proofs.place_maps.are_places.Given as goal

-- the entries so far name their places
abbrev pub invariant-loop-place : goal.invariant-loop-place
invariant-loop-place l = are_places_from l.place (drop l.place l.entries) ≡ are_places_from 0 l.entries
