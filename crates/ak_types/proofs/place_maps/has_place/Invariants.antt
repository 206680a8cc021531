use Rattle.std.proofs.Common.{◌≡◌, drop}
use Rattle.std.specs.List.{list_any}
use Rattle.ak_types.specs.PlaceMaps.{names_place}
use Rattle.ak_types.proofs.place_maps.has_place.Given as goal

-- none of the entries so far names it
abbrev pub invariant-loop-entry : goal.invariant-loop-entry
invariant-loop-entry l = list_any (names_place l.old) (drop l.entry-index l.entries) ≡ list_any (names_place l.old) l.entries
