use Rattle.std.proofs.Common.{arith, sym, ◌∙◌}
use Rattle.ak_types.proofs.PlaceMapping.{found_at, found_nowhere}
use Rattle.ak_types.proofs.place_maps.new_place.Goals as goal

pub returns-then-names_place-clause-place : goal.returns-then-names_place-clause-place
returns-then-names_place-clause-place c =
    found_at c.args.old c.args.entries.now c.loop-place.place c.loop-place-test.true (sym c.names_place.ensures ∙ c.if-names_place.true) c.loop-place.invariant

pub returns-clause-place : goal.returns-clause-place
returns-clause-place c = found_nowhere c.args.old c.args.entries.now c.loop-place.place (omega arith) c.loop-place.invariant
