use Rattle.std.proofs.Common.{sym, ◌∙◌}
use Rattle.ak_types.proofs.PlaceMapping.{one_more}
use Rattle.ak_types.proofs.place_maps.first_bad.Goals as goal

pub returns-then-is_bad_at-clause-first : goal.returns-then-is_bad_at-clause-first
returns-then-is_bad_at-clause-first c = record { bad = sym c.is_bad_at.ensures ∙ c.if-is_bad_at.true; first = c.loop-place.invariant }

pub loop-place-preserved : goal.loop-place-preserved
loop-place-preserved c = one_more c.args.map.now.old c.args.map.now.new c.args.map.now.entries.now c.loop-place.place (sym c.is_bad_at.ensures ∙ c.if-is_bad_at.false) c.loop-place.invariant
