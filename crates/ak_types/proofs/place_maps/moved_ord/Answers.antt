use Rattle.std.proofs.Common.{sym, ap, ◌∙◌, ℕ, pos, w64, SFits}
use Rattle.std.proofs.lemmas.Int.{to_z-of_z}
use Rattle.std.specs.Option.{option_map}
use Rattle.ak_types.proofs.PlaceMapping.{moved_within}
use Rattle.ak_types.proofs.place_maps.moved_ord.Goals as goal

pub returns : goal.returns
returns c =
    let fits : SFits w64 c.args.ord = c.ranges.ord in
    c.as_ord.ensures ∙ ap (option_map (λ (n : ℕ). pos n)) (rw (to_z-of_z w64 c.args.ord fits) at c.new_place.ensures.place)
    ∙ sym (moved_within c.args.map.now.old c.args.map.now.entries.now c.args.ord (rw (to_z-of_z w64 c.args.ord fits) at c.if-ord-lt0.false) (rw (to_z-of_z w64 c.args.ord fits) at c.if-ord-map.false))
