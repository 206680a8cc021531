use Rattle.std.proofs.Common.{◌≡◌, ◌∷◌, ◌++◌, filter_map, rules, w64, to_z, of_z}
use Rattle.ak_filtered.specs.Emptyings.{away_id}
use Rattle.ak_keep.proofs.Collecting.{filter_map-first, one_taken}
use Rattle.ak_filtered.proofs.emptyings.take_away.Goals as goal

pub loop-row-preserved : goal.loop-row-preserved
loop-row-preserved c =
    let f = away_id (to_z w64 (of_z w64 c.args.deck)) in
    let rest : c.loop-row.rest.now ≡ c.in-Some.row.now ∷ c.in-Some.others.now = search rules in
    one_taken (filter_map f) (filter_map-first f) c.loop-row.ids c.take_one.new.ids (c.args.ids.now ++ filter_map f c.args.rows.now) c.in-Some.row.now c.in-Some.others.now
    (rw rest at c.loop-row.invariant) c.in_ok-take_one.ensures
