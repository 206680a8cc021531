use Rattle.std.proofs.Common.{◌≡◌, ◌∷◌, ◌++◌, filter_map, rules}
use Rattle.ak_keep.specs.Lookups.{as_deck}
use Rattle.ak_keep.proofs.Collecting.{one_taken, filter_map-first}
use Rattle.ak_keep.proofs.decks.take_rows.Goals as goal

pub loop-row-preserved : goal.loop-row-preserved
loop-row-preserved c =
    let rest : c.loop-row.rest.now ≡ c.in-Some.row.now ∷ c.in-Some.others.now = search rules in
    one_taken (filter_map as_deck) (filter_map-first as_deck) c.loop-row.decks c.take_row.new.decks (c.args.decks.now ++ filter_map as_deck c.args.rows.now) c.in-Some.row.now c.in-Some.others.now
    (rw rest at c.loop-row.invariant) c.in_ok-take_row.ensures
