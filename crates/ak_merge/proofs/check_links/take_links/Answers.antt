use Rattle.std.proofs.Common.{◌≡◌, ◌∷◌, ◌++◌, filter_map, rules}
use Rattle.ak_keep.proofs.Collecting.{one_taken, filter_map-first}
use Rattle.ak_merge.specs.CheckLinks.{link_of}
use Rattle.ak_merge.proofs.check_links.take_links.Goals as goal

pub loop-row-preserved : goal.loop-row-preserved
loop-row-preserved c =
    let rest : c.loop-row.rest.now ≡ c.in-Some.row.now ∷ c.in-Some.others.now = search rules in
    one_taken (filter_map link_of) (filter_map-first link_of) c.loop-row.links c.take_link.new.links (c.args.links.now ++ filter_map link_of c.args.rows.now) c.in-Some.row.now c.in-Some.others.now
    (rw rest at c.loop-row.invariant) c.in_ok-take_link.ensures
