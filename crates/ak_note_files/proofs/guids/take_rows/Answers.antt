use Rattle.std.proofs.Common.{◌≡◌, ◌∷◌, ◌++◌, filter_map, rules}
use Rattle.ak_keep.proofs.Collecting.{one_taken, filter_map-first}
use Rattle.ak_note_files.specs.Rules.{guid_of_other}
use Rattle.ak_note_files.proofs.guids.take_rows.Goals as goal

pub loop-row-preserved : goal.loop-row-preserved
loop-row-preserved c =
    let rest : c.loop-row.rest.now ≡ c.in-Some.row.now ∷ c.in-Some.others.now = search rules in
    let guids = guid_of_other c.args.own.now in
    one_taken (filter_map guids) (filter_map-first guids) c.loop-row.guids c.take_row.new.guids (c.args.guids.now ++ filter_map guids c.args.rows.now) c.in-Some.row.now c.in-Some.others.now
    (rw rest at c.loop-row.invariant) c.in_ok-take_row.ensures
