use Rattle.std.proofs.Common.{◌≡◌, ◌∷◌, ◌++◌, filter_map, rules}
use Rattle.ak_imports.specs.NotesOfTypes.{note_of_type}
use Rattle.ak_keep.proofs.Collecting.{one_taken, filter_map-first}
use Rattle.ak_imports.proofs.exports.take_rows.Goals as goal

pub loop-row-preserved : goal.loop-row-preserved
loop-row-preserved c =
    let rest : c.loop-row.rest.now ≡ c.in-Some.row.now ∷ c.in-Some.others.now = search rules in
    one_taken (filter_map (note_of_type c.args.note_type.now)) (filter_map-first (note_of_type c.args.note_type.now)) c.loop-row.notes c.take_row.new.notes (c.args.notes.now ++ filter_map (note_of_type c.args.note_type.now) c.args.rows.now) c.in-Some.row.now c.in-Some.others.now
    (rw rest at c.loop-row.invariant) c.in_ok-take_row.ensures
