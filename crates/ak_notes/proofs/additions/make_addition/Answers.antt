use Rattle.std.proofs.lemmas.Int.{to_z-of_z}
use Rattle.std.proofs.Common.{w64, SFits}
use Rattle.std.proofs.lemmas.Result.{err_from_is_err_and}
use Rattle.ak_keep.specs.Keepers.{WhereTold}
use Rattle.ak_notes.proofs.AddedNotes.{id_listed, id_passes, id_refuses, if_ok-map, of_name}
use Rattle.ak_notes.specs.Additions.{IsMadeFor, IsMadeUnder}
use Rattle.ak_notes.proofs.additions.make_addition.Goals as goal

pub returns-in_err-name-clause-refused : goal.returns-in_err-name-clause-refused
returns-in_err-name-clause-refused g c =
    let at : SFits w64 c.args.at = c.ranges.at in
    let p = err_from_is_err_and c.from_residual.result c.from_residual.ensures.1 in
    rw (p.1, p.2) (id_refuses (g.K.Lookup.keeping c.args.keeper.now) c.args.at c.args.new.now c.args.note_type.now c.in_err-name.field-0.0 (rw (to_z-of_z w64 c.args.at at) at c.in_err-name.ensures.refused))

pub returns-in_err-name-clause-listed : goal.returns-in_err-name-clause-listed
returns-in_err-name-clause-listed g c =
    let p = err_from_is_err_and c.from_residual.result c.from_residual.ensures.1 in
    rw (p.1, p.2) (id_listed c.in_err-name.field-0.0 c.in_err-name.ensures.listed)

pub returns-clause-refused : goal.returns-clause-refused
returns-clause-refused g c =
    let at : SFits w64 c.args.at = c.ranges.at in
    id_passes (g.K.Lookup.keeping c.args.keeper.now) c.args.at c.args.new.now c.args.note_type.now c.in_ok-name.name c.make_named.result
    (rw (to_z-of_z w64 c.args.at at) at c.in_ok-name.ensures.refused)
    (rw (c.new_name.ensures.same, to_z-of_z w64 c.args.at at) at c.make_named.ensures.refused)

pub returns-clause-made : goal.returns-clause-made
returns-clause-made g c =
    let k = g.K.Lookup.keeping c.args.keeper.now in
    let at : SFits w64 c.args.at = c.ranges.at in
    if_ok-map c.make_named.result (λ made. WhereTold k (IsMadeUnder c.args.at c.args.note_type.now c.args.new.now c.in_ok-name.name made))
    (λ made. WhereTold k (IsMadeFor c.args.at c.args.note_type.now c.args.new.now made))
    (λ made. of_name k c.args.at c.args.note_type.now c.args.new.now c.in_ok-name.name made (rw (to_z-of_z w64 c.args.at at) at c.in_ok-name.ensures.new))
    (rw (c.new_name.ensures.same, to_z-of_z w64 c.args.at at) at c.make_named.ensures.made)
