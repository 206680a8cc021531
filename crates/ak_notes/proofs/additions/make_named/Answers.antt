use Rattle.std.proofs.lemmas.Result.{err_from_is_err_and}
use Rattle.ak_keep.specs.Keepers.{WhereTold}
use Rattle.ak_notes.proofs.AddedNotes.{fronts_pass, given_cause, given_listed, if_ok-map, of_ords}
use Rattle.ak_notes.proofs.Needing.{test_refuses}
use Rattle.ak_notes.specs.Additions.{IsMadeUnder, IsMadeWith}
use Rattle.ak_notes.specs.NewCards.{RefusesCardIds, RefusesFronts, at_least_one}
use Rattle.ak_notes.specs.declared.made_notes.MadeNote.{MadeNote}
use Rattle.ak_notes.proofs.additions.make_named.Goals as goal

pub returns-in_err-told-clause-refused : goal.returns-in_err-told-clause-refused
returns-in_err-told-clause-refused g c =
    let m = c.args.making.now in
    let p = err_from_is_err_and c.from_residual.result c.from_residual.ensures.1 in
    rw (p.1, p.2) (test_refuses MadeNote (g.K.Lookup.keeping c.args.keeper.now) (RefusesFronts m.note_type.now) (RefusesCardIds m.at at_least_one m.note_type.now m.new.now.fields)
    c.in_err-told.field-0.0 c.in_err-told.ensures.refused)

pub returns-in_err-told-clause-listed : goal.returns-in_err-told-clause-listed
returns-in_err-told-clause-listed g c =
    let p = err_from_is_err_and c.from_residual.result c.from_residual.ensures.1 in
    rw (p.1, p.2) (given_listed c.in_err-told.field-0.0 c.in_err-told.ensures.listed)

pub returns-clause-refused : goal.returns-clause-refused
returns-clause-refused g c =
    let m = c.args.making.now in
    fronts_pass (g.K.Lookup.keeping c.args.keeper.now) m.at m.new.now m.note_type.now c.in_ok-told.told c.make_told.result c.in_ok-told.ensures.refused c.in_ok-told.ensures.ords c.make_told.ensures.refused

pub returns-clause-made : goal.returns-clause-made
returns-clause-made g c =
    let m = c.args.making.now in
    let k = g.K.Lookup.keeping c.args.keeper.now in
    if_ok-map c.make_told.result (λ made. WhereTold k (IsMadeWith m.at m.note_type.now m.new.now c.args.name c.in_ok-told.told made))
    (λ made. WhereTold k (IsMadeUnder m.at m.note_type.now m.new.now c.args.name made))
    (λ made. of_ords k m.at m.note_type.now m.new.now c.args.name c.in_ok-told.told made c.in_ok-told.ensures.ords) c.make_told.ensures.made

pub returns-in_err-told-clause-cause : goal.returns-in_err-told-clause-cause
returns-in_err-told-clause-cause g c =
    let p = err_from_is_err_and c.from_residual.result c.from_residual.ensures.1 in
    rw (p.1, p.2) (given_cause (g.K.Lookup.health c.args.keeper.now) c.in_err-told.field-0.0 c.in_err-told.ensures.listed)
