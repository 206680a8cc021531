use Rattle.std.proofs.lemmas.Int.{to_z-of_z}
use Rattle.std.proofs.Common.{w64, SFits}
use Rattle.std.proofs.lemmas.Result.{err_from_is_err_and}
use Rattle.std.specs.List.{AllByRecursion}
use Rattle.ak_merge.specs.Tags.{IsTagName}
use Rattle.ak_notes.proofs.AddedNotes.{given_cause, given_listed, on_ok}
use Rattle.ak_notes.proofs.Needing.{test_passes, test_refuses}
use Rattle.ak_notes.specs.Additions.{RefusesMaking}
use Rattle.ak_notes.specs.GivenTexts.{RefusesGiven}
use Rattle.ak_notes.specs.declared.made_notes.MadeNote.{MadeNote}
use Rattle.ak_notes.proofs.additions.read_for_deck.Goals as goal

pub returns-in_err-check_given-clause-refused : goal.returns-in_err-check_given-clause-refused
returns-in_err-check_given-clause-refused g c =
    let new = c.args.new.now in
    let p = err_from_is_err_and c.from_residual.result c.from_residual.ensures.1 in
    rw (p.1, p.2) (test_refuses MadeNote (g.K.Lookup.keeping c.args.keeper.now) (RefusesGiven c.args.note_type.now new.fields new.tags) (RefusesMaking c.args.at new c.args.note_type.now)
    c.in_err-check_given.field-0.0 c.in_err-check_given.ensures.refused)

pub returns-clause-refused : goal.returns-clause-refused
returns-clause-refused g c =
    let at : SFits w64 c.args.at = c.ranges.at in
    let new = c.args.new.now in
    test_passes (g.K.Lookup.keeping c.args.keeper.now) (RefusesGiven c.args.note_type.now new.fields new.tags) (RefusesMaking c.args.at new c.args.note_type.now)
    tt c.make_addition.result c.in_ok-check_given.ensures.refused
    (rw (to_z-of_z w64 c.args.at at) at c.make_addition.ensures.refused)

pub returns-clause-names : goal.returns-clause-names
returns-clause-names g c = on_ok c.make_addition.result (AllByRecursion IsTagName c.args.new.now.tags) c.in_ok-check_given.ensures.names

pub returns-in_err-check_given-clause-listed : goal.returns-in_err-check_given-clause-listed
returns-in_err-check_given-clause-listed g c =
    let p = err_from_is_err_and c.from_residual.result c.from_residual.ensures.1 in
    rw (p.1, p.2) (given_listed c.in_err-check_given.field-0.0 c.in_err-check_given.ensures.listed)

pub returns-in_err-check_given-clause-cause : goal.returns-in_err-check_given-clause-cause
returns-in_err-check_given-clause-cause g c =
    let p = err_from_is_err_and c.from_residual.result c.from_residual.ensures.1 in
    rw (p.1, p.2) (given_cause (g.K.Lookup.health c.args.keeper.now) c.in_err-check_given.field-0.0 c.in_err-check_given.ensures.listed)
