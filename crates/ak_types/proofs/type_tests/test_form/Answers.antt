use Rattle.std.proofs.lemmas.Result.{err_from_is_err_and}
use Rattle.ak_edit_calls.proofs.Answering.{passed_first, refused_first}
use Rattle.ak_types.specs.GivenTypes.{RefusesGiven, as_given}
use Rattle.ak_types.specs.TypeEdits.{RefusesMaps}
use Rattle.ak_types.proofs.type_tests.test_form.Goals as goal

pub returns-in_err-check_given-clause-refused : goal.returns-in_err-check_given-clause-refused
returns-in_err-check_given-clause-refused c =
    let p = err_from_is_err_and c.from_residual-in_err-check_given.result c.from_residual-in_err-check_given.ensures.1 in
    rw (p.1, p.2) (refused_first (RefusesGiven (as_given c.args.given.now.note_type)) (RefusesMaps c.args.given.now c.args.old.now) c.in_err-check_given.field-0.0 (rw (c.as_given-note_type.ensures, c.in_ok-copy.ensures) at c.in_err-check_given.ensures.answers))

pub returns-clause-refused : goal.returns-clause-refused
returns-clause-refused c =
    passed_first (RefusesGiven (as_given c.args.given.now.note_type)) (RefusesMaps c.args.given.now c.args.old.now) tt c.test_maps.result (rw (c.as_given-note_type.ensures, c.in_ok-copy.ensures) at c.in_ok-check_given.ensures.answers) c.test_maps.ensures.refused
