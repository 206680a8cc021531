use Rattle.std.proofs.lemmas.Result.{err_from_is_err_and}
use Rattle.ak_edit_calls.proofs.Answering.{passed_first, refused_first}
use Rattle.ak_types.specs.GivenTypes.{RefusesSides}
use Rattle.ak_types.specs.TypeEdits.{RefusesToChange}
use Rattle.ak_types.proofs.type_tests.test_asked.Goals as goal

pub returns-in_err-test_schema-clause-refused : goal.returns-in_err-test_schema-clause-refused
returns-in_err-test_schema-clause-refused c =
    let p = err_from_is_err_and c.from_residual.result c.from_residual.ensures.1 in
    rw (p.1, p.2) (refused_first (RefusesToChange c.args.given.now c.args.old.now) (RefusesSides c.args.given.now.note_type) c.in_err-test_schema.field-0.0 c.in_err-test_schema.ensures.refused)

pub returns-clause-refused : goal.returns-clause-refused
returns-clause-refused c =
    passed_first (RefusesToChange c.args.given.now c.args.old.now) (RefusesSides c.args.given.now.note_type) tt c.check_sides.result c.in_ok-test_schema.ensures.refused c.check_sides.ensures.answers
