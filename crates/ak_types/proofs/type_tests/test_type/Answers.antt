use Rattle.std.proofs.lemmas.Result.{err_from_is_err_and}
use Rattle.ak_types.proofs.Testing.{plain_passes, plain_refuses}
use Rattle.ak_types.specs.TypeEdits.{RefusesForm, RefusesUse}
use Rattle.ak_types.proofs.type_tests.test_type.Goals as goal

pub returns-in_err-test_form-clause-refused : goal.returns-in_err-test_form-clause-refused
returns-in_err-test_form-clause-refused g c =
    let p = err_from_is_err_and c.from_residual.result c.from_residual.ensures.1 in
    rw (p.1, p.2) (plain_refuses (Unit {0}) (Unit {0}) (g.K.Lookup.keeping c.args.keeper.now) (RefusesForm c.args.given.now c.args.old.now) (RefusesUse c.args.given.now c.args.old.now) c.in_err-test_form.field-0.0 c.in_err-test_form.ensures.refused)

pub returns-clause-refused : goal.returns-clause-refused
returns-clause-refused g c =
    plain_passes (g.K.Lookup.keeping c.args.keeper.now) (RefusesForm c.args.given.now c.args.old.now) (RefusesUse c.args.given.now c.args.old.now) tt c.test_use.result c.in_ok-test_form.ensures.refused c.test_use.ensures.refused
