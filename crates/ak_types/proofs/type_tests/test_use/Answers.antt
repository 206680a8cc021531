use Rattle.std.proofs.lemmas.Result.{err_from_is_err_and}
use Rattle.ak_types.proofs.Testing.{rows_pass, rows_refuse}
use Rattle.ak_types.specs.TypeEdits.{RefusesAsked, RefusesOtherKind}
use Rattle.ak_types.proofs.type_tests.test_use.Goals as goal

pub returns-in_err-test_kind-clause-refused : goal.returns-in_err-test_kind-clause-refused
returns-in_err-test_kind-clause-refused g c =
    let p = err_from_is_err_and c.from_residual.result c.from_residual.ensures.1 in
    rw (p.1, p.2) (rows_refuse (Unit {0}) (Unit {0}) (g.K.Lookup.keeping c.args.keeper.now) (RefusesOtherKind c.args.given.now c.args.old.now) (RefusesAsked c.args.given.now c.args.old.now) c.in_err-test_kind.field-0.0 c.in_err-test_kind.ensures.refused)

pub returns-clause-refused : goal.returns-clause-refused
returns-clause-refused g c =
    rows_pass (g.K.Lookup.keeping c.args.keeper.now) (RefusesOtherKind c.args.given.now c.args.old.now) (RefusesAsked c.args.given.now c.args.old.now) tt c.test_asked.result c.in_ok-test_kind.ensures.refused c.test_asked.ensures.refused
