use Rattle.std.proofs.Common.{refl, ap, ◌∙◌}
use Rattle.ak_keep.specs.Keepers.{back}
use Rattle.ak_server.proofs.Faulting.{err_cause, err_on}
use Rattle.ak_server.proofs.Keepings.{back_twice}
use Rattle.ak_server.proofs.serving.commit.Goals as goal

pub returns-in_err-commit-clause-err : goal.returns-in_err-commit-clause-err
returns-in_err-commit-clause-err g c =
    err_on c.from_residual-in_err-commit.result _ (record {
      committed = ap back c.in_err-commit.ensures.err ∙ back_twice (g.K.Lookup.keeping c.args.account.now.keeper);
      kept = refl;
    })

pub returns-in_err-commit-clause-cause : goal.returns-in_err-commit-clause-cause
returns-in_err-commit-clause-cause g c = err_cause c.from_residual-in_err-commit.result c.in_err-commit.field-0.0 c.from_residual-in_err-commit.ensures.1 c.in_err-commit.ensures.cause
