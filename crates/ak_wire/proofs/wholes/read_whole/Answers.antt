use Rattle.serde_json.specs.View.{view}
use Rattle.ak_wire.proofs.Refusals.{err_was}
use Rattle.ak_wire.proofs.Tables.{settings_read}
use Rattle.ak_wire.proofs.wholes.read_whole.Goals as goal

pub returns-in_err-read_tables-clause-err : goal.returns-in_err-read_tables-clause-err
returns-in_err-read_tables-clause-err c =
    err_was c.from_residual-in_err-read_tables.result c.from_residual-in_err-read_tables.ensures.1 (λ fault same. settings_read c.args.tables.now (view c.args.value.now) (view c.value_under.result.now)
    c.in_ok-conf.conf fault c.in_err-read_tables.field-0.0 c.value_under.ensures c.in_ok-conf.ensures.ok same c.in_err-read_tables.ensures.err)
