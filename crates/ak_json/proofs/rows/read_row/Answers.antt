use Rattle.std.proofs.lemmas.Result.{err_from_is_err_and}
use Rattle.serde_json.specs.View.{view}
use Rattle.ak_json.proofs.RowForms.{form_refuses}
use Rattle.ak_json.proofs.rows.read_row.Goals as goal

pub returns-in_err-row-clause-refused : goal.returns-in_err-row-clause-refused
returns-in_err-row-clause-refused c =
    let p = err_from_is_err_and c.from_residual.result c.from_residual.ensures.1 in
    rw (p.1, p.2) (form_refuses c.args.table (view c.args.value.now) c.in_err-row.field-0.0 c.in_err-row.ensures.err)
