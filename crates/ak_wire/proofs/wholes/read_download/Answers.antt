use Rattle.serde_json.specs.View.{view}
use Rattle.ak_wire.specs.Forms.{download_form}
use Rattle.ak_wire.specs.Values.{object_fault}
use Rattle.ak_wire.specs.Wholes.{download_tables, PartsFault}
use Rattle.std.proofs.Common.{rules}
use Rattle.ak_wire.proofs.ReadForms.{download_read}
use Rattle.ak_wire.proofs.Refusals.{err_was, form_was}
use Rattle.ak_wire.proofs.wholes.read_download.Goals as goal

pub returns-in_err-check_object-clause-err : goal.returns-in_err-check_object-clause-err
returns-in_err-check_object-clause-err c =
    err_was c.from_residual.result c.from_residual.ensures.1 (λ fault same. form_was (object_fault download_form (view c.args.value.now)) (PartsFault download_tables (view c.args.value.now)) fault c.in_err-check_object.field-0.0
    same c.in_err-check_object.ensures.err)

pub returns-clause-ok : goal.returns-clause-ok
returns-clause-ok c =
    let taken = c.in_ok-whole.ensures.ok in
    download_read (view c.args.value.now) _ c.in_ok-check_object.ensures.ok
    (record { conf = taken.conf; rows = taken.rows; crt = taken.crt; moment = taken.moment; schema = taken.schema; tags = taken.tags }) (search rules)
