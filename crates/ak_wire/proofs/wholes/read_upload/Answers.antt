use Rattle.serde_json.specs.View.{view}
use Rattle.ak_wire.specs.Forms.{upload_form}
use Rattle.ak_wire.specs.Values.{object_fault}
use Rattle.ak_wire.specs.Wholes.{upload_tables, PartsFault}
use Rattle.ak_wire.proofs.ReadForms.{if_both, upload_read}
use Rattle.ak_wire.proofs.Refusals.{err_was, form_was}
use Rattle.ak_wire.proofs.wholes.read_upload.Goals as goal

pub returns-in_err-check_object-clause-err : goal.returns-in_err-check_object-clause-err
returns-in_err-check_object-clause-err c =
    err_was c.from_residual.result c.from_residual.ensures.1 (λ fault same. form_was (object_fault upload_form (view c.args.value.now)) (PartsFault upload_tables (view c.args.value.now)) fault c.in_err-check_object.field-0.0
    same c.in_err-check_object.ensures.err)

pub returns-clause-ok : goal.returns-clause-ok
returns-clause-ok c =
    if_both c.read_whole.result c.read_whole.ensures.ok c.read_whole.ensures.usn (λ whole taken usn. upload_read (view c.args.value.now) whole c.in_ok-check_object.ensures.ok taken usn)
