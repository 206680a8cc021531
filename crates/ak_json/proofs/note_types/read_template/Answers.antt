use Rattle.std.proofs.Common.{refl}
use Rattle.std.proofs.lemmas.Result.{err_from_is_err_and}
use Rattle.ak_base.specs.Rests.{template_keys}
use Rattle.serde_json.specs.View.{view}
use Rattle.ak_json.proofs.Kept.{lacks_known}
use Rattle.ak_json.proofs.Parts.{only_memory}
use Rattle.ak_json.specs.Forms.{template_form}
use Rattle.ak_json.proofs.note_types.read_template.Goals as goal

pub read_rest-requires : goal.read_rest-requires
read_rest-requires c = λ members. lacks_known template_keys template_form members refl

pub returns-in_err-rest-clause-err : goal.returns-in_err-rest-clause-err
returns-in_err-rest-clause-err c =
    let p = err_from_is_err_and c.from_residual.result c.from_residual.ensures.1 in
    rw (p.1, p.2) (only_memory template_form (view c.args.value.now) c.in_err-rest.field-0.0 c.requires c.in_err-rest.ensures.err)
