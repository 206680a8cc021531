use Rattle.std.proofs.Common.{refl}
use Rattle.ak_base.specs.Rests.{note_type_keys}
use Rattle.ak_json.proofs.Kept.{lacks_known}
use Rattle.ak_json.specs.Forms.{note_type_form}
use Rattle.ak_json.proofs.note_types.note_type_of.Goals as goal

pub read_rest-requires : goal.read_rest-requires
read_rest-requires c = λ members. lacks_known note_type_keys note_type_form members refl
