use Rattle.ak_content_laws.proofs.MovedFields.{moves_fields}
use Rattle.ak_content_laws.proofs.type_laws.edited_types_move_fields.Goals as goal

pub returns : goal.returns
returns c = λ at given held before now steps left passes is whole. moves_fields at given held before now steps left passes is whole
