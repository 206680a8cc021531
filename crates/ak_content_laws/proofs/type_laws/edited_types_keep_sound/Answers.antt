use Rattle.ak_content_laws.proofs.CallEnds.{types_edited}
use Rattle.ak_content_laws.proofs.type_laws.edited_types_keep_sound.Goals as goal

pub returns : goal.returns
returns c = types_edited
