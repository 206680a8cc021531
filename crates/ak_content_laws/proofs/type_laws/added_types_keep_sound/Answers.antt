use Rattle.ak_content_laws.proofs.CallEnds.{types_added}
use Rattle.ak_content_laws.proofs.type_laws.added_types_keep_sound.Goals as goal

pub returns : goal.returns
returns c = types_added
