use Rattle.ak_content_laws.proofs.CallEnds.{undo_ended}
use Rattle.ak_content_laws.proofs.edit_laws.undos_keep_sound.Goals as goal

pub returns : goal.returns
returns c = undo_ended
