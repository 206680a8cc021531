use Rattle.ak_content_laws.proofs.Keepings.{cleared_keeps, finished_keeps}
use Rattle.ak_content_laws.proofs.edit_laws.edits_keep_sound.Goals as goal

pub returns : goal.returns
returns c = record { finished = finished_keeps; cleared = cleared_keeps }
