use Rattle.ak_content_laws.proofs.CallEnds.{asks_type_deletion}
use Rattle.ak_content_laws.proofs.Keepings.{rule_keeps}
use Rattle.ak_types.specs.TypeDeletions.{RefusesDeletion, type_deletion}
use Rattle.ak_content_laws.proofs.type_laws.deleted_types_keep_sound.Goals as goal

pub returns : goal.returns
returns c = λ at note_type allow before now steps left result ends held. rule_keeps at (type_deletion note_type) (RefusesDeletion at note_type allow) before now steps left result (asks_type_deletion at note_type allow) ends held
