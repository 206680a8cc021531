use Rattle.ak_content_laws.proofs.CallEnds.{asks_deletion}
use Rattle.ak_content_laws.proofs.Keepings.{rule_keeps}
use Rattle.ak_notes.specs.Deletions.{RefusesDeletion, deletion}
use Rattle.ak_content_laws.proofs.note_laws.deleted_notes_keep_sound.Goals as goal

pub returns : goal.returns
returns c = λ at notes before now steps left result ends held. rule_keeps at (deletion notes) (RefusesDeletion at notes) before now steps left result (asks_deletion notes (RefusesDeletion at notes)) ends held
