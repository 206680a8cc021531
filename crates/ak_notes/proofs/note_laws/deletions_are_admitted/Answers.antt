use Rattle.ak_notes.proofs.AdmittedDeletions.{deletions_are_admitted}
use Rattle.ak_notes.proofs.note_laws.deletions_are_admitted.Goals as goal

pub returns : goal.returns
returns c = deletions_are_admitted
