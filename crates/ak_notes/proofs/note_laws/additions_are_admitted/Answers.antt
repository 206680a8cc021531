use Rattle.ak_notes.proofs.AdmittedNotes.{additions_are_admitted}
use Rattle.ak_notes.proofs.note_laws.additions_are_admitted.Goals as goal

pub returns : goal.returns
returns c = additions_are_admitted
