use Rattle.ak_notes.proofs.AdmittedNotes.{note_edits_are_admitted}
use Rattle.ak_notes.proofs.note_laws.note_edits_are_admitted.Goals as goal

pub returns : goal.returns
returns c = note_edits_are_admitted
