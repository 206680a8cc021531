use Rattle.ak_content_laws.proofs.CallEnds.{note_edited}
use Rattle.ak_content_laws.proofs.Keepings.{ends_keeps, where_told}
use Rattle.ak_notes.specs.NoteEdits.{DoesEditNote, IsNoteEdited}
use Rattle.ak_content_laws.proofs.note_laws.edited_notes_keep_sound.Goals as goal

pub returns : goal.returns
returns c = λ at given before now steps left result ends held. ends_keeps (λ _. DoesEditNote at given before now steps left) before now steps left result ends
    (λ value _ done held. note_edited at given before now steps left held (where_told before held.c (λ c. IsNoteEdited at given c before now steps left) held.told done)) held
