-- A note that has the texts of a record already.
use Rattle.std.specs.Prelude.{◌≡◌, Option, Some, None}
use Rattle.ak_base.specs.NoteTexts.{fields_in}
use Rattle.ak_base.specs.declared.notes.Note.{Note}
use Rattle.ak_edit_calls.specs.NoteTags.{stored_tags}
use Rattle.ak_notes.specs.declared.note_edits.NoteEdit.{NoteEdit}

-- a note has these fields, and its tags are those that a call would store for these: the order and the repeats of the given tags make no
-- difference, those of the note's own do
pub record IsSame (note : Note) (given : NoteEdit) : Type 0 where
  pub fields : fields_in note.flds ≡ given.fields
  pub tags : note.tags ≡ stored_tags given.tags

-- a note was found, and it has these texts
abbrev pub IsSameFound : Option Note → NoteEdit → Type 0
IsSameFound None given = ⊥
IsSameFound (Some note) given = IsSame note given
