-- Notes that are exported, and imported where their type is held and their guids are not.
use Rattle.std.specs.Prelude.{◌≡◌, ◌⊎◌, ℕ, ℤ, pos, length, map, Some}
use Rattle.std.specs.List.{AllByRecursion}
use Rattle.ak_base.specs.NoteTexts.{fields_in, tags_in}
use Rattle.ak_base.specs.declared.notes.Note.{Note}
use Rattle.ak_csv.specs.NotesAgain.{BeginsPlainly, IsReadable, record_of_note}
use Rattle.ak_edit.specs.Ends.{holding_now}
use Rattle.ak_edit_calls.specs.NoteTags.{stored_tags}
use Rattle.ak_imports.specs.NewNotes.{AreNewGuids, AreTextsOf, HaveCome, texts_of_note}
use Rattle.ak_imports.specs.NotesOfTypes.{notes_of_type}
use Rattle.ak_imports.specs.declared.imports.Imported.{Imported}
use Rattle.ak_keep.specs.Collections.{Collection, Rows}
use Rattle.ak_keep.specs.Keepers.{Keeping}
use Rattle.ak_keep.specs.Lookups.{note_at}
use Rattle.ak_note_files.specs.Rules.{field_count, guids_of_others, is_among, own_type}

-- ---- the export is read
-- what an export writes of a type that is held here breaks no rule there: the type has as many fields there, and so has each note; each has
-- a guid, which no note of another type there has; each is UTF-8; and the first guid does not begin with a byte order mark
pub record MayBeRead (note_type : ℤ) (here there : Rows) : Type 0 where
  pub fields : ℕ
  pub counted : field_count note_type here ≡ Some fields
  pub same : field_count note_type there ≡ Some fields
  pub notes : AllByRecursion (IsReadable fields (λ guid. is_among guid (guids_of_others (own_type note_type there) there))) (notes_of_type note_type here)
  pub plain : BeginsPlainly (notes_of_type note_type here)

-- ---- its notes come back
-- a note comes back as it is: it has as many fields as its type, and its tags stand in it as a call of the desk puts them
pub record MayReturn (fields : ℕ) (note : Note) : Type 0 where
  pub counted : length (fields_in note.flds) ≡ fields
  pub tags : stored_tags (tags_in note.tags) ≡ note.tags

-- the notes of a type that is held here may come to these rows: each comes back as it is, the first guid does not begin with a byte order
-- mark, no note there has one of their guids, and no two of them have the same
pub record MayReturnTo (note_type : ℤ) (here there : Rows) : Type 0 where
  pub fields : ℕ
  pub counted : field_count note_type here ≡ Some fields
  pub notes : AllByRecursion (MayReturn fields) (notes_of_type note_type here)
  pub plain : BeginsPlainly (notes_of_type note_type here)
  pub fresh : AreNewGuids there (map record_of_note (notes_of_type note_type here))

-- they have come: in their order, each with its guid, its fields and its tags, as a new note of the type. The notes that were held are as they
-- were, and there are no others
pub record HaveReturned (note_type : ℤ) (here : Rows) (c : Collection) (before now : Keeping) (counts : Imported) : Type 0 where
  pub after : Collection
  pub held : now ≡ holding_now after before
  pub come : HaveCome note_type c.rows after.rows (pos 0) (map texts_of_note (notes_of_type note_type here))
  pub kept : (id : ℤ) (note : Note) → note_at c.rows id ≡ Some note → note_at after.rows id ≡ Some note
  pub only : (id : ℤ) (note : Note) → note_at after.rows id ≡ Some note
      → (note_at c.rows id ≡ Some note) ⊎ AreTextsOf note (map texts_of_note (notes_of_type note_type here))
  pub added : counts.added ≡ length (notes_of_type note_type here)
  pub updated : counts.updated ≡ 0
  pub same : counts.same ≡ 0
