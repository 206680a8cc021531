-- Records whose guids no note has, and the notes that come of them.
use Rattle.std.specs.Prelude.{◌≡◌, ◌⊎◌, ⊤, ℕ, ℤ, pos, ◌<ℤ◌, List, [], ◌∷◌, length, map, Some, None}
use Rattle.std.specs.List.{AllByRecursion, join_with_byte}
use Rattle.ak_base.specs.declared.names.Table.TheVariants as tables
use Rattle.ak_base.specs.declared.notes.Note.{Note}
use Rattle.ak_edit_calls.specs.NoteTags.{stored_tags}
use Rattle.ak_imports.specs.Guids.{guid_at}
use Rattle.ak_imports.specs.declared.imports.Imported.{Imported}
use Rattle.ak_imports.specs.declared.records.Record.{Record}
use Rattle.ak_keep.specs.Collections.{Rows}
use Rattle.ak_keep.specs.Lookups.{note_at, row_of_id}

-- no note that is held has one of the guids, and no two of the records have the same
abbrev pub AreNewGuids : Rows → List Record → Type 0
AreNewGuids held [] = ⊤
AreNewGuids held (r ∷ others) =
    ((id : ℤ) → guid_at held id ≡ Some r.guid → ⊥)
    × AllByRecursion (λ (other : Record). other.guid ≡ r.guid → ⊥) others × AreNewGuids held others

-- the guid, the fields and the tags of a note, as it stores them
pub record StoredTexts : Type 0 where
  pub guid : List ℕ
  pub flds : List ℕ
  pub tags : List ℕ

-- those of a note
abbrev pub texts_of_note : Note → StoredTexts
texts_of_note note = record { guid = note.guid; flds = note.flds; tags = note.tags }

-- those that a note of this record has
abbrev pub texts_of_record : Record → StoredTexts
texts_of_record r = record { guid = r.guid; flds = join_with_byte 31 r.fields; tags = stored_tags r.tags }

-- the texts of a note are among these
abbrev pub AreTextsOf : Note → List StoredTexts → Type 0
AreTextsOf note [] = ⊥
AreTextsOf note (texts ∷ others) = (texts_of_note note ≡ texts) ⊎ AreTextsOf note others

-- a note of the type came with these texts: it is held under its id, which no row had before
pub record HasCome (note_type : ℤ) (before after : Rows) (wanted : StoredTexts) (note : Note) : Type 0 where
  pub is_new : row_of_id before tables.Note note.id ≡ None
  pub stands : note_at after note.id ≡ Some note
  pub typed : note.mid ≡ note_type
  pub texts : texts_of_note note ≡ wanted

-- a note came for each of these texts, in their order: each has an id past the one before it
abbrev pub HaveCome : ℤ → Rows → Rows → ℤ → List StoredTexts → Type 0
HaveCome note_type before after past [] = ⊤
HaveCome note_type before after past (texts ∷ others) =
    (note : Note) × (past <ℤ note.id) × HasCome note_type before after texts note × HaveCome note_type before after note.id others

-- each of the records added a note. The notes that were held are as they were, and there are no others: each note that is held now was held
-- before, or has the texts of a record
pub record AreAllAdded (note_type : ℤ) (before after : Rows) (records : List Record) (counts : Imported) : Type 0 where
  pub come : HaveCome note_type before after (pos 0) (map texts_of_record records)
  pub kept : (id : ℤ) (note : Note) → note_at before id ≡ Some note → note_at after id ≡ Some note
  pub only : (id : ℤ) (note : Note) → note_at after id ≡ Some note
      → (note_at before id ≡ Some note) ⊎ AreTextsOf note (map texts_of_record records)
  pub added : counts.added ≡ length records
  pub updated : counts.updated ≡ 0
  pub same : counts.same ≡ 0
