-- What a call leaves of a note or of decks, and what it leaves alone.
use Rattle.std.specs.Prelude.{◌≡◌, ◌≢◌, ◌++◌, ℕ, ℤ, true, false, List, drop, length, Some}
use Rattle.ak_base.specs.NoteTexts.{fields_in, tags_in}
use Rattle.ak_base.specs.Paths.{is_in_subtree}
use Rattle.ak_base.specs.declared.decks.Deck.{Deck}
use Rattle.ak_base.specs.declared.note_types.NoteType.{NoteType}
use Rattle.ak_base.specs.declared.notes.Note.{Note}
use Rattle.ak_keep.specs.Collections.{Collection}
use Rattle.ak_keep.specs.Lookups.{deck_at, note_at, type_of_note}
use Rattle.ak_merge.specs.Tags.{has_name}
use Rattle.ak_types.specs.RetypedRows.{moved_fields}
use Rattle.ak_types.specs.declared.type_edits.TypeEdit.{TypeEdit}

-- the note of this id has these fields, in their order and as many as its type has
pub record HasFields (fields : List (List ℕ)) (id : ℤ) (after : Collection) : Type 0 where
  pub note : Note
  pub there : note_at after.rows id ≡ Some note
  pub type : NoteType
  pub typed : type_of_note after.rows note ≡ Some type
  pub says : fields_in note.flds ≡ fields
  pub count : length fields ≡ length type.fields

-- the note of this id has these fields and these tags, each of them and no other; every other note is as it was
pub record SaysTexts (given given_tags : List (List ℕ)) (id : ℤ) (before after : Collection) : Type 0 where
  pub has : HasFields given id after
  pub tags : (tag : List ℕ) → has_name (tags_in has.note.tags) tag ≡ has_name given_tags tag
  pub others : (other : ℤ) → other ≢ id → note_at after.rows other ≡ note_at before.rows other

-- the notes of the type of this edit have their fields by its map: at each place the old one that the map names there, an empty one if it
-- names none. They keep their tags, and every note of another type is as it was
pub record MovesFields (given : TypeEdit) (before after : Collection) : Type 0 where
  pub moved : (id : ℤ) (was : Note) → note_at before.rows id ≡ Some was → was.mid ≡ given.note_type.id
      → (has : HasFields (moved_fields given was) id after) × (has.note.tags ≡ was.tags)
  pub others : (id : ℤ) (was : Note) → note_at before.rows id ≡ Some was → was.mid ≢ given.note_type.id → note_at after.rows id ≡ Some was

-- the decks of the subtree of the old path have the new one in its place: what comes after the old one stays. Every other deck is as it was
pub record MovesDecks (old new : List ℕ) (before after : Collection) : Type 0 where
  pub moved : (id : ℤ) (deck : Deck) → deck_at before.rows id ≡ Some deck → is_in_subtree old deck.name ≡ true
      → (own : Deck) × (deck_at after.rows id ≡ Some own) × (own.name ≡ new ++ drop (length old) deck.name)
  pub others : (id : ℤ) (deck : Deck) → deck_at before.rows id ≡ Some deck → is_in_subtree old deck.name ≡ false → deck_at after.rows id ≡ Some deck
