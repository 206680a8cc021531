-- What an edit leaves of a row that it asks for: the row, but for its stamp and its usn.
use Rattle.std.specs.Prelude.{◌≡◌, ℤ, pos, negsuc, Bool, true, false, cond, Option, Some, None}
use Rattle.std.proofs.Common.{refl, sym, ap, ◌∙◌}
use Rattle.std.proofs.lemmas.Option.{same_Some}
use Rattle.ak_base.proofs.SameRows.{fields_exactly}
use Rattle.ak_base.specs.Contents.{same_but_stamp_and_usn}
use Rattle.ak_base.specs.Rows.{stamp_of, with_stamp, with_usn}
use Rattle.ak_base.specs.declared.decks.Deck.{Deck}
use Rattle.ak_base.specs.declared.note_types.NoteType.{NoteType}
use Rattle.ak_base.specs.declared.notes.Note.{Note}
use Rattle.ak_base.specs.declared.rows.Row.{Row}
use Rattle.ak_base.specs.declared.rows.Row.TheVariants as rows
use Rattle.ak_keep.specs.Lookups.{as_deck, as_note, as_note_type}
use Rattle.ak_merge.proofs.EditFacts.{none_held, own_fields}
use Rattle.ak_merge.specs.Edits.{advanced, edited, edited_row}

-- a row that it asks for as it was stays
pub left_same : (second : ℤ) (x : Option Row) → edited_row second x x ≡ x
left_same second None = refl
left_same second (Some row) = ap (λ (b : Bool). cond b (Some row) (Some (edited (advanced second (stamp_of row)) row))) (own_fields row)

-- a row without its stamp and its number
abbrev pub bare : Row → Row
bare row = with_usn (with_stamp row (pos 0)) (negsuc 0)

bare_edited : (stamp : ℤ) (row : Row) → bare (edited stamp row) ≡ bare row
bare_edited stamp (rows.Note x) = refl
bare_edited stamp (rows.Card x) = refl
bare_edited stamp (rows.Review x) = refl
bare_edited stamp (rows.NoteType x) = refl
bare_edited stamp (rows.Deck x) = refl
bare_edited stamp (rows.Options x) = refl
bare_edited stamp (rows.Grave x) = refl

pub row_left : (second : ℤ) (x : Option Row) (made : Row) → (row : Row) × (edited_row second x (Some made) ≡ Some row) × (bare row ≡ bare made)
row_left second None made = (edited second made, refl, bare_edited second made)
row_left second (Some before) made =
    elim (same_but_stamp_and_usn made before) as (λ (b : Bool). same_but_stamp_and_usn made before ≡ b
    → (row : Row) × (cond b (Some before) (Some (edited (advanced second (stamp_of before)) made)) ≡ Some row) × (bare row ≡ bare made)) [
      | true ↦ λ same. (before, refl, sym ((fields_exactly made before (pos 0) (negsuc 0)).0 same))
      | false ↦ λ _. (edited (advanced second (stamp_of before)) made, refl, bare_edited (advanced second (stamp_of before)) made)
    ] refl

-- ---- notes, decks and types
pub record IsNoteLeft (made note : Note) : Type 0 where
  pub mid : note.mid ≡ made.mid
  pub flds : note.flds ≡ made.flds
  pub tags : note.tags ≡ made.tags

note_of : (row : Row) (made : Note) → bare row ≡ bare (rows.Note made) → (note : Note) × (row ≡ rows.Note note) × IsNoteLeft made note
note_of (rows.Note n) made is =
    let one = same_Some (record n { stamp = pos 0; usn = negsuc 0 }) (record made { stamp = pos 0; usn = negsuc 0 }) (ap as_note is) in
    (n, refl, record { mid = ap (λ (m : Note). m.mid) one; flds = ap (λ (m : Note). m.flds) one; tags = ap (λ (m : Note). m.tags) one })
note_of (rows.Card x) made is = none_held (ap as_note is)
note_of (rows.Review x) made is = none_held (ap as_note is)
note_of (rows.NoteType x) made is = none_held (ap as_note is)
note_of (rows.Deck x) made is = none_held (ap as_note is)
note_of (rows.Options x) made is = none_held (ap as_note is)
note_of (rows.Grave x) made is = none_held (ap as_note is)

pub note_left : (second : ℤ) (x : Option Row) (made : Note) → (note : Note) × (edited_row second x (Some (rows.Note made)) ≡ Some (rows.Note note)) × IsNoteLeft made note
note_left second x made =
    let left = row_left second x (rows.Note made) in
    let own = note_of left.0 made left.2 in
    (own.0, left.1 ∙ ap (λ (row : Row). Some row) own.1, own.2)

deck_of : (row : Row) (made : Deck) → bare row ≡ bare (rows.Deck made) → (deck : Deck) × (row ≡ rows.Deck deck) × (deck.name ≡ made.name)
deck_of (rows.Deck d) made is = (d, refl, ap (λ (k : Deck). k.name) (same_Some (record d { stamp = pos 0; usn = negsuc 0 }) (record made { stamp = pos 0; usn = negsuc 0 }) (ap as_deck is)))
deck_of (rows.Note x) made is = none_held (ap as_deck is)
deck_of (rows.Card x) made is = none_held (ap as_deck is)
deck_of (rows.Review x) made is = none_held (ap as_deck is)
deck_of (rows.NoteType x) made is = none_held (ap as_deck is)
deck_of (rows.Options x) made is = none_held (ap as_deck is)
deck_of (rows.Grave x) made is = none_held (ap as_deck is)

pub deck_left : (second : ℤ) (x : Option Row) (made : Deck) → (deck : Deck) × (edited_row second x (Some (rows.Deck made)) ≡ Some (rows.Deck deck)) × (deck.name ≡ made.name)
deck_left second x made =
    let left = row_left second x (rows.Deck made) in
    let own = deck_of left.0 made left.2 in
    (own.0, left.1 ∙ ap (λ (row : Row). Some row) own.1, own.2)

type_of : (row : Row) (made : NoteType) → bare row ≡ bare (rows.NoteType made) → (type : NoteType) × (row ≡ rows.NoteType type) × (type.fields ≡ made.fields)
type_of (rows.NoteType t) made is =
    (t, refl, ap (λ (k : NoteType). k.fields) (same_Some (record t { stamp = pos 0; usn = negsuc 0 }) (record made { stamp = pos 0; usn = negsuc 0 }) (ap as_note_type is)))
type_of (rows.Note x) made is = none_held (ap as_note_type is)
type_of (rows.Card x) made is = none_held (ap as_note_type is)
type_of (rows.Review x) made is = none_held (ap as_note_type is)
type_of (rows.Deck x) made is = none_held (ap as_note_type is)
type_of (rows.Options x) made is = none_held (ap as_note_type is)
type_of (rows.Grave x) made is = none_held (ap as_note_type is)

pub type_left : (second : ℤ) (x : Option Row) (made : NoteType) → (type : NoteType) × (edited_row second x (Some (rows.NoteType made)) ≡ Some (rows.NoteType type)) × (type.fields ≡ made.fields)
type_left second x made =
    let left = row_left second x (rows.NoteType made) in
    let own = type_of left.0 made left.2 in
    (own.0, left.1 ∙ ap (λ (row : Row). Some row) own.1, own.2)
