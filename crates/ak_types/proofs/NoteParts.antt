-- What is made of one note of a type, and of its cards.
use Rattle.std.specs.Prelude.{◌≡◌, ◌+◌, ◌<◌, ℕ, ℤ, pos, true, false, if◌then◌else◌, List, [], ◌∷◌, ◌++◌, length, get_or, drop, Option, Some}
use Rattle.std.proofs.Common.{refl, sym, ap, subst, ◌∙◌, append_assoc}
use Rattle.std.proofs.lemmas.List.{at_drop_more}
use Rattle.std.specs.Ordering.{int_eq}
use Rattle.ak_base.specs.declared.cards.Card.{Card}
use Rattle.ak_base.specs.declared.note_types.NoteType.{NoteType}
use Rattle.ak_base.specs.declared.notes.Note.{Note}
use Rattle.ak_base.specs.declared.rows.Row.TheVariants as rows
use Rattle.ak_edit.specs.Overlays.{Overlay, put_over}
use Rattle.ak_edit_calls.proofs.Telling.{where_always, where_told-both}
use Rattle.ak_keep.proofs.Told.{where_told-map}
use Rattle.ak_keep.specs.Collections.{Rows, cards_of}
use Rattle.ak_keep.specs.Keepers.{Keeping, WhereTold}
use Rattle.ak_keep.specs.Lookups.{card_at}
use Rattle.ak_notes.specs.Deletions.{without_cards}
use Rattle.ak_notes.specs.MadeNotes.{cards_over}
use Rattle.ak_notes.specs.NoteRows.{with_fields}
use Rattle.ak_notes.specs.declared.lacking_notes.LackingNote.{LackingNote}
use Rattle.ak_types.proofs.NoteWalks.{retypes_none}
use Rattle.ak_types.specs.RetypedCards.{IsLackingWith, RetypesNotes, note_of}
use Rattle.ak_types.specs.RetypedRows.{kept_card, kept_cards, kept_with, moved_fields, ord_after}
use Rattle.ak_types.specs.declared.retyped_notes.Retyped.{Retyped}
use Rattle.ak_types.specs.declared.type_edits.TypeEdit.{TypeEdit}

-- ---- the cards that stay
one_kept : (given : TypeEdit) (old : NoteType) (held : Rows) (ids : List ℤ) (i : ℕ) (before after : List Card) → i < length ids → before ++ kept_cards given old held (drop i ids) ≡ kept_cards given old held ids
    → after ≡ before ++ kept_card given old (card_at held (get_or ids i (pos 0))) → after ++ kept_cards given old held (drop (i + 1) ids) ≡ kept_cards given old held ids
one_kept given old held ids i before after within so_far is =
    let one : List Card = kept_card given old (card_at held (get_or ids i (pos 0))) in
    let rest : List Card = kept_cards given old held (drop (i + 1) ids) in
    ap (λ (l : List Card). l ++ rest) is ∙ append_assoc before one rest
    ∙ ap (λ (l : List Card). before ++ l) (sym (at_drop_more (kept_cards given old held) ids i (pos 0) within)) ∙ so_far

-- with the card of one id more
pub more_kept : (k : Keeping) (given : TypeEdit) (old : NoteType) (ids : List ℤ) (i : ℕ) (before after : List Card) → i < length ids
    → WhereTold k (λ h. before ++ kept_cards given old h.rows (drop i ids) ≡ kept_cards given old h.rows ids)
    → WhereTold k (λ h. after ≡ before ++ kept_card given old (card_at h.rows (get_or ids i (pos 0))))
    → WhereTold k (λ h. after ++ kept_cards given old h.rows (drop (i + 1) ids) ≡ kept_cards given old h.rows ids)
more_kept k given old ids i before after within =
    where_told-both k (λ h. before ++ kept_cards given old h.rows (drop i ids) ≡ kept_cards given old h.rows ids) (λ h. after ≡ before ++ kept_card given old (card_at h.rows (get_or ids i (pos 0))))
    (λ h. after ++ kept_cards given old h.rows (drop (i + 1) ids) ≡ kept_cards given old h.rows ids) (λ h so_far is. one_kept given old h.rows ids i before after within so_far is)

-- the card of an id, which is held
pub card_kept : (k : Keeping) (given : TypeEdit) (old : NoteType) (id : ℤ) (found : Option Card) (card : Card) (before after : List Card) → WhereTold k (λ h. found ≡ card_at h.rows id) → found ≡ Some card
    → after ≡ before ++ kept_with card (ord_after given old card.ord) → WhereTold k (λ h. after ≡ before ++ kept_card given old (card_at h.rows id))
card_kept k given old id found card before after there is added =
    where_told-map k (λ h. found ≡ card_at h.rows id) (λ h. after ≡ before ++ kept_card given old (card_at h.rows id))
    (λ h at. added ∙ ap (λ (x : Option Card). before ++ kept_card given old x) (sym is ∙ at)) there

-- ---- a note
-- what is made of the note, by its parts
pub note_done : (k : Keeping) (given : TypeEdit) (old : NoteType) (note : Note) (ids : List ℤ) (kept : List Card) (lacking : LackingNote) (before after : Retyped)
    → WhereTold k (λ h. ids ≡ cards_of note.id h.rows) → WhereTold k (λ h. kept ≡ kept_cards given old h.rows ids)
    → after.change ≡ cards_over kept (without_cards ids (put_over (rows.Note (with_fields given.note_type (moved_fields given note) note)) before.change))
    → after.lacking ≡ before.lacking ++ lacking ∷ [] → IsLackingWith given.note_type (moved_fields given note) note.id kept lacking
    → WhereTold k (λ h. RetypesNotes given old h.rows (note ∷ []) before after)
note_done k given old note ids kept lacking before after cards stay change added lacks =
    let put : Overlay = put_over (rows.Note (with_fields given.note_type (moved_fields given note) note)) before.change in
    where_told-both k (λ h. ids ≡ cards_of note.id h.rows) (λ h. kept ≡ kept_cards given old h.rows ids) (λ h. RetypesNotes given old h.rows (note ∷ []) before after)
    (λ h of are.
    let all : kept ≡ kept_cards given old h.rows (cards_of note.id h.rows) = are ∙ ap (kept_cards given old h.rows) of in
    record {
      over = change ∙ ap (λ (l : List Card). cards_over l (without_cards ids put)) all ∙ ap (λ (l : List ℤ). cards_over (kept_cards given old h.rows (cards_of note.id h.rows)) (without_cards l put)) of;
      new = lacking ∷ [];
      lacking = added;
      lack = (lacking, [], refl, subst (λ (l : List Card). IsLackingWith given.note_type (moved_fields given note) note.id l lacking) all lacks, refl);
    }) cards stay

-- ---- a row
pub other_row : (k : Keeping) (given : TypeEdit) (old : NoteType) (made : Retyped) → WhereTold k (λ h. RetypesNotes given old h.rows [] made made)
other_row k given old made = where_always k (λ h. RetypesNotes given old h.rows [] made made) (λ h. retypes_none given old h.rows made)

-- a note of another type
pub other_note : (k : Keeping) (given : TypeEdit) (old : NoteType) (note : Note) (made : Retyped) → int_eq note.mid given.note_type.id ≡ false
    → WhereTold k (λ h. RetypesNotes given old h.rows (note_of given.note_type.id (rows.Note note)) made made)
other_note k given old note made is =
    where_told-map k (λ h. RetypesNotes given old h.rows [] made made) (λ h. RetypesNotes given old h.rows (note_of given.note_type.id (rows.Note note)) made made)
    (λ h none. subst (λ b. RetypesNotes given old h.rows (if b then note ∷ [] else []) made made) (sym is) none) (other_row k given old made)

-- a note of the type
pub own_note : (k : Keeping) (given : TypeEdit) (old : NoteType) (note : Note) (before after : Retyped) → int_eq note.mid given.note_type.id ≡ true
    → WhereTold k (λ h. RetypesNotes given old h.rows (note ∷ []) before after) → WhereTold k (λ h. RetypesNotes given old h.rows (note_of given.note_type.id (rows.Note note)) before after)
own_note k given old note before after is =
    where_told-map k (λ h. RetypesNotes given old h.rows (note ∷ []) before after) (λ h. RetypesNotes given old h.rows (note_of given.note_type.id (rows.Note note)) before after)
    (λ h one. subst (λ b. RetypesNotes given old h.rows (if b then note ∷ [] else []) before after) (sym is) one)
