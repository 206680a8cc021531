-- Edits that make a note with its cards are admitted.
use Rattle.std.specs.Prelude.{◌≡◌, ℤ, false, Option, None, Some, option_and_then, List, [], ◌∷◌}
use Rattle.std.proofs.Common.{refl, sym, ap, subst, ◌∙◌}
use Rattle.std.proofs.lemmas.Option.{none-some, same_Some}
use Rattle.ak_base.specs.declared.cards.Card.{Card}
use Rattle.ak_base.specs.declared.names.Name.{Name}
use Rattle.ak_base.specs.declared.names.Table.TheVariants as tables
use Rattle.ak_base.specs.declared.notes.Note.{Note}
use Rattle.ak_base.specs.declared.rows.Row.{Row}
use Rattle.ak_base.specs.declared.rows.Row.TheVariants as rows
use Rattle.ak_keep.specs.FreeNames.{IsFree, is_used}
use Rattle.ak_edit_calls.proofs.FreeIds.{not_dead}
use Rattle.ak_edit_calls.specs.NewNames.{first_name}
use Rattle.ak_keep.specs.Collections.{Collection}
use Rattle.ak_keep.specs.Lookups.{as_note, note_at}
use Rattle.ak_merge.proofs.EditBuildingLaws.{puts_are_admitted, settings_are_admitted, tags_are_admitted, unedited_is_admitted}
use Rattle.ak_merge.specs.EditBuilding.{MayPut, unedited, with_row}
use Rattle.ak_merge.specs.Edits.{Admits, Edit}
use Rattle.ak_keep.specs.Graves.{is_dead}
use Rattle.ak_merge.specs.Holdings.{AreNamed, name_in, row_under}
use Rattle.ak_notes.specs.Additions.{IsAddition, added_place}
use Rattle.ak_notes.specs.LackingNotes.{lacked_ords, missing_place, next_at}
use Rattle.ak_notes.specs.MadeNotes.{made_edit, with_cards}
use Rattle.ak_base.specs.Names.{next_name}
use Rattle.ak_notes.specs.NewCards.{AreNewCards, new_card}
use Rattle.ak_notes.specs.NoteEdits.{IsNoteEdit, lacking_note}
use Rattle.ak_notes.specs.declared.additions.NewNote.{NewNote}
use Rattle.ak_notes.specs.declared.lacking_notes.LackingNote.{LackingNote}
use Rattle.ak_notes.specs.declared.lacking_notes.NextCards.{NextCards}
use Rattle.ak_notes.specs.declared.made_notes.MadeNote.{MadeNote}
use Rattle.ak_notes.specs.declared.new_cards.CardPlace.{CardPlace}
use Rattle.ak_notes.specs.declared.note_edits.NoteEdit.{NoteEdit}

card_may : (c : Collection) (place : CardPlace) (ord : ℤ) (first name : Name) → first.table ≡ tables.Card → IsFree (is_used (row_under c)) first name → MayPut c (rows.Card (new_card place ord name.id))
card_may c place ord first name of free = record { free = λ none. not_dead (row_under c) first name tables.Card of free; review = λ is. absurd (cc) }

-- new cards one by one
pub cards_are_admitted : (c : Collection) (place : CardPlace) (first : Name) (ords : List ℤ) (cards : List Card) (edit : Edit) → first.table ≡ tables.Card → AreNewCards (is_used (row_under c)) place first ords cards
    → Admits c edit → Admits c (with_cards cards edit)
cards_are_admitted c place first [] cards edit of are admits = subst (λ (l : List Card). Admits c (with_cards l edit)) (sym are) admits
cards_are_admitted c place first (ord ∷ ords) cards edit of are admits =
    let name : Name = are.0 in
    let card : Card = are.2 in
    let may : MayPut c (rows.Card card) = subst (λ (other : Card). MayPut c (rows.Card other)) (sym are.3) (card_may c place ord first name of are.1) in
    let one : Admits c (with_row (rows.Card card) edit) = puts_are_admitted c edit (rows.Card card) admits may in
    subst (λ (l : List Card). Admits c (with_cards l edit)) (sym are.5)
    (cards_are_admitted c place (next_name name) ords are.4 (with_row (rows.Card card) edit) (are.1.table ∙ of) are.6 one)

note_may : (c : Collection) (note : Note) (first name : Name) → first.table ≡ tables.Note → note.id ≡ name.id → IsFree (is_used (row_under c)) first name → MayPut c (rows.Note note)
note_may c note first name of id free = record {
  free = λ none. subst (λ (n : ℤ). is_dead (row_under c) (name_in tables.Note n) ≡ false) (sym id) (not_dead (row_under c) first name tables.Note of free);
  review = λ is. absurd (cc);
}

pub additions_are_admitted : (at : ℤ) (new : NewNote) (c : Collection) (made : MadeNote) → AreNamed (row_under c) → IsAddition at new c.rows c.head made → Admits c (made_edit new.tags made c)
additions_are_admitted at new c made named is =
    let adds = is.is in
    let id : made.note.id ≡ adds.name.id = ap (λ (n : Note). n.id) adds.under.note in
    let note : Admits c (with_row (rows.Note made.note) (unedited c)) =
    puts_are_admitted c (unedited c) (rows.Note made.note) (unedited_is_admitted c named) (note_may c made.note (first_name tables.Note at) adds.name refl id adds.free) in
    let cards : Admits c (with_cards made.cards (with_row (rows.Note made.note) (unedited c))) =
    cards_are_admitted c (added_place new c.head adds.name.id) (first_name tables.Card at) _ made.cards (with_row (rows.Note made.note) (unedited c)) refl adds.under.cards.made note in
    tags_are_admitted c _ new.tags (settings_are_admitted c _ made.conf cards)

-- ---- a note that is edited
found_is : (found : Option Row) (note : Note) → option_and_then as_note found ≡ Some note → found ≡ Some (rows.Note note)
found_is None note is = absurd (none-some note is)
found_is (Some (rows.Note n)) note is = ap (λ (m : Note). Some (rows.Note m)) (same_Some n note is)
found_is (Some (rows.Card x)) note is = absurd (none-some note is)
found_is (Some (rows.Review x)) note is = absurd (none-some note is)
found_is (Some (rows.NoteType x)) note is = absurd (none-some note is)
found_is (Some (rows.Deck x)) note is = absurd (none-some note is)
found_is (Some (rows.Options x)) note is = absurd (none-some note is)
found_is (Some (rows.Grave x)) note is = absurd (none-some note is)

-- a note that is held may be put anew
held_may : (c : Collection) (id : ℤ) (was note : Note) → AreNamed (row_under c) → note_at c.rows id ≡ Some was → note.id ≡ was.id → MayPut c (rows.Note note)
held_may c id was note named there same =
    let found : row_under c (name_in tables.Note id) ≡ Some (rows.Note was) = found_is (row_under c (name_in tables.Note id)) was there in
    let of : name_in tables.Note was.id ≡ name_in tables.Note id = named (name_in tables.Note id) (rows.Note was) found in
    let here : row_under c (name_in tables.Note note.id) ≡ Some (rows.Note was) = ap (λ (i : ℤ). row_under c (name_in tables.Note i)) same ∙ ap (row_under c) of ∙ found in
    record { free = λ none. absurd (none-some (rows.Note was) (sym none ∙ here)); review = λ is. absurd (cc) }

pub note_edits_are_admitted : (at : ℤ) (given : NoteEdit) (c : Collection) (made : MadeNote) → AreNamed (row_under c) → IsNoteEdit at given c.rows c.head made → Admits c (made_edit given.tags made c)
note_edits_are_admitted at given c made named is =
    let edits = is.is.is in
    let id : made.note.id ≡ is.note.id = ap (λ (n : Note). n.id) edits.texts in
    let note : Admits c (with_row (rows.Note made.note) (unedited c)) =
    puts_are_admitted c (unedited c) (rows.Note made.note) (unedited_is_admitted c named) (held_may c given.note is.note made.note named is.there id) in
    let lacking : LackingNote = lacking_note given.note edits.shown c.rows in
    let next : NextCards = next_at at c.head.conf in
    let cards : Admits c (with_cards made.cards (with_row (rows.Note made.note) (unedited c))) =
    cards_are_admitted c (missing_place lacking next) next.first (lacked_ords lacking) made.cards (with_row (rows.Note made.note) (unedited c)) refl edits.cards note in
    tags_are_admitted c _ given.tags (settings_are_admitted c _ made.conf cards)
