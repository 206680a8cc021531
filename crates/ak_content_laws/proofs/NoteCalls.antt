-- Notes that are added, edited and deleted leave sound rows.
use Rattle.std.specs.Prelude.{◌≡◌, ◌⊎◌, ℤ, pos, ◌<ℤ◌, true, false, not, List, length, Option, Some, None, is_some, option_and_then}
use Rattle.std.specs.List.{AllByRecursion}
use Rattle.std.proofs.Common.{arith, inl, inr, refl, sym, ap, subst, ◌∙◌}
use Rattle.std.proofs.lemmas.Int.{clamps, ints}
use Rattle.std.proofs.lemmas.Option.{same_Some}
use Rattle.ak_base.specs.Rows.{name_of}
use Rattle.ak_base.specs.declared.cards.Card.{Card}
use Rattle.ak_base.specs.declared.names.Name.{Name}
use Rattle.ak_base.specs.declared.names.Table.TheVariants as tables
use Rattle.ak_base.specs.declared.note_types.NoteType.{NoteType}
use Rattle.ak_base.specs.declared.notes.Note.{Note}
use Rattle.ak_base.specs.declared.rows.Row.{Row}
use Rattle.ak_base.specs.declared.rows.Row.TheVariants as rows
use Rattle.ak_edit_calls.specs.Calls.{has_id}
use Rattle.ak_edit_calls.specs.NewNames.{first_name}
use Rattle.ak_keep.specs.Collections.{Collection}
use Rattle.ak_keep.specs.FreeNames.{is_used}
use Rattle.ak_keep.specs.Lookups.{as_note, as_note_type}
use Rattle.ak_merge.proofs.EditFacts.{false_true, none_held}
use Rattle.ak_merge.specs.EditBuilding.{unedited, with_row}
use Rattle.ak_merge.specs.Edits.{Edit}
use Rattle.ak_merge.specs.Holdings.{AreNamed, name_in, row_under}
use Rattle.ak_notes.specs.Additions.{IsAddition, added_place}
use Rattle.ak_notes.specs.Deletions.{deletion, is_of_note}
use Rattle.ak_notes.specs.LackingNotes.{lacked_ords, missing_place, next_at}
use Rattle.ak_notes.specs.MadeNotes.{made_edit, with_cards}
use Rattle.ak_notes.specs.NewCards.{IsNewCard, at_least_one}
use Rattle.ak_notes.specs.NoteEdits.{IsNoteEdit, lacking_note}
use Rattle.ak_notes.specs.declared.additions.NewNote.{NewNote}
use Rattle.ak_notes.specs.declared.lacking_notes.LackingNote.{LackingNote}
use Rattle.ak_notes.specs.declared.lacking_notes.NextCards.{NextCards}
use Rattle.ak_notes.specs.declared.made_notes.MadeNote.{MadeNote}
use Rattle.ak_notes.specs.declared.note_edits.NoteEdit.{NoteEdit}
use Rattle.ak_content_laws.proofs.AlikeEdits.{row_alike}
use Rattle.ak_content_laws.proofs.NewCards.{IsOrdOf, MakesFor, filter_all, free_none, least_card_stands, least_within, new_cards_all, ords_within, standard_within}
use Rattle.ak_content_laws.proofs.Shapes.{shape, whole_alike}
use Rattle.ak_content_laws.proofs.SoundParts.{FitsIn, HasCard, IsNearlySound, card_stays, cards_leave, cards_ids, cards_nearly, cards_templates, is_in, nearly_of, new_note_cards, new_note_ids, new_note_nearly, put_there, same_type, sound_of, swept_sound}
use Rattle.ak_content_laws.specs.SoundCalls.{IsSoundInRange}

-- ---- rows that were found
pub found_type : (x : Option Row) (type : NoteType) → option_and_then as_note_type x ≡ Some type → x ≡ Some (rows.NoteType type)
found_type None type is = none_held is
found_type (Some (rows.NoteType t)) type is = ap (λ (u : NoteType). Some (rows.NoteType u)) (same_Some t type is)
found_type (Some (rows.Note x)) type is = none_held is
found_type (Some (rows.Card x)) type is = none_held is
found_type (Some (rows.Review x)) type is = none_held is
found_type (Some (rows.Deck x)) type is = none_held is
found_type (Some (rows.Options x)) type is = none_held is
found_type (Some (rows.Grave x)) type is = none_held is

pub found_note : (x : Option Row) (note : Note) → option_and_then as_note x ≡ Some note → x ≡ Some (rows.Note note)
found_note None note is = none_held is
found_note (Some (rows.Note n)) note is = ap (λ (m : Note). Some (rows.Note m)) (same_Some n note is)
found_note (Some (rows.NoteType x)) note is = none_held is
found_note (Some (rows.Card x)) note is = none_held is
found_note (Some (rows.Review x)) note is = none_held is
found_note (Some (rows.Deck x)) note is = none_held is
found_note (Some (rows.Options x)) note is = none_held is
found_note (Some (rows.Grave x)) note is = none_held is

-- a card that is made for a note that stands there, of an ord that the note's type has, fits
pub new_card_fits : (c : Collection) (edit : Edit) (note : Note) (note_type : NoteType) (id : ℤ) (IsMade : ℤ → ℤ → Card → Type 0) → ((other : ℤ) → row_under c (name_in tables.Card other) ≡ None → edit.rows (name_in tables.Card other) ≡ None)
    → edit.rows (name_in tables.Note id) ≡ Some (rows.Note note) → edit.rows (name_in tables.NoteType note.mid) ≡ Some (rows.NoteType note_type) → MakesFor id IsMade
    → (ord : ℤ) (name : Name) (card : Card) → IsOrdOf note_type ord → name.table ≡ tables.Card → is_used (row_under c) name ≡ false → IsMade ord name.id card → FitsIn edit.rows card
new_card_fits c edit note note_type id IsMade cards noted typed makes ord name card within of free is =
    let made = makes ord name.id card is in
    record {
      free = ap (λ (i : ℤ). edit.rows (name_in tables.Card i)) made.own ∙ cards name.id (free_none (row_under c) name tables.Card of free);
      note = note;
      held = ap (λ (i : ℤ). edit.rows (name_in tables.Note i)) made.of ∙ noted;
      place = λ type there standard.
          let own : note_type ≡ type = same_type note_type type (sym typed ∙ there) in
          let low : ord <ℤ pos (length note_type.templates) = standard_within note_type ord within (ap (λ (t : NoteType). t.cloze) own ∙ standard) in
          subst (λ (o : ℤ). o <ℤ pos (length type.templates)) (sym made.place) (subst (λ (t : NoteType). ord <ℤ pos (length t.templates)) own low);
    }

-- ---- a note that is added
module _ (at : ℤ) (new : NewNote) (c : Collection) (made : MadeNote) (is : IsAddition at new c.rows c.head made) (whole : IsSoundInRange (row_under c)) where
  abbrev added : Edit
  added = with_row (rows.Note made.note) (unedited c)

  id : made.note.id ≡ is.is.name.id
  id = ap (λ (n : Note). n.id) is.is.under.note

  typed : row_under c (name_in tables.NoteType made.note.mid) ≡ Some (rows.NoteType is.note_type)
  typed =
      ap (λ (n : Note). row_under c (name_in tables.NoteType n.mid)) is.is.under.note
      ∙ found_type (row_under c (name_in tables.NoteType new.note_type)) is.note_type is.typed

  none : row_under c (name_in tables.Note made.note.id) ≡ None
  none = ap (λ (i : ℤ). row_under c (name_in tables.Note i)) id ∙ free_none (row_under c) is.is.name tables.Note is.is.free.table is.is.free.free

  over : pos 0 <ℤ made.note.id
  over = let least = is.is.free.from in subst (λ (i : ℤ). pos 0 <ℤ i) (sym id) (omega (arith, ints, clamps, least))

  held : is_some (row_under c (name_in tables.NoteType made.note.mid)) ≡ true
  held = ap is_some typed

  nearly : IsNearlySound added.rows
  nearly = new_note_nearly (unedited c) made.note whole.sound none held

  makes : MakesFor is.is.name.id (IsNewCard (added_place new c.head is.is.name.id))
  makes = λ ord i card of. record { own = ap (λ (k : Card). k.id) of; of = ap (λ (k : Card). k.nid) of; place = ap (λ (k : Card). k.ord) of }

  noted_at : added.rows (name_in tables.Note is.is.name.id) ≡ Some (rows.Note made.note)
  noted_at = ap (λ (i : ℤ). added.rows (name_in tables.Note i)) (sym id) ∙ put_there (rows.Note made.note) (unedited c)

  fit : AllByRecursion (FitsIn added.rows) made.cards
  fit =
      new_cards_all (is_used (row_under c)) (IsNewCard (added_place new c.head is.is.name.id)) (first_name tables.Card at) (at_least_one is.is.under.cards.ords) made.cards (IsOrdOf is.note_type) (FitsIn added.rows) refl
      is.is.under.cards.made
      (least_within is.note_type is.is.under.cards.ords (λ standard. whole.templates made.note.mid is.note_type typed standard)
      (ords_within is.note_type new.fields is.is.under.cards.ords is.is.under.cards.told))
      (new_card_fits c added made.note is.note_type is.is.name.id (IsNewCard (added_place new c.head is.is.name.id)) (λ _ free. free) noted_at typed makes)

  noted : (n : Note) → (with_cards made.cards added).rows (name_in tables.Note n.id) ≡ Some (rows.Note n) → HasCard (with_cards made.cards added).rows n.id
  noted n there = by (new_note_cards (unedited c) made.note whole.sound none held n (sym (cards_leave made.cards added (name_in tables.Note n.id) refl) ∙ there))
    where
      by : (n.id ≡ made.note.id) ⊎ HasCard added.rows n.id → HasCard (with_cards made.cards added).rows n.id
      by (inl own) =
          subst (HasCard (with_cards made.cards added).rows) (sym (own ∙ id))
          (least_card_stands (is_used (row_under c)) (IsNewCard (added_place new c.head is.is.name.id)) (first_name tables.Card at) is.is.under.cards.ords made.cards is.is.name.id added makes refl is.is.under.cards.made)
      by (inr other) = card_stays added made.cards nearly fit n.id other

  pub addition_sound : IsSoundInRange (made_edit new.tags made c).rows
  addition_sound = record {
    sound = sound_of (with_cards made.cards added).rows (cards_nearly added made.cards nearly fit) noted;
    templates = cards_templates added made.cards whole.templates;
    ids = cards_ids added made.cards (new_note_ids (unedited c) made.note whole.sound none held whole.ids over);
  }

-- ---- a note that is edited
module _ (at : ℤ) (given : NoteEdit) (c : Collection) (made : MadeNote) (named : AreNamed (row_under c)) (is : IsNoteEdit at given c.rows c.head made) (whole : IsSoundInRange (row_under c)) where
  abbrev changed : Edit
  changed = with_row (rows.Note made.note) (unedited c)

  was : row_under c (name_in tables.Note given.note) ≡ Some (rows.Note is.note)
  was = found_note (row_under c (name_in tables.Note given.note)) is.note is.there

  same_id : made.note.id ≡ given.note
  same_id = ap (λ (n : Note). n.id) is.is.is.texts ∙ ap (λ (n : Name). n.id) (named (name_in tables.Note given.note) (rows.Note is.note) was)

  its_type : row_under c (name_in tables.NoteType made.note.mid) ≡ Some (rows.NoteType is.is.note_type)
  its_type =
      ap (λ (n : Note). row_under c (name_in tables.NoteType n.mid)) is.is.is.texts
      ∙ found_type (row_under c (name_in tables.NoteType is.note.mid)) is.is.note_type is.is.typed

  shaped : shape (row_under c (name_in tables.Note made.note.id)) ≡ shape (Some (rows.Note made.note))
  shaped =
      ap (λ (i : ℤ). shape (row_under c (name_in tables.Note i))) same_id ∙ ap shape was
      ∙ sym (ap (λ (n : Note). shape (Some (rows.Note n))) is.is.is.texts)

  still : IsSoundInRange changed.rows
  still = whole_alike (row_under c) changed.rows (row_alike (rows.Note made.note) (unedited c) shaped) whole

  still_nearly : IsNearlySound changed.rows
  still_nearly = nearly_of changed.rows still.sound

  abbrev lacking : LackingNote
  lacking = lacking_note given.note is.is.is.shown c.rows

  abbrev next : NextCards
  next = next_at at c.head.conf

  makes_more : MakesFor given.note (IsNewCard (missing_place lacking next))
  makes_more = λ ord i card of. record { own = ap (λ (k : Card). k.id) of; of = ap (λ (k : Card). k.nid) of; place = ap (λ (k : Card). k.ord) of }

  changed_at : changed.rows (name_in tables.Note given.note) ≡ Some (rows.Note made.note)
  changed_at = ap (λ (i : ℤ). changed.rows (name_in tables.Note i)) (sym same_id) ∙ put_there (rows.Note made.note) (unedited c)

  more_fit : AllByRecursion (FitsIn changed.rows) made.cards
  more_fit =
      new_cards_all (is_used (row_under c)) (IsNewCard (missing_place lacking next)) next.first (lacked_ords lacking) made.cards (IsOrdOf is.is.note_type) (FitsIn changed.rows) refl is.is.is.cards
      (filter_all (IsOrdOf is.is.note_type) (λ (ord : ℤ). not (has_id lacking.held.ords ord)) is.is.is.shown (ords_within is.is.note_type given.fields is.is.is.shown is.is.is.told))
      (new_card_fits c changed made.note is.is.note_type given.note (IsNewCard (missing_place lacking next)) (λ _ free. free) changed_at its_type makes_more)

  pub note_edit_sound : IsSoundInRange (made_edit given.tags made c).rows
  note_edit_sound = record {
    sound = sound_of (with_cards made.cards changed).rows (cards_nearly changed made.cards still_nearly more_fit) (λ n there. card_stays changed made.cards still_nearly more_fit n.id
        (still.sound.note_card n (sym (cards_leave made.cards changed (name_in tables.Note n.id) refl) ∙ there)));
    templates = cards_templates changed made.cards still.templates;
    ids = cards_ids changed made.cards still.ids;
  }

-- ---- notes that are deleted
pub deletion_sound : (notes : List ℤ) (c : Collection) → AreNamed (row_under c) → IsSoundInRange (row_under c) → IsSoundInRange (deletion notes c).rows
deletion_sound notes c named whole = swept_sound (row_under c) (is_of_note (has_id notes)) named (record { types = types; notes = noted; cards = carded }) whole
  where
    types : (row : Row) → is_in tables.NoteType (name_of row) ≡ true → is_of_note (has_id notes) row ≡ false
    types (rows.Note x) is = false_true is
    types (rows.Card x) is = false_true is
    types (rows.Review x) is = refl
    types (rows.NoteType x) is = refl
    types (rows.Deck x) is = refl
    types (rows.Options x) is = refl
    types (rows.Grave x) is = refl

    noted : (card : Card) (note : Note) → row_under c (name_in tables.Card card.id) ≡ Some (rows.Card card) → has_id notes card.nid ≡ false → row_under c (name_in tables.Note card.nid) ≡ Some (rows.Note note)
        → note.id ≡ card.nid → has_id notes note.id ≡ false
    noted card note is stays there own = ap (has_id notes) own ∙ stays

    carded : (note : Note) → row_under c (name_in tables.Note note.id) ≡ Some (rows.Note note) → has_id notes note.id ≡ false
        → (card : Card) × (row_under c (name_in tables.Card card.id) ≡ Some (rows.Card card)) × (card.nid ≡ note.id) × (has_id notes card.nid ≡ false)
    carded note is stays =
        let card = whole.sound.note_card note is in
        (card.0, card.1, card.2, ap (has_id notes) card.2 ∙ stays)
