-- A note that is added or edited says what was given, and the other notes are as they were.
use Rattle.std.specs.Prelude.{◌≡◌, ◌≢◌, ◌⊎◌, ◌≤◌, ◌==◌, ℕ, ℤ, Bool, true, false, List, length, Option, Some, None, option_and_then}
use Rattle.std.specs.List.{join_with_byte}
use Rattle.std.specs.Cmp.{unsigned_Decides}
use Rattle.std.specs.Ordering.{eq_by_cmp}
use Rattle.std.proofs.Common.{arith, inl, inr, refl, sym, ap, subst, ◌∙◌}
use Rattle.std.proofs.lemmas.Option.{same_Some}
use Rattle.ak_base.specs.Names.{name_cmp}
use Rattle.ak_base.specs.NoteTexts.{fields_in, tags_in}
use Rattle.ak_base.specs.Rows.{name_of}
use Rattle.ak_base.specs.declared.errors.RowFault.{RowFault}
use Rattle.ak_base.specs.declared.names.Name.{Name}
use Rattle.ak_base.specs.declared.names.Table.TheVariants as tables
use Rattle.ak_base.specs.declared.note_types.NoteType.{NoteType}
use Rattle.ak_base.specs.declared.notes.Note.{Note}
use Rattle.ak_base.specs.declared.rows.Row.TheVariants as rows
use Rattle.ak_edit_calls.specs.NoteTags.{stored_tags}
use Rattle.ak_edit.specs.Ends.{IsHeldRightly}
use Rattle.ak_edit.specs.declared.desk_faults.DeskFault.{DeskFault}
use Rattle.ak_edit.specs.declared.desk_faults.DeskFault.TheVariants as faults
use Rattle.ak_keep.specs.Collections.{Collection}
use Rattle.ak_keep.specs.Keepers.{Keeping}
use Rattle.ak_keep.specs.Lookups.{as_note, as_note_type, deck_at, note_at, note_type_at, type_of_note}
use Rattle.ak_merge.specs.EditBuilding.{unedited, with_row}
use Rattle.ak_merge.specs.Edits.{Edit, IsEdited, edited_row, second_of}
use Rattle.ak_merge.specs.Holdings.{name_in, row_under}
use Rattle.ak_merge.specs.Tags.{has_name}
use Rattle.ak_notes.specs.Additions.{IsAdded, RefusesAddition, RefusesForDeck, RefusesOfType, RefusesToAdd}
use Rattle.ak_notes.specs.GivenTexts.{RefusesCount, RefusesGiven, RefusesTexts, given_fault}
use Rattle.ak_notes.specs.MadeNotes.{made_edit}
use Rattle.ak_notes.specs.NoteEdits.{IsNoteEdited, RefusesForNote, RefusesForType, RefusesNoteEdit, RefusesToEdit}
use Rattle.ak_notes.specs.declared.additions.Added.{Added}
use Rattle.ak_notes.specs.declared.additions.NewNote.{NewNote}
use Rattle.ak_notes.specs.declared.made_notes.MadeNote.{MadeNote}
use Rattle.ak_notes.specs.declared.note_edits.NoteEdit.{NoteEdit}
use Rattle.ak_undo.specs.declared.steps.Step.{Step}
use Rattle.ak_content_laws.proofs.CheckedTypes.{checked_fields}
use Rattle.ak_content_laws.proofs.LeftRows.{IsNoteLeft, left_same, note_left}
use Rattle.ak_content_laws.proofs.NoteCalls.{found_note, found_type}
use Rattle.ak_content_laws.proofs.Passing.{first_passes, needs_pass, others_pass}
use Rattle.ak_content_laws.proofs.SoundParts.{cards_leave, put_cases, put_there}
use Rattle.ak_content_laws.proofs.TextsAgain.{fields_again, tags_again}
use Rattle.ak_content_laws.specs.KeptContents.{SaysTexts}

-- ---- tests that pass
-- fields and tags that were not refused for a type
record AreGiven (note_type : NoteType) (fields tags : List (List ℕ)) : Type 0 where
  count : length fields ≡ length note_type.fields
  good : given_fault fields tags ≡ None

given_pass : (note_type : NoteType) (fields tags : List (List ℕ)) → ((fault : DeskFault) → RefusesGiven note_type fields tags fault → ⊥) → AreGiven note_type fields tags
given_pass note_type fields tags passes = record {
  count = by (length fields == length note_type.fields) refl;
  good = none (given_fault fields tags) refl;
}
  where
    by : (b : Bool) → (length fields == length note_type.fields) ≡ b → length fields ≡ length note_type.fields
    by true is = (unsigned_Decides (length fields) (length note_type.fields)).0 is
    by false is = absurd (first_passes (RefusesCount note_type fields) (RefusesTexts fields tags) passes (faults.FieldCount (length note_type.fields) (length fields)) (is, refl))

    none : (o : Option RowFault) → given_fault fields tags ≡ o → o ≡ None
    none None is = refl
    none (Some fault) is = absurd (others_pass (RefusesCount note_type fields) (RefusesTexts fields tags) passes (faults.Row fault) (fault, is, refl))

-- ---- what is left of a note that was made
module _ (at : ℤ) (c after : Collection) (tags : List (List ℕ)) (made : MadeNote) (edits : IsEdited at c (made_edit tags made c) after) where
  abbrev with_note : Edit
  with_note = with_row (rows.Note made.note) (unedited c)

  types_left : (id : ℤ) → row_under after (name_in tables.NoteType id) ≡ row_under c (name_in tables.NoteType id)
  types_left id =
      edits.rows (name_in tables.NoteType id)
      ∙ ap (edited_row (second_of at) (row_under c (name_in tables.NoteType id))) (cards_leave made.cards with_note (name_in tables.NoteType id) refl)
      ∙ left_same (second_of at) (row_under c (name_in tables.NoteType id))

  others_left : (id : ℤ) → id ≢ made.note.id → row_under after (name_in tables.Note id) ≡ row_under c (name_in tables.Note id)
  others_left id other =
      edits.rows (name_in tables.Note id)
      ∙ ap (edited_row (second_of at) (row_under c (name_in tables.Note id))) (cards_leave made.cards with_note (name_in tables.Note id) refl ∙ by (put_cases (rows.Note made.note) (unedited c) (name_in tables.Note id)))
      ∙ left_same (second_of at) (row_under c (name_in tables.Note id))
    where
      by : ((name_in tables.Note id ≡ name_of (rows.Note made.note)) × (with_note.rows (name_in tables.Note id) ≡ Some (rows.Note made.note)))
          ⊎ ((eq_by_cmp name_cmp (name_in tables.Note id) (name_of (rows.Note made.note)) ≡ false) × (with_note.rows (name_in tables.Note id) ≡ row_under c (name_in tables.Note id)))
          → with_note.rows (name_in tables.Note id) ≡ row_under c (name_in tables.Note id)
      by (inl put) = absurd (other (ap (λ (n : Name). n.id) put.0))
      by (inr was) = was.1

  note_is_left : (note : Note) × (row_under after (name_in tables.Note made.note.id) ≡ Some (rows.Note note)) × IsNoteLeft made.note note
  note_is_left =
      let left = note_left (second_of at) (row_under c (name_in tables.Note made.note.id)) made.note in (
        left.0,
        edits.rows (name_in tables.Note made.note.id)
            ∙ ap (edited_row (second_of at) (row_under c (name_in tables.Note made.note.id))) (cards_leave made.cards with_note (name_in tables.Note made.note.id) refl ∙ put_there (rows.Note made.note) (unedited c))
            ∙ left.1,
        left.2,
      )

  -- a note that was made with these texts says them
  made_says : (note_type : NoteType) (fields given_tags : List (List ℕ)) (id : ℤ) → made.note.id ≡ id → note_type_at c.rows made.note.mid ≡ Some note_type → 1 ≤ length note_type.fields
      → made.note.flds ≡ join_with_byte 31 fields → made.note.tags ≡ stored_tags given_tags → AreGiven note_type fields given_tags → SaysTexts fields given_tags id c after
  made_says note_type fields given_tags id same typed some flds said_tags given =
      let left = note_is_left in
      record {
        has = record {
          note = left.0;
          there = ap (option_and_then as_note) (ap (λ (i : ℤ). row_under after (name_in tables.Note i)) (sym same) ∙ left.1);
          type = note_type;
          typed = ap (λ (i : ℤ). note_type_at after.rows i) left.2.mid ∙ ap (option_and_then as_note_type) (types_left made.note.mid) ∙ typed;
          says = ap fields_in (left.2.flds ∙ flds) ∙ fields_again fields given_tags given.good (some_are (length fields == 0) refl);
          count = given.count;
        };
        tags = λ name. ap (λ (text : List ℕ). has_name (tags_in text) name) (left.2.tags ∙ said_tags) ∙ tags_again fields given_tags given.good name;
        others = λ other apart. ap (option_and_then as_note) (others_left other (λ own. apart (own ∙ same)));
      }
    where
      some_are : (b : Bool) → (length fields == 0) ≡ b → b ≡ false
      some_are true is =
          let none : length fields ≡ 0 = (unsigned_Decides (length fields) 0).0 is in
          let count = given.count in
          absurd (omega (arith, none, count, some))
      some_are false is = refl

-- ---- a note that is added
pub added_says : (at : ℤ) (new : NewNote) (c : Collection) (before now : Keeping) (steps left : List Step) (added : Added) → IsHeldRightly c → ((fault : DeskFault) → RefusesAddition at new c fault → ⊥)
    → (is : IsAdded at new c before now steps left added) → SaysTexts new.fields new.tags added.note c is.done.after
added_says at new c before now steps left added rightly passes is =
    let typed = is.is.typed in
    let to_add : (fault : DeskFault) → RefusesToAdd at new c.rows fault → ⊥ = first_passes (RefusesToAdd at new c.rows) _ passes in
    let for_type = needs_pass (note_type_at c.rows new.note_type) (name_in tables.NoteType new.note_type) (λ note_type. RefusesForDeck at new note_type c.rows) to_add in
    let same : for_type.0 ≡ is.is.note_type = same_Some for_type.0 is.is.note_type (sym for_type.1 ∙ typed) in
    let for_deck = needs_pass (deck_at c.rows new.deck) (name_in tables.Deck new.deck) (λ _. RefusesOfType at new for_type.0 c.rows) for_type.2 in
    let given : AreGiven for_type.0 new.fields new.tags = given_pass for_type.0 new.fields new.tags (first_passes (RefusesGiven for_type.0 new.fields new.tags) _ for_deck.2) in
    let mid : is.made.note.mid ≡ new.note_type = ap (λ (n : Note). n.mid) is.is.is.under.note in
    let held : row_under c (name_in tables.NoteType new.note_type) ≡ Some (rows.NoteType is.is.note_type) = found_type (row_under c (name_in tables.NoteType new.note_type)) is.is.note_type typed in
    made_says at c is.done.after new.tags is.made is.done.edited is.is.note_type new.fields new.tags added.note (sym is.note) (ap (λ (i : ℤ). note_type_at c.rows i) mid ∙ typed)
    (checked_fields is.is.note_type (rightly.checked (name_in tables.NoteType new.note_type) (rows.NoteType is.is.note_type) held))
    (ap (λ (n : Note). n.flds) is.is.is.under.note) (ap (λ (n : Note). n.tags) is.is.is.under.note)
    (subst (λ (t : NoteType). AreGiven t new.fields new.tags) same given)

-- ---- a note that is edited
pub edited_says : (at : ℤ) (given : NoteEdit) (c : Collection) (before now : Keeping) (steps left : List Step) → IsHeldRightly c → ((fault : DeskFault) → RefusesNoteEdit at given c fault → ⊥)
    → (is : IsNoteEdited at given c before now steps left) → SaysTexts given.fields given.tags given.note c is.done.after
edited_says at given c before now steps left rightly passes is =
    let to_edit : (fault : DeskFault) → RefusesToEdit at given c.rows fault → ⊥ = first_passes (RefusesToEdit at given c.rows) _ passes in
    let for_note = needs_pass (note_at c.rows given.note) (name_in tables.Note given.note) (λ note. RefusesForNote at given note c.rows) to_edit in
    let one : for_note.0 ≡ is.is.note = same_Some for_note.0 is.is.note (sym for_note.1 ∙ is.is.there) in
    let of_note : (fault : DeskFault) → RefusesForNote at given is.is.note c.rows fault → ⊥ = subst (λ (n : Note). (fault : DeskFault) → RefusesForNote at given n c.rows fault → ⊥) one for_note.2 in
    let for_type = needs_pass (type_of_note c.rows is.is.note) _ (λ note_type. RefusesForType at given note_type c.rows) of_note in
    let same : for_type.0 ≡ is.is.is.note_type = same_Some for_type.0 is.is.is.note_type (sym for_type.1 ∙ is.is.is.typed) in
    let texts : AreGiven for_type.0 given.fields given.tags = given_pass for_type.0 given.fields given.tags (first_passes (RefusesGiven for_type.0 given.fields given.tags) _ for_type.2) in
    let held : row_under c (name_in tables.NoteType is.is.note.mid) ≡ Some (rows.NoteType is.is.is.note_type) = found_type (row_under c (name_in tables.NoteType is.is.note.mid)) is.is.is.note_type is.is.is.typed in
    let was : row_under c (name_in tables.Note given.note) ≡ Some (rows.Note is.is.note) = found_note (row_under c (name_in tables.Note given.note)) is.is.note is.is.there in
    let own : is.is.note.id ≡ given.note = ap (λ (n : Name). n.id) (rightly.named (name_in tables.Note given.note) (rows.Note is.is.note) was) in
    made_says at c is.done.after given.tags is.made is.done.edited is.is.is.note_type given.fields given.tags given.note (ap (λ (n : Note). n.id) is.is.is.is.texts ∙ own)
    (ap (λ (n : Note). note_type_at c.rows n.mid) is.is.is.is.texts ∙ is.is.is.typed)
    (checked_fields is.is.is.note_type (rightly.checked (name_in tables.NoteType is.is.note.mid) (rows.NoteType is.is.is.note_type) held))
    (ap (λ (n : Note). n.flds) is.is.is.is.texts) (ap (λ (n : Note). n.tags) is.is.is.is.texts)
    (subst (λ (t : NoteType). AreGiven t given.fields given.tags) same texts)
