-- Note types that are added and deleted leave sound rows.
use Rattle.std.specs.Prelude.{◌≡◌, ◌⊎◌, ◌≤◌, ◌||◌, ℤ, pos, ◌<ℤ◌, Bool, true, false, cond, int_lt, List, [], ◌∷◌, find, length, Option, Some, None, is_some, Result, Ok, Err}
use Rattle.std.specs.List.{list_any}
use Rattle.std.specs.Ordering.{eq_by_cmp, int_eq}
use Rattle.std.proofs.Common.{arith, inl, inr, refl, sym, ap, subst, ◌∙◌}
use Rattle.std.proofs.lemmas.Bool.Decides.{Decides-int_eq}
use Rattle.std.proofs.lemmas.Int.{ints}
use Rattle.ak_base.specs.Columns.{first_fault}
use Rattle.ak_base.specs.Names.{name_cmp}
use Rattle.ak_base.specs.NoteTypes.{note_type_faults}
use Rattle.ak_base.specs.Rows.{name_of}
use Rattle.ak_base.specs.declared.cards.Card.{Card}
use Rattle.ak_base.specs.declared.errors.RowFault.{RowFault}
use Rattle.ak_base.specs.declared.names.Name.{Name}
use Rattle.ak_base.specs.declared.names.Table.TheVariants as tables
use Rattle.ak_base.specs.declared.note_types.NoteType.{NoteType}
use Rattle.ak_base.specs.declared.notes.Note.{Note}
use Rattle.ak_base.specs.declared.rows.Row.{Row}
use Rattle.ak_base.specs.declared.rows.Row.TheVariants as rows
use Rattle.ak_edit.specs.declared.desk_faults.DeskFault.{DeskFault}
use Rattle.ak_edit.specs.declared.desk_faults.DeskFault.TheVariants as faults
use Rattle.ak_keep.proofs.RowsByName.{same_of_tied}
use Rattle.ak_keep.specs.Collections.{Collection, rows_past}
use Rattle.ak_merge.proofs.EditFacts.{false_true, none_held, true_false}
use Rattle.ak_merge.proofs.Finding.{none_in_table}
use Rattle.ak_merge.specs.EditBuilding.{with_row}
use Rattle.ak_merge.specs.Edits.{Edit}
use Rattle.ak_merge.specs.Holdings.{AreNamed, name_in, row_under}
use Rattle.ak_types.specs.GivenTypes.{RefusesGiven, has_notes, is_note_of}
use Rattle.ak_types.specs.TypeDeletions.{type_deletion}
use Rattle.ak_content_laws.proofs.CheckedTypes.{checked_fields, checked_templates}
use Rattle.ak_content_laws.proofs.SoundParts.{put_cases, same_type}
use Rattle.ak_content_laws.specs.SoundCalls.{IsSoundInRange}

-- ---- given types
-- a type that is not refused has a template
pub given_templates : (t : NoteType) → ((fault : DeskFault) → RefusesGiven t fault → ⊥) → 1 ≤ length t.templates
given_templates t passes = by (first_fault (note_type_faults t)) refl
  where
    by : (r : Result (Unit {0}) RowFault) → first_fault (note_type_faults t) ≡ r → 1 ≤ length t.templates
    by (Ok u) is = checked_templates t is
    by (Err fault) is = absurd (passes (faults.Row fault) (fault, is, refl))

-- and a field
pub given_fields : (t : NoteType) → ((fault : DeskFault) → RefusesGiven t fault → ⊥) → 1 ≤ length t.fields
given_fields t passes = by (first_fault (note_type_faults t)) refl
  where
    by : (r : Result (Unit {0}) RowFault) → first_fault (note_type_faults t) ≡ r → 1 ≤ length t.fields
    by (Ok u) is = checked_fields t is
    by (Err fault) is = absurd (passes (faults.Row fault) (fault, is, refl))

-- ---- a type that is new
module _ (type : NoteType) (edit : Edit) (named : AreNamed edit.rows) (none : edit.rows (name_in tables.NoteType type.id) ≡ None) (some : 1 ≤ length type.templates) (whole : IsSoundInRange edit.rows) where
  abbrev with_type : Name → Option Row
  with_type = (with_row (rows.NoteType type) edit).rows

  abbrev Cases : Name → Type 0
  Cases name = ((name ≡ name_of (rows.NoteType type)) × (with_type name ≡ Some (rows.NoteType type))) ⊎ ((eq_by_cmp name_cmp name (name_of (rows.NoteType type)) ≡ false) × (with_type name ≡ edit.rows name))

  typed : (note : Note) → edit.rows (name_in tables.Note note.id) ≡ Some (rows.Note note) → Cases (name_in tables.NoteType note.mid) → is_some (with_type (name_in tables.NoteType note.mid)) ≡ true
  typed note is (inl put) = ap is_some put.1
  typed note is (inr was) = ap is_some was.1 ∙ whole.sound.note_type note is

  placed : (card : Card) (note : Note) (t : NoteType) → edit.rows (name_in tables.Card card.id) ≡ Some (rows.Card card) → edit.rows (name_in tables.Note card.nid) ≡ Some (rows.Note note)
      → with_type (name_in tables.NoteType note.mid) ≡ Some (rows.NoteType t) → t.cloze ≡ false → Cases (name_in tables.NoteType note.mid) → card.ord <ℤ pos (length t.templates)
  placed card note t is_card is_note is_type standard (inl put) =
      let own : edit.rows (name_in tables.Note note.id) ≡ Some (rows.Note note) = ap edit.rows (named (name_in tables.Note card.nid) (rows.Note note) is_note) ∙ is_note in
      false_true (sym (ap is_some (ap edit.rows put.0 ∙ none)) ∙ whole.sound.note_type note own)
  placed card note t is_card is_note is_type standard (inr was) = whole.sound.template card note t is_card is_note (sym was.1 ∙ is_type) standard

  filled : (id : ℤ) (t : NoteType) → with_type (name_in tables.NoteType id) ≡ Some (rows.NoteType t) → t.cloze ≡ false → Cases (name_in tables.NoteType id) → 1 ≤ length t.templates
  filled id t is standard (inl put) = subst (λ (u : NoteType). 1 ≤ length u.templates) (same_type type t (sym put.1 ∙ is)) some
  filled id t is standard (inr was) = whole.templates id t (sym was.1 ∙ is) standard

  pub new_type_sound : IsSoundInRange (with_row (rows.NoteType type) edit).rows
  new_type_sound = record {
    sound = record {
      card_note = whole.sound.card_note;
      note_card = whole.sound.note_card;
      note_type = λ note is. typed note is (put_cases (rows.NoteType type) edit (name_in tables.NoteType note.mid));
      template = λ card note t is_card is_note is_type standard. placed card note t is_card is_note is_type standard (put_cases (rows.NoteType type) edit (name_in tables.NoteType note.mid));
    };
    templates = λ id t is standard. filled id t is standard (put_cases (rows.NoteType type) edit (name_in tables.NoteType id));
    ids = whole.ids;
  }

-- ---- a type that goes
not_found : (test : Row → Bool) (all : List Row) → list_any test all ≡ false → find test all ≡ None
not_found test [] none = refl
not_found test (row ∷ all) none =
    elim (test row) as (λ (b : Bool). (b || list_any test all) ≡ false → cond b (Some row) (find test all) ≡ None) [
      | true ↦ λ none. true_false none
      | false ↦ λ none. not_found test all none
    ] none

-- no note has a type that is not in use
pub unused : (c : Collection) (type : ℤ) (note : Note) → IsSoundInRange (row_under c) → has_notes type c.rows ≡ false → row_under c (name_in tables.Note note.id) ≡ Some (rows.Note note) → int_eq note.mid type ≡ false
unused c type note whole none is =
    let over : pos 0 <ℤ note.id = whole.ids note.id note is in
    let past : int_lt (pos 0) note.id ≡ true = grind (arith, ints, over) in
    none_in_table (is_note_of type) tables.Note c.rows (not_found (is_note_of type) (rows_past tables.Note (pos 0) c.rows) none) (name_in tables.Note note.id) (rows.Note note) is past

pub gone_type_sound : (type : ℤ) (c : Collection) → has_notes type c.rows ≡ false → IsSoundInRange (row_under c) → IsSoundInRange (type_deletion type c).rows
gone_type_sound type c none whole = record {
  sound = record {
    card_note = whole.sound.card_note;
    note_card = whole.sound.note_card;
    note_type = λ note is. typed note is;
    template = λ card note t is_card is_note is_type standard. whole.sound.template card note t is_card is_note (was note.mid t is_type) standard;
  };
  templates = λ id t is standard. whole.templates id t (was id t is) standard;
  ids = whole.ids;
}
  where
    was : (id : ℤ) (t : NoteType) → (type_deletion type c).rows (name_in tables.NoteType id) ≡ Some (rows.NoteType t) → row_under c (name_in tables.NoteType id) ≡ Some (rows.NoteType t)
    was id t is =
        elim (eq_by_cmp name_cmp (name_in tables.NoteType id) (name_in tables.NoteType type)) as (λ (b : Bool). cond b None (row_under c (name_in tables.NoteType id)) ≡ Some (rows.NoteType t)
        → row_under c (name_in tables.NoteType id) ≡ Some (rows.NoteType t)) [
          | true ↦ λ is. none_held is
          | false ↦ λ is. is
        ] is

    typed : (note : Note) → row_under c (name_in tables.Note note.id) ≡ Some (rows.Note note) → is_some ((type_deletion type c).rows (name_in tables.NoteType note.mid)) ≡ true
    typed note is =
        elim (eq_by_cmp name_cmp (name_in tables.NoteType note.mid) (name_in tables.NoteType type)) as (λ (b : Bool). eq_by_cmp name_cmp (name_in tables.NoteType note.mid) (name_in tables.NoteType type) ≡ b
        → is_some (cond b None (row_under c (name_in tables.NoteType note.mid))) ≡ true) [
          | true ↦ λ tied.
              let same : note.mid ≡ type = ap (λ (n : Name). n.id) (same_of_tied (name_in tables.NoteType note.mid) (name_in tables.NoteType type) tied) in
              true_false (sym ((Decides-int_eq note.mid type).1 same) ∙ unused c type note whole none is)
          | false ↦ λ _. whole.sound.note_type note is
        ] refl
