-- The notes of a type that is edited have their fields by its map, as many as the new type has.
use Rattle.std.specs.Prelude.{◌≡◌, ◌≤◌, ◌==◌, ◌||◌, ℕ, zero, suc, ℤ, Bool, true, false, cond, List, [], ◌∷◌, length, map, get_or, Option, Some, None, option_and_then}
use Rattle.std.specs.List.{AllByRecursion, join_with_byte, list_any, onto_first}
use Rattle.std.specs.Ordering.{int_eq}
use Rattle.std.proofs.Common.{arith, refl, sym, ap, subst, ◌∙◌}
use Rattle.std.proofs.lemmas.Bool.Decides.{Decides-int_eq}
use Rattle.std.proofs.lemmas.List.{length-map}
use Rattle.std.proofs.lemmas.List.Splits.{slice_split-cons_no, slice_split-cons_yes}
use Rattle.ak_base.specs.NoteTexts.{fields_in}
use Rattle.ak_base.specs.declared.names.Table.TheVariants as tables
use Rattle.ak_base.specs.declared.note_types.NoteType.{NoteType}
use Rattle.ak_base.specs.declared.notes.Note.{Note}
use Rattle.ak_base.specs.declared.rows.Row.TheVariants as rows
use Rattle.ak_edit.specs.declared.desk_faults.DeskFault.{DeskFault}
use Rattle.ak_keep.specs.Collections.{Collection}
use Rattle.ak_keep.specs.Keepers.{Keeping}
use Rattle.ak_keep.specs.Lookups.{as_note, as_note_type, note_type_at}
use Rattle.ak_merge.specs.Edits.{Edit, edited_row, second_of}
use Rattle.ak_merge.specs.Holdings.{AreNamed, name_in, row_under}
use Rattle.ak_types.specs.GivenTypes.{as_given}
use Rattle.ak_types.specs.RetypedRows.{moved_field, retyped_note}
use Rattle.ak_types.specs.TypeEdits.{IsTypeEdited, RefusesTypeEdit, retyping}
use Rattle.ak_types.specs.declared.type_edits.TypeEdit.{TypeEdit}
use Rattle.ak_undo.specs.declared.steps.Step.{Step}
use Rattle.ak_content_laws.proofs.LeftRows.{left_same, note_left, type_left}
use Rattle.ak_content_laws.proofs.NoteCalls.{found_note}
use Rattle.ak_content_laws.proofs.RetypedRows.{base, kept, note_after, note_is}
use Rattle.ak_content_laws.proofs.SoundParts.{cards_leave, put_there}
use Rattle.ak_content_laws.proofs.TextsAgain.{split_joined}
use Rattle.ak_content_laws.proofs.TypeEdits.{fields_mapped}
use Rattle.ak_content_laws.specs.KeptContents.{MovesFields}
use Rattle.ak_content_laws.specs.SoundCalls.{IsSoundInRange}

-- ---- fields that move
-- a text without the byte between fields
abbrev IsField : List ℕ → Type 0
IsField text = list_any (λ byte. byte == 31) text ≡ false

onto_fields : (byte : ℕ) (words : List (List ℕ)) → (byte == 31) ≡ false → AllByRecursion IsField words → AllByRecursion IsField (onto_first byte words)
onto_fields byte [] other all = (ap (λ (b : Bool). b || false) other, tt)
onto_fields byte (word ∷ words) other all = (ap (λ (b : Bool). b || list_any (λ other. other == 31) word) other ∙ all.0, all.1)

-- the fields of a note are such texts
are_fields : (text : List ℕ) → AllByRecursion IsField (fields_in text)
are_fields [] = (refl, tt)
are_fields (byte ∷ text) = by (are_fields text) (byte == 31) refl
  where
    by : AllByRecursion IsField (fields_in text) → (b : Bool) → (byte == 31) ≡ b → AllByRecursion IsField (fields_in (byte ∷ text))
    by rest true is = subst (AllByRecursion IsField) (sym (slice_split-cons_yes (λ b. b == 31) byte text is)) (refl, rest)
    by rest false is = subst (AllByRecursion IsField) (sym (slice_split-cons_no (λ b. b == 31) byte text is)) (onto_fields byte (fields_in text) is rest)

field_there : (fields : List (List ℕ)) (place : ℕ) → AllByRecursion IsField fields → IsField (get_or fields place [])
field_there [] place all = refl
field_there (field ∷ fields) zero all = all.0
field_there (field ∷ fields) (suc place) all = field_there fields place all.1

one_moved : (fields : List (List ℕ)) (entry : Option ℕ) → AllByRecursion IsField fields → IsField (moved_field fields entry)
one_moved fields None all = refl
one_moved fields (Some from) all = field_there fields from all

all_moved : (fields : List (List ℕ)) (entries : List (Option ℕ)) → AllByRecursion IsField fields → AllByRecursion IsField (map (moved_field fields) entries)
all_moved fields [] all = tt
all_moved fields (entry ∷ entries) all = (one_moved fields entry all, all_moved fields entries all)

-- they are read back
moved_again : (fields : List (List ℕ)) (entries : List (Option ℕ)) → AllByRecursion IsField fields → 1 ≤ length entries
    → fields_in (join_with_byte 31 (map (moved_field fields) entries)) ≡ map (moved_field fields) entries
moved_again fields [] all some = absurd (omega (arith, some))
moved_again fields (entry ∷ entries) all some = split_joined 31 refl (moved_field fields entry) (map (moved_field fields) entries) (all_moved fields (entry ∷ entries) all)

-- ---- the notes after the edit
module _ (at : ℤ) (given : TypeEdit) (c : Collection) (before now : Keeping) (steps left : List Step) (passes : (fault : DeskFault) → RefusesTypeEdit at given c fault → ⊥)
    (is : IsTypeEdited at given c before now steps left) (whole : IsSoundInRange (row_under c)) where
  named : AreNamed (row_under c)
  named = is.done.named

  abbrev its : Edit
  its = base given is.old c named whole

  abbrev asks : Edit
  asks = retyping given is.old is.cards is.conf c

  note_asked : (id : ℤ) (was : Note) → row_under c (name_in tables.Note id) ≡ Some (rows.Note was) → asks.rows (name_in tables.Note id) ≡ Some (rows.Note (note_after given is.old c named whole was))
  note_asked id was there = cards_leave is.cards its (name_in tables.Note id) refl ∙ note_is given is.old c named whole id was there

  type_stands : (type : NoteType) × (row_under is.done.after (name_in tables.NoteType given.note_type.id) ≡ Some (rows.NoteType type)) × (type.fields ≡ given.note_type.fields)
  type_stands =
      let name = name_in tables.NoteType given.note_type.id in
      let stays = type_left (second_of at) (row_under c name) (as_given given.note_type) in (
        stays.0,
        is.done.edited.rows name
            ∙ ap (edited_row (second_of at) (row_under c name)) (cards_leave is.cards its name refl ∙ put_there (rows.NoteType (as_given given.note_type)) (kept given is.old c named whole))
            ∙ stays.1,
        stays.2,
      )

  pub moves_fields : MovesFields given c is.done.after
  moves_fields = record {
    moved = λ id was held of.
        let name = name_in tables.Note id in
        let there = found_note (row_under c name) was held in
        let asked : asks.rows name ≡ Some (rows.Note (retyped_note given was)) =
        note_asked id was there ∙ ap (λ (b : Bool). Some (rows.Note (cond b (retyped_note given was) was))) ((Decides-int_eq was.mid given.note_type.id).1 of) in
        let stays = note_left (second_of at) (row_under c name) (retyped_note given was) in
        let type = type_stands in
        let mapped = fields_mapped at given c is.old is.cards is.conf named is.is passes whole in (
          record {
            note = stays.0;
            there = ap (option_and_then as_note) (is.done.edited.rows name ∙ ap (edited_row (second_of at) (row_under c name)) asked ∙ stays.1);
            type = type.0;
            typed = ap (λ (i : ℤ). note_type_at is.done.after.rows i) (stays.2.mid ∙ of) ∙ ap (option_and_then as_note_type) type.1;
            says = ap fields_in stays.2.flds ∙ moved_again (fields_in was.flds) given.from_fields (are_fields was.flds) mapped.1;
            count = length-map given.from_fields (moved_field (fields_in was.flds)) ∙ mapped.0 ∙ ap length (sym type.2);
          },
          stays.2.tags,
        );
    others = λ id was held other.
        let name = name_in tables.Note id in
        let there = found_note (row_under c name) was held in
        let unlike : int_eq was.mid given.note_type.id ≡ false =
        elim (int_eq was.mid given.note_type.id) as (λ (b : Bool). int_eq was.mid given.note_type.id ≡ b → b ≡ false) [
          | true ↦ λ same. absurd (other ((Decides-int_eq was.mid given.note_type.id).0 same))
          | false ↦ λ _. refl
        ] refl in
        let asked : asks.rows name ≡ row_under c name =
        note_asked id was there ∙ ap (λ (b : Bool). Some (rows.Note (cond b (retyped_note given was) was))) unlike ∙ sym there in
        ap (option_and_then as_note) (is.done.edited.rows name ∙ ap (edited_row (second_of at) (row_under c name)) asked ∙ left_same (second_of at) (row_under c name)) ∙ held;
  }
