-- The rows of a collection whose note type is edited, before cards are made: each kept card has its note and a template, but a note may
-- lack cards.
use Rattle.std.specs.Prelude.{◌≡◌, ◌⊎◌, ◌≤◌, ◌&&◌, ℤ, pos, ◌<ℤ◌, Bool, true, false, not, cond, is_none, is_some, length, Option, Some, None, option_and_then}
use Rattle.std.specs.Cmp.{tied_itself}
use Rattle.std.specs.Option.{option_map, option_map_or, unwrap_or}
use Rattle.std.specs.Ordering.{eq_by_cmp, int_eq, is_eq}
use Rattle.std.proofs.Common.{inl, inr, refl, sym, ap, subst, ◌∙◌}
use Rattle.std.proofs.lemmas.Bool.Decides.{Decides-int_eq}
use Rattle.std.proofs.lemmas.Option.{same_Some}
use Rattle.ak_base.specs.Names.{name_cmp, names_total}
use Rattle.ak_base.specs.Rows.{name_of}
use Rattle.ak_base.specs.declared.cards.Card.{Card}
use Rattle.ak_base.specs.declared.names.Name.{Name}
use Rattle.ak_base.specs.declared.names.Table.TheVariants as tables
use Rattle.ak_base.specs.declared.note_types.NoteType.{NoteType}
use Rattle.ak_base.specs.declared.notes.Note.{Note}
use Rattle.ak_base.specs.declared.rows.Row.{Row}
use Rattle.ak_base.specs.declared.rows.Row.TheVariants as rows
use Rattle.ak_keep.specs.Collections.{Collection}
use Rattle.ak_keep.specs.Lookups.{as_card, as_note, as_note_type}
use Rattle.ak_merge.proofs.EditFacts.{false_true, none_held, true_false}
use Rattle.ak_merge.specs.EditBuilding.{unedited, with_row, with_rows_mapped, without_rows}
use Rattle.ak_merge.specs.Edits.{Edit}
use Rattle.ak_merge.specs.Holdings.{AreNamed, name_in, row_under}
use Rattle.ak_types.specs.GivenTypes.{as_given}
use Rattle.ak_types.specs.PlaceMaps.{moved_ord}
use Rattle.ak_types.specs.RetypedRows.{has_type, is_dropped, ord_after, retyped, retyped_note, with_ord}
use Rattle.ak_types.specs.TypeEdits.{keeps_schema, with_schema_if}
use Rattle.ak_types.specs.declared.type_edits.TypeEdit.{TypeEdit}
use Rattle.ak_content_laws.proofs.PlaceMaps.{moved_below}
use Rattle.ak_content_laws.proofs.SoundParts.{IsNearlySound, is_in, kept_is, note_there, put_cases, same_type}
use Rattle.ak_content_laws.specs.SoundCalls.{IsSoundInRange}

module _ (given : TypeEdit) (old : NoteType) (c : Collection) (named : AreNamed (row_under c)) (whole : IsSoundInRange (row_under c)) where
  abbrev gone : Row → Bool
  gone = is_dropped given old c.rows

  -- the rows that stay, as they are then
  abbrev pub kept : Edit
  kept = with_rows_mapped (retyped given old c.rows) (without_rows gone (with_schema_if (not (keeps_schema given old)) (unedited c)))

  -- with the given type in its place
  abbrev pub base : Edit
  base = with_row (rows.NoteType (as_given given.note_type)) kept

  -- ---- what stood under a name
  row_was : (x : Option Row) (row : Row) → option_map (retyped given old c.rows) (option_and_then (λ (r : Row). cond (gone r) None (Some r)) x) ≡ Some row
      → (own : Row) × (x ≡ Some own) × (gone own ≡ false) × (retyped given old c.rows own ≡ row)
  row_was None row is = none_held is
  row_was (Some own) row is =
      elim (gone own) as (λ (b : Bool). gone own ≡ b → option_map (retyped given old c.rows) (cond b None (Some own)) ≡ Some row
      → (r : Row) × (◌≡◌ {A = Option Row} (Some own) (Some r)) × (gone r ≡ false) × (retyped given old c.rows r ≡ row)) [
        | true ↦ λ _ is. none_held is
        | false ↦ λ stays is. (own, refl, stays, same_Some (retyped given old c.rows own) row is)
      ] refl is

  as_it_is : (x : Option Row) (row : Row) → x ≡ Some row → gone row ≡ false → option_map (retyped given old c.rows) (option_and_then (λ (r : Row). cond (gone r) None (Some r)) x) ≡ Some (retyped given old c.rows row)
  as_it_is x row is stays = ap (option_map (retyped given old c.rows)) (kept_is gone x row is stays)

  -- the card that a card was
  abbrev pub card_after : Card → Card
  card_after card = cond (has_type given.note_type.id c.rows card.nid) (with_ord card (unwrap_or (ord_after given old card.ord) card.ord)) card

  card_of_row : (own : Row) (card : Card) → retyped given old c.rows own ≡ rows.Card card → (was : Card) × (own ≡ rows.Card was) × (card_after was ≡ card)
  card_of_row (rows.Card was) card is = (was, refl, same_Some (card_after was) card (ap as_card is))
  card_of_row (rows.Note x) card is = none_held (ap as_card is)
  card_of_row (rows.Review x) card is = none_held (ap as_card is)
  card_of_row (rows.NoteType x) card is = none_held (ap as_card is)
  card_of_row (rows.Deck x) card is = none_held (ap as_card is)
  card_of_row (rows.Options x) card is = none_held (ap as_card is)
  card_of_row (rows.Grave x) card is = none_held (ap as_card is)

  pub card_was : (id : ℤ) (card : Card) → base.rows (name_in tables.Card id) ≡ Some (rows.Card card)
      → (was : Card) × (row_under c (name_in tables.Card id) ≡ Some (rows.Card was)) × (gone (rows.Card was) ≡ false) × (card_after was ≡ card)
  card_was id card is =
      let own = row_was (row_under c (name_in tables.Card id)) (rows.Card card) is in
      let was = card_of_row own.0 card own.3 in
      (was.0, own.1 ∙ ap (λ (r : Row). Some r) was.1, ap gone (sym was.1) ∙ own.2, was.2)

  pub card_same : (was card : Card) → card_after was ≡ card → (was.id ≡ card.id) × (was.nid ≡ card.nid)
  card_same was card is = (
    same_id (has_type given.note_type.id c.rows was.nid) (unwrap_or (ord_after given old was.ord) was.ord) ∙ ap (λ (k : Card). k.id) is,
    same_nid (has_type given.note_type.id c.rows was.nid) (unwrap_or (ord_after given old was.ord) was.ord) ∙ ap (λ (k : Card). k.nid) is,
  )
    where
      same_id : (b : Bool) (ord : ℤ) → was.id ≡ (cond b (with_ord was ord) was).id
      same_id true ord = refl
      same_id false ord = refl

      same_nid : (b : Bool) (ord : ℤ) → was.nid ≡ (cond b (with_ord was ord) was).nid
      same_nid true ord = refl
      same_nid false ord = refl

  abbrev pub note_after : Note → Note
  note_after note = cond (int_eq note.mid given.note_type.id) (retyped_note given note) note

  note_of_row : (own : Row) (note : Note) → retyped given old c.rows own ≡ rows.Note note → (was : Note) × (own ≡ rows.Note was) × (note_after was ≡ note)
  note_of_row (rows.Note was) note is = (was, refl, same_Some (note_after was) note (ap as_note is))
  note_of_row (rows.Card x) note is = none_held (ap as_note is)
  note_of_row (rows.Review x) note is = none_held (ap as_note is)
  note_of_row (rows.NoteType x) note is = none_held (ap as_note is)
  note_of_row (rows.Deck x) note is = none_held (ap as_note is)
  note_of_row (rows.Options x) note is = none_held (ap as_note is)
  note_of_row (rows.Grave x) note is = none_held (ap as_note is)

  pub note_was : (id : ℤ) (note : Note) → base.rows (name_in tables.Note id) ≡ Some (rows.Note note)
      → (was : Note) × (row_under c (name_in tables.Note id) ≡ Some (rows.Note was)) × (note_after was ≡ note)
  note_was id note is =
      let own = row_was (row_under c (name_in tables.Note id)) (rows.Note note) is in
      let was = note_of_row own.0 note own.3 in
      (was.0, own.1 ∙ ap (λ (r : Row). Some r) was.1, was.2)

  pub note_same : (was note : Note) → note_after was ≡ note → (was.id ≡ note.id) × (was.mid ≡ note.mid)
  note_same was note is =
      (same_id (int_eq was.mid given.note_type.id) ∙ ap (λ (n : Note). n.id) is, same_mid (int_eq was.mid given.note_type.id) ∙ ap (λ (n : Note). n.mid) is)
    where
      same_id : (b : Bool) → was.id ≡ (cond b (retyped_note given was) was).id
      same_id true = refl
      same_id false = refl

      same_mid : (b : Bool) → was.mid ≡ (cond b (retyped_note given was) was).mid
      same_mid true = refl
      same_mid false = refl

  -- a note stays
  pub note_is : (id : ℤ) (was : Note) → row_under c (name_in tables.Note id) ≡ Some (rows.Note was) → base.rows (name_in tables.Note id) ≡ Some (rows.Note (note_after was))
  note_is id was is = as_it_is (row_under c (name_in tables.Note id)) (rows.Note was) is refl

  -- a card stays, unless its template went
  pub card_is : (id : ℤ) (was : Card) → row_under c (name_in tables.Card id) ≡ Some (rows.Card was) → gone (rows.Card was) ≡ false → base.rows (name_in tables.Card id) ≡ Some (rows.Card (card_after was))
  card_is id was is stays = as_it_is (row_under c (name_in tables.Card id)) (rows.Card was) is stays

  -- a name that no card has stays free
  pub none_is : (id : ℤ) → row_under c (name_in tables.Card id) ≡ None → base.rows (name_in tables.Card id) ≡ None
  none_is id none = ap (λ (x : Option Row). option_map (retyped given old c.rows) (option_and_then (λ (r : Row). cond (gone r) None (Some r)) x)) none

  type_of_row : (own : Row) (type : NoteType) → retyped given old c.rows own ≡ rows.NoteType type → own ≡ rows.NoteType type
  type_of_row (rows.NoteType was) type is = is
  type_of_row (rows.Note x) type is = none_held (ap as_note_type is)
  type_of_row (rows.Card x) type is = none_held (ap as_note_type is)
  type_of_row (rows.Review x) type is = none_held (ap as_note_type is)
  type_of_row (rows.Deck x) type is = none_held (ap as_note_type is)
  type_of_row (rows.Options x) type is = none_held (ap as_note_type is)
  type_of_row (rows.Grave x) type is = none_held (ap as_note_type is)

  type_was : (id : ℤ) (type : NoteType) → kept.rows (name_in tables.NoteType id) ≡ Some (rows.NoteType type) → row_under c (name_in tables.NoteType id) ≡ Some (rows.NoteType type)
  type_was id type is =
      let own = row_was (row_under c (name_in tables.NoteType id)) (rows.NoteType type) is in
      own.1 ∙ ap (λ (r : Row). Some r) (type_of_row own.0 type own.3)

  -- a card has no name of a type
  stays_there : (row : Row) → is_in tables.NoteType (name_of row) ≡ true → gone row ≡ false
  stays_there (rows.Card x) is = false_true is
  stays_there (rows.Note x) is = refl
  stays_there (rows.Review x) is = refl
  stays_there (rows.NoteType x) is = refl
  stays_there (rows.Deck x) is = refl
  stays_there (rows.Options x) is = refl
  stays_there (rows.Grave x) is = refl

  type_is : (id : ℤ) (x : Option Row) → row_under c (name_in tables.NoteType id) ≡ x → is_some x ≡ true → is_some (kept.rows (name_in tables.NoteType id)) ≡ true
  type_is id None is held = false_true held
  type_is id (Some row) is held =
      ap is_some (as_it_is (row_under c (name_in tables.NoteType id)) row is (stays_there row (ap (is_in tables.NoteType) (named (name_in tables.NoteType id) row is))))

  -- ---- the parts of soundness
  abbrev Cases : ℤ → Type 0
  Cases id =
      ((name_in tables.NoteType id ≡ name_in tables.NoteType given.note_type.id) × (base.rows (name_in tables.NoteType id) ≡ Some (rows.NoteType (as_given given.note_type))))
      ⊎ ((eq_by_cmp name_cmp (name_in tables.NoteType id) (name_in tables.NoteType given.note_type.id) ≡ false) × (base.rows (name_in tables.NoteType id) ≡ kept.rows (name_in tables.NoteType id)))

  cases : (id : ℤ) → Cases id
  cases id = put_cases (rows.NoteType (as_given given.note_type)) kept (name_in tables.NoteType id)

  -- another type has another id
  other_id : (id : ℤ) → eq_by_cmp name_cmp (name_in tables.NoteType id) (name_in tables.NoteType given.note_type.id) ≡ false → int_eq id given.note_type.id ≡ false
  other_id id apart =
      elim (int_eq id given.note_type.id) as (λ (b : Bool). int_eq id given.note_type.id ≡ b → b ≡ false) [
        | true ↦ λ same.
            let own : name_in tables.NoteType given.note_type.id ≡ name_in tables.NoteType id = ap (name_in tables.NoteType) (sym ((Decides-int_eq id given.note_type.id).0 same)) in
            false_true (sym apart ∙ ap (eq_by_cmp name_cmp (name_in tables.NoteType id)) own ∙ ap is_eq (tied_itself names_total (name_in tables.NoteType id)))
        | false ↦ λ _. refl
      ] refl

  -- whether the note of a card has the type
  pub has_type_is : (id : ℤ) (was : Note) → row_under c (name_in tables.Note id) ≡ Some (rows.Note was) → has_type given.note_type.id c.rows id ≡ int_eq was.mid given.note_type.id
  has_type_is id was is = ap (λ (x : Option Row). option_map_or (λ (note : Note). int_eq note.mid given.note_type.id) (option_and_then as_note x) false) is

  typed_by : (note : Note) (was : Note) → was.mid ≡ note.mid → row_under c (name_in tables.Note was.id) ≡ Some (rows.Note was) → Cases note.mid → is_some (base.rows (name_in tables.NoteType note.mid)) ≡ true
  typed_by note was same there (inl put) = ap is_some put.1
  typed_by note was same there (inr other) =
      ap is_some other.1
      ∙ type_is note.mid (row_under c (name_in tables.NoteType note.mid)) refl (subst (λ (id : ℤ). is_some (row_under c (name_in tables.NoteType id)) ≡ true) same (whole.sound.note_type was there))

  -- ---- the ord of a card that stays, where its note has the type
  pub ord_stays : (o : Option ℤ) (ord : ℤ) → is_none o ≡ false → (moved : ℤ) × (o ≡ Some moved) × (unwrap_or o ord ≡ moved)
  ord_stays None ord some = true_false some
  ord_stays (Some moved) ord some = (moved, refl, refl)

  pub placed_in : (was : Card) → given.note_type.cloze ≡ false → length given.from_templates ≤ length given.note_type.templates → was.ord <ℤ pos (length old.templates)
      → has_type given.note_type.id c.rows was.nid ≡ true → gone (rows.Card was) ≡ false → (card_after was).ord <ℤ pos (length given.note_type.templates)
  placed_in was standard few below has stays =
      let some : is_none (ord_after given old was.ord) ≡ false = sym (ap (λ (b : Bool). b && is_none (ord_after given old was.ord)) has) ∙ stays in
      let moved = ord_stays (ord_after given old was.ord) was.ord some in
      let by_map : moved_ord (length old.templates) given.from_templates was.ord ≡ Some moved.0 =
      sym (ap (λ (b : Bool). cond b (Some was.ord) (moved_ord (length old.templates) given.from_templates was.ord)) standard) ∙ moved.1 in
      let low : moved.0 <ℤ pos (length given.note_type.templates) = moved_below (length old.templates) (length given.note_type.templates) given.from_templates was.ord moved.0 few below by_map in
      let own : (card_after was).ord ≡ moved.0 = ap (λ (b : Bool). (cond b (with_ord was (unwrap_or (ord_after given old was.ord) was.ord)) was).ord) has ∙ moved.2 in
      subst (λ (ord : ℤ). ord <ℤ pos (length given.note_type.templates)) (sym own) low

  -- a card of another type stays as it is
  pub other_after : (was : Card) → has_type given.note_type.id c.rows was.nid ≡ false → card_after was ≡ was
  other_after was other = ap (λ (b : Bool). cond b (with_ord was (unwrap_or (ord_after given old was.ord) was.ord)) was) other

  -- ---- what holds before cards are made: if the type of notes stays standard, the map leads to new templates
  pub base_nearly : ((note : Note) → row_under c (name_in tables.Note note.id) ≡ Some (rows.Note note) → note.mid ≡ given.note_type.id → given.note_type.cloze ≡ false → old.cloze ≡ false)
      → row_under c (name_in tables.NoteType given.note_type.id) ≡ Some (rows.NoteType old) → length given.from_templates ≤ length given.note_type.templates → IsNearlySound base.rows
  base_nearly kinds there few = record {
    card_note = λ card is.
        let was = card_was card.id card is in
        let same = card_same was.0 card was.3 in
        let note = note_there (row_under c) was.0.nid named (whole.sound.card_note was.0 (ap (λ (id : ℤ). row_under c (name_in tables.Card id)) same.0 ∙ was.1)) in
        subst (λ (id : ℤ). is_some (base.rows (name_in tables.Note id)) ≡ true) same.1 (ap is_some (note_is was.0.nid note.0 note.1));
    note_type = λ note is.
        let was = note_was note.id note is in
        let same = note_same was.0 note was.2 in
        typed_by note was.0 same.1 (ap (λ (id : ℤ). row_under c (name_in tables.Note id)) same.0 ∙ was.1) (cases note.mid);
    template = λ card note type is_card is_note is_type standard.
        let was = card_was card.id card is_card in
        let note_before = note_was card.nid note is_note in
        placed card note type was.0 note_before.0 was.1 was.2 was.3 note_before.1 note_before.2 is_type standard (cases note.mid);
  }
    where
      placed : (card : Card) (note : Note) (type : NoteType) (was : Card) (note_before : Note) → row_under c (name_in tables.Card card.id) ≡ Some (rows.Card was) → gone (rows.Card was) ≡ false → card_after was ≡ card
          → row_under c (name_in tables.Note card.nid) ≡ Some (rows.Note note_before) → note_after note_before ≡ note → base.rows (name_in tables.NoteType note.mid) ≡ Some (rows.NoteType type) → type.cloze ≡ false
          → Cases note.mid → card.ord <ℤ pos (length type.templates)
      placed card note type was note_before is_card stays after is_note note_as is_type standard (inl put) =
          let same = card_same was card after in
          let note_own = note_same note_before note note_as in
          let own_type : as_given given.note_type ≡ type = same_type (as_given given.note_type) type (sym put.1 ∙ is_type) in
          let given_standard : given.note_type.cloze ≡ false = ap (λ (t : NoteType). t.cloze) own_type ∙ standard in
          let mid : note_before.mid ≡ given.note_type.id = note_own.1 ∙ ap (λ (n : Name). n.id) put.0 in
          let noted : row_under c (name_in tables.Note note_before.id) ≡ Some (rows.Note note_before) = ap (row_under c) (named (name_in tables.Note card.nid) (rows.Note note_before) is_note) ∙ is_note in
          let carded : row_under c (name_in tables.Card was.id) ≡ Some (rows.Card was) = ap (λ (id : ℤ). row_under c (name_in tables.Card id)) same.0 ∙ is_card in
          let its_note : row_under c (name_in tables.Note was.nid) ≡ Some (rows.Note note_before) = ap (λ (id : ℤ). row_under c (name_in tables.Note id)) same.1 ∙ is_note in
          let its_type : row_under c (name_in tables.NoteType note_before.mid) ≡ Some (rows.NoteType old) = ap (λ (id : ℤ). row_under c (name_in tables.NoteType id)) mid ∙ there in
          let below : was.ord <ℤ pos (length old.templates) = whole.sound.template was note_before old carded its_note its_type (kinds note_before noted mid given_standard) in
          let has : has_type given.note_type.id c.rows was.nid ≡ true = has_type_is was.nid note_before its_note ∙ (Decides-int_eq note_before.mid given.note_type.id).1 mid in
          subst (λ (k : Card). k.ord <ℤ pos (length type.templates)) after
          (subst (λ (t : NoteType). (card_after was).ord <ℤ pos (length t.templates)) own_type (placed_in was given_standard few below has stays))
      placed card note type was note_before is_card stays after is_note note_as is_type standard (inr other) =
          let same = card_same was card after in
          let note_own = note_same note_before note note_as in
          let its_note : row_under c (name_in tables.Note was.nid) ≡ Some (rows.Note note_before) = ap (λ (id : ℤ). row_under c (name_in tables.Note id)) same.1 ∙ is_note in
          let not_it : has_type given.note_type.id c.rows was.nid ≡ false =
          has_type_is was.nid note_before its_note ∙ ap (λ (id : ℤ). int_eq id given.note_type.id) note_own.1 ∙ other_id note.mid other.0 in
          let type_before : row_under c (name_in tables.NoteType note_before.mid) ≡ Some (rows.NoteType type) =
          ap (λ (id : ℤ). row_under c (name_in tables.NoteType id)) note_own.1 ∙ type_was note.mid type (sym other.1 ∙ is_type) in
          subst (λ (k : Card). k.ord <ℤ pos (length type.templates)) (sym (other_after was not_it) ∙ after)
          (whole.sound.template was note_before type (ap (λ (id : ℤ). row_under c (name_in tables.Card id)) same.0 ∙ is_card) its_note type_before standard)

  -- all types have their templates
  pub base_templates : 1 ≤ length given.note_type.templates → (id : ℤ) (type : NoteType) → base.rows (name_in tables.NoteType id) ≡ Some (rows.NoteType type) → type.cloze ≡ false → 1 ≤ length type.templates
  base_templates some id type is standard = by (cases id)
    where
      by : Cases id → 1 ≤ length type.templates
      by (inl put) = subst (λ (t : NoteType). 1 ≤ length t.templates) (same_type (as_given given.note_type) type (sym put.1 ∙ is)) some
      by (inr other) = whole.templates id type (type_was id type (sym other.1 ∙ is)) standard

  pub base_ids : (id : ℤ) (note : Note) → base.rows (name_in tables.Note id) ≡ Some (rows.Note note) → pos 0 <ℤ id
  base_ids id note is = let was = note_was id note is in whole.ids id was.0 was.1
