-- Two cards of one note that stay in an edit of its type have two ords afterwards, if they had two before.
use Rattle.std.specs.Prelude.{◌≡◌, ◌≢◌, ◌&&◌, ℤ, pos, ◌<ℤ◌, Bool, true, false, cond, is_none, List, [], ◌∷◌, length, Option, Some, None, option_and_then}
use Rattle.std.specs.List.{AllByRecursion}
use Rattle.std.specs.Option.{option_map_or, unwrap_or}
use Rattle.std.specs.Ordering.{int_eq}
use Rattle.std.proofs.Common.{inl, inr, refl, sym, ap, subst, ◌∙◌}
use Rattle.std.proofs.lemmas.Bool.Decides.{Decides-int_eq}
use Rattle.std.proofs.lemmas.Option.{same_Some}
use Rattle.ak_base.specs.declared.cards.Card.{Card}
use Rattle.ak_base.specs.declared.names.Table.TheVariants as tables
use Rattle.ak_base.specs.declared.notes.Note.{Note}
use Rattle.ak_base.specs.declared.rows.Row.{Row}
use Rattle.ak_base.specs.declared.rows.Row.TheVariants as rows
use Rattle.ak_edit.specs.declared.desk_faults.DeskFault.{DeskFault}
use Rattle.ak_keep.specs.Collections.{Collection}
use Rattle.ak_keep.specs.FreeNames.{is_used}
use Rattle.ak_keep.specs.Keepers.{Keeping}
use Rattle.ak_keep.specs.Lookups.{as_note, card_at}
use Rattle.ak_merge.proofs.EditFacts.{false_true, none_held}
use Rattle.ak_merge.specs.Edits.{Edit}
use Rattle.ak_merge.specs.Holdings.{AreNamed, name_in, row_under}
use Rattle.ak_notes.specs.LackingNotes.{lacked_ords, missing_place, next_after, next_at}
use Rattle.ak_notes.specs.MadeNotes.{with_cards}
use Rattle.ak_notes.specs.NewCards.{IsNewCard}
use Rattle.ak_notes.specs.declared.lacking_notes.LackingNote.{LackingNote}
use Rattle.ak_notes.specs.declared.lacking_notes.NextCards.{NextCards}
use Rattle.ak_types.specs.PlaceMaps.{moved_ord}
use Rattle.ak_types.specs.RetypedCards.{AreAllMissing}
use Rattle.ak_types.specs.RetypedRows.{has_type, is_dropped, ord_after, with_ord}
use Rattle.ak_types.specs.TypeEdits.{IsTypeEdited, RefusesTypeEdit, retyping}
use Rattle.ak_types.specs.declared.type_edits.TypeEdit.{TypeEdit}
use Rattle.ak_undo.specs.declared.steps.Step.{Step}
use Rattle.ak_content_laws.proofs.CardCalls.{found_card}
use Rattle.ak_content_laws.proofs.KeptOrds.{ords_apart}
use Rattle.ak_content_laws.proofs.NewCards.{free_none, new_cards_all, no_matter}
use Rattle.ak_content_laws.proofs.RetypedNotes.{after_table, all_joined_cards, missing_made}
use Rattle.ak_content_laws.proofs.RetypedRows.{base, card_after, card_was, ord_stays}
use Rattle.ak_content_laws.proofs.Shapes.{card_alike, shape}
use Rattle.ak_content_laws.proofs.SoundEdits.{edited_alike}
use Rattle.ak_content_laws.proofs.SoundParts.{PutOr, cards_cases, same_card}
use Rattle.ak_content_laws.proofs.TypeEdits.{kinds, there}
use Rattle.ak_content_laws.specs.SoundCalls.{IsSoundInRange}

-- ---- no new card takes the name of one that was held
abbrev IsFreeIn : Collection → Card → Type 0
IsFreeIn c card = row_under c (name_in tables.Card card.id) ≡ None

all_free : (c : Collection) (lacking : List LackingNote) (next : NextCards) (cards : List Card) (end : NextCards) → next.first.table ≡ tables.Card → AreAllMissing c.rows lacking next cards end → AllByRecursion (IsFreeIn c) cards
all_free c [] next cards end of are = subst (AllByRecursion (IsFreeIn c)) (sym are.0) tt
all_free c (note ∷ lacking) next cards end of are =
    subst (AllByRecursion (IsFreeIn c)) (sym are.2)
    (all_joined_cards (IsFreeIn c) are.0 are.1
    (new_cards_all (is_used (row_under c)) (IsNewCard (missing_place note next)) next.first (lacked_ords note) are.0 (λ (_ : ℤ). Unit {0}) (IsFreeIn c) of are.3 (no_matter (lacked_ords note))
    (λ ord name card _ table free is. ap (λ (i : ℤ). row_under c (name_in tables.Card i)) (missing_made note next ord name.id card is).own ∙ free_none (row_under c) name tables.Card table free))
    (all_free c lacking (next_after are.0 next) are.1 end (after_table are.0 next.first ∙ of) are.4))

-- ---- a card that stays
typed_note : (x : Option Row) (id : ℤ) → option_map_or (λ (note : Note). int_eq note.mid id) (option_and_then as_note x) false ≡ true → (note : Note) × (x ≡ Some (rows.Note note)) × (note.mid ≡ id)
typed_note None id is = false_true is
typed_note (Some (rows.Note note)) id is = (note, refl, (Decides-int_eq note.mid id).0 is)
typed_note (Some (rows.Card x)) id is = false_true is
typed_note (Some (rows.Review x)) id is = false_true is
typed_note (Some (rows.NoteType x)) id is = false_true is
typed_note (Some (rows.Deck x)) id is = false_true is
typed_note (Some (rows.Options x)) id is = false_true is
typed_note (Some (rows.Grave x)) id is = false_true is

module _ (at : ℤ) (given : TypeEdit) (c : Collection) (before now : Keeping) (steps left : List Step) (passes : (fault : DeskFault) → RefusesTypeEdit at given c fault → ⊥)
    (is : IsTypeEdited at given c before now steps left) (whole : IsSoundInRange (row_under c)) where
  named : AreNamed (row_under c)
  named = is.done.named

  abbrev its : Edit
  its = base given is.old c named whole

  abbrev IsKept : Card → Card → Type 0
  IsKept card own = (is_dropped given is.old c.rows (rows.Card card) ≡ false) × (own.ord ≡ (card_after given is.old c named whole card).ord)

  -- a card that is held before and after
  kept : (card own : Card) → card_at c.rows card.id ≡ Some card → card_at is.done.after.rows card.id ≡ Some own → IsKept card own
  kept card own held still =
      let was : row_under c (name_in tables.Card card.id) ≡ Some (rows.Card card) = found_card (row_under c (name_in tables.Card card.id)) card held in
      let stands : row_under is.done.after (name_in tables.Card card.id) ≡ Some (rows.Card own) = found_card (row_under is.done.after (name_in tables.Card card.id)) own still in
      let like = edited_alike at c is.done.after (retyping given is.old is.cards is.conf c) is.done.edited in
      let asked = card_alike ((with_cards is.cards its).rows (name_in tables.Card card.id)) own (sym (like.card card.id) ∙ ap shape stands) in
      by was asked.0 asked.1 asked.4 (cards_cases (IsFreeIn c) is.cards its card.id (all_free c is.is.is.lacking (next_at at c.head.conf) is.cards is.is.is.end refl is.is.is.missing))
    where
      by : row_under c (name_in tables.Card card.id) ≡ Some (rows.Card card) → (made : Card) → (with_cards is.cards its).rows (name_in tables.Card card.id) ≡ Some (rows.Card made) → made.ord ≡ own.ord
          → PutOr (IsFreeIn c) (with_cards is.cards its) its card.id → IsKept card own
      by was made there_is ord (inl put) = none_held (sym put.1 ∙ ap (λ (i : ℤ). row_under c (name_in tables.Card i)) put.2 ∙ was)
      by was made there_is ord (inr same) =
          let before_it = card_was given is.old c named whole card.id made (sym same ∙ there_is) in
          let one : before_it.0 ≡ card = same_card before_it.0 card (sym before_it.1 ∙ was) in (
            ap (λ (k : Card). is_dropped given is.old c.rows (rows.Card k)) (sym one) ∙ before_it.2,
            sym ord ∙ ap (λ (k : Card). k.ord) (sym before_it.3) ∙ ap (λ (k : Card). (card_after given is.old c named whole k).ord) one,
          )

  -- the ord of one whose note has the type
  led_on : (card : Card) → has_type given.note_type.id c.rows card.nid ≡ true → is_dropped given is.old c.rows (rows.Card card) ≡ false
      → ord_after given is.old card.ord ≡ Some (card_after given is.old c named whole card).ord
  led_on card has stays =
      let some : is_none (ord_after given is.old card.ord) ≡ false = sym (ap (λ (b : Bool). b && is_none (ord_after given is.old card.ord)) has) ∙ stays in
      let moved = ord_stays given is.old c named whole (ord_after given is.old card.ord) card.ord some in
      let own : (card_after given is.old c named whole card).ord ≡ moved.0 =
      ap (λ (b : Bool). (cond b (with_ord card (unwrap_or (ord_after given is.old card.ord) card.ord)) card).ord) has ∙ moved.2 in
      moved.1 ∙ ap (λ (o : ℤ). Some o) (sym own)

  -- it was below the number of the old templates, if the type is standard
  below : (card : Card) → card_at c.rows card.id ≡ Some card → has_type given.note_type.id c.rows card.nid ≡ true → given.note_type.cloze ≡ false → card.ord <ℤ pos (length is.old.templates)
  below card held has standard =
      let note = typed_note (row_under c (name_in tables.Note card.nid)) given.note_type.id has in
      let noted : row_under c (name_in tables.Note note.0.id) ≡ Some (rows.Note note.0) = ap (row_under c) (named (name_in tables.Note card.nid) (rows.Note note.0) note.1) ∙ note.1 in
      let type_there : row_under c (name_in tables.NoteType note.0.mid) ≡ Some (rows.NoteType is.old) =
      ap (λ (i : ℤ). row_under c (name_in tables.NoteType i)) note.2 ∙ there at given c is.old is.cards is.conf named is.is passes whole in
      whole.sound.template card note.0 is.old (found_card (row_under c (name_in tables.Card card.id)) card held) note.1 type_there
      (kinds at given c is.old is.cards is.conf named is.is passes whole note.0 noted note.2 standard)

  -- two that come to one ord had one
  one_ord : (one other : Card) → card_at c.rows one.id ≡ Some one → card_at c.rows other.id ≡ Some other → one.nid ≡ other.nid
      → is_dropped given is.old c.rows (rows.Card one) ≡ false → is_dropped given is.old c.rows (rows.Card other) ≡ false
      → (card_after given is.old c named whole one).ord ≡ (card_after given is.old c named whole other).ord → one.ord ≡ other.ord
  one_ord one other held also_held note stays also_stays same = by (has_type given.note_type.id c.rows one.nid) refl
    where
      clozed : ord_after given is.old one.ord ≡ ord_after given is.old other.ord → (b : Bool) → given.note_type.cloze ≡ b → has_type given.note_type.id c.rows one.nid ≡ true
          → has_type given.note_type.id c.rows other.nid ≡ true → ord_after given is.old other.ord ≡ Some (card_after given is.old c named whole other).ord → one.ord ≡ other.ord
      clozed led true is_cloze has also_has on =
          same_Some one.ord other.ord
          (sym (ap (λ (b : Bool). cond b (Some one.ord) (moved_ord (length is.old.templates) given.from_templates one.ord)) is_cloze) ∙ led
          ∙ ap (λ (b : Bool). cond b (Some other.ord) (moved_ord (length is.old.templates) given.from_templates other.ord)) is_cloze)
      clozed led false standard has also_has on =
          let moved : moved_ord (length is.old.templates) given.from_templates other.ord ≡ Some (card_after given is.old c named whole other).ord =
          sym (ap (λ (b : Bool). cond b (Some other.ord) (moved_ord (length is.old.templates) given.from_templates other.ord)) standard) ∙ on in
          let also_moved : moved_ord (length is.old.templates) given.from_templates one.ord ≡ Some (card_after given is.old c named whole other).ord =
          sym (ap (λ (b : Bool). cond b (Some one.ord) (moved_ord (length is.old.templates) given.from_templates one.ord)) standard) ∙ led ∙ on in
          ords_apart (length is.old.templates) given.from_templates one.ord other.ord (card_after given is.old c named whole other).ord (below one held has standard) (below other also_held also_has standard) also_moved moved

      by : (b : Bool) → has_type given.note_type.id c.rows one.nid ≡ b → one.ord ≡ other.ord
      by true has =
          let also_has : has_type given.note_type.id c.rows other.nid ≡ true = ap (has_type given.note_type.id c.rows) (sym note) ∙ has in
          let on = led_on other also_has also_stays in
          clozed (led_on one has stays ∙ ap (λ (o : ℤ). Some o) same ∙ sym on) given.note_type.cloze refl has also_has on
      by false not_it =
          let also_not : has_type given.note_type.id c.rows other.nid ≡ false = ap (has_type given.note_type.id c.rows) (sym note) ∙ not_it in
          sym (ap (λ (b : Bool). (cond b (with_ord one (unwrap_or (ord_after given is.old one.ord) one.ord)) one).ord) not_it) ∙ same
          ∙ ap (λ (b : Bool). (cond b (with_ord other (unwrap_or (ord_after given is.old other.ord) other.ord)) other).ord) also_not

  pub cards_apart : (one other a b : Card) → card_at c.rows one.id ≡ Some one → card_at c.rows other.id ≡ Some other → one.nid ≡ other.nid → one.ord ≢ other.ord
      → card_at is.done.after.rows one.id ≡ Some a → card_at is.done.after.rows other.id ≡ Some b → a.ord ≢ b.ord
  cards_apart one other a b held also_held note apart still also_still same =
      let stays = kept one a held still in
      let also_stays = kept other b also_held also_still in
      apart (one_ord one other held also_held note stays.0 also_stays.0 (sym stays.1 ∙ same ∙ also_stays.1))
