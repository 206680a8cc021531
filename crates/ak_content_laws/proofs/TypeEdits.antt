-- A note type that is edited leaves sound rows: its notes have cards again, each with a template.
use Rattle.std.specs.Prelude.{◌≡◌, ◌⊎◌, ◌≤◌, ◌&&◌, ◌++◌, ℤ, ◌≤ℤ◌, ◌<ℤ◌, Bool, true, false, not, is_none, List, [], ◌∷◌, length, map, Option, Some, None, option_and_then}
use Rattle.std.specs.List.{AllByRecursion}
use Rattle.std.specs.Ordering.{int_eq}
use Rattle.std.proofs.Common.{arith, inl, inr, refl, sym, ap, subst, ◌∙◌}
use Rattle.std.proofs.lemmas.Bool.Decides.{Decides-int_eq}
use Rattle.std.proofs.lemmas.Option.{same_Some}
use Rattle.ak_base.specs.declared.cards.Card.{Card}
use Rattle.ak_base.specs.declared.heads.Conf.{Conf}
use Rattle.ak_base.specs.declared.names.Name.{Name}
use Rattle.ak_base.specs.declared.names.Table.TheVariants as tables
use Rattle.ak_base.specs.declared.note_types.NoteType.{NoteType}
use Rattle.ak_base.specs.declared.notes.Note.{Note}
use Rattle.ak_base.specs.declared.rows.Row.TheVariants as rows
use Rattle.ak_edit_calls.specs.NewNames.{AreMadeOf}
use Rattle.ak_edit.specs.declared.desk_faults.DeskFault.{DeskFault}
use Rattle.ak_edit.specs.declared.desk_faults.DeskFault.TheVariants as faults
use Rattle.ak_keep.specs.Collections.{Collection, cards_of}
use Rattle.ak_keep.specs.FreeNames.{is_used}
use Rattle.ak_keep.specs.Lookups.{as_card, card_at}
use Rattle.ak_merge.proofs.EditFacts.{true_false}
use Rattle.ak_merge.specs.Edits.{Edit}
use Rattle.ak_merge.specs.Holdings.{AreNamed, name_in, row_under}
use Rattle.ak_notes.proofs.NoteCards.{names_card}
use Rattle.ak_notes.specs.LackingNotes.{AreMissing, lacked_ords, missing_from, missing_place, next_after, next_at, or_first}
use Rattle.ak_notes.specs.MadeNotes.{NeedsHeld, with_cards}
use Rattle.ak_notes.specs.NewCards.{IsNewCard, first_after}
use Rattle.ak_notes.specs.declared.lacking_notes.LackingNote.{LackingNote}
use Rattle.ak_notes.specs.declared.lacking_notes.NextCards.{NextCards}
use Rattle.ak_types.proofs.AdmittedEdits.{with_both}
use Rattle.ak_types.specs.GivenTypes.{RefusesGiven, as_given, has_notes}
use Rattle.ak_types.specs.PlaceMaps.{RefusesMap}
use Rattle.ak_types.specs.RetypedCards.{AreAllMissing, AreLacking, IsLacking, notes_of}
use Rattle.ak_types.specs.RetypedRows.{has_type, is_dropped, kept_card, kept_cards, kept_with, moved_fields, ord_after}
use Rattle.ak_types.specs.TypeEdits.{IsRetyping, RefusesForm, RefusesForType, RefusesMaps, RefusesOtherKind, RefusesToEdit, RefusesType, RefusesTypeEdit, RefusesUse, retyping}
use Rattle.ak_types.specs.declared.type_edits.TypeEdit.{TypeEdit}
use Rattle.ak_content_laws.proofs.CardLists.{and_false, card_among, first_among, later_among}
use Rattle.ak_content_laws.proofs.NewCards.{IsOrdOf, MakesFor, all_of_note, new_cards_all, ords_within}
use Rattle.ak_content_laws.proofs.NoteCalls.{found_type, new_card_fits}
use Rattle.ak_content_laws.proofs.Passing.{first_passes, others_pass}
use Rattle.ak_content_laws.proofs.PlaceMaps.{entries_enough, entries_few}
use Rattle.ak_content_laws.proofs.RetypedNotes.{IsOfType, after_table, all_from, all_joined_cards, all_of_type, between_ids, each_note, lacked_within, lacks_some, last_stands, later_leave, missing_made, nil_cons, past_all}
use Rattle.ak_content_laws.proofs.RetypedRows.{base, base_ids, base_nearly, base_templates, card_after, card_is, card_same, has_type_is, kept, none_is, note_after, note_is, note_same, note_was}
use Rattle.ak_content_laws.proofs.SoundParts.{FitsIn, HasCard, IsNearlySound, card_stays, cards_ids, cards_leave, cards_nearly, cards_templates, put_there, sound_of}
use Rattle.ak_content_laws.proofs.TypeRows.{given_fields, given_templates, unused}
use Rattle.ak_content_laws.specs.SoundCalls.{IsSoundInRange}

-- ---- the notes of the type
module _ (given : TypeEdit) (old : NoteType) (c : Collection) (named : AreNamed (row_under c)) (whole : IsSoundInRange (row_under c)) (some : 1 ≤ length given.note_type.templates) where
  abbrev its : Edit
  its = base given old c named whole

  -- the given type stands in its place
  type_there : its.rows (name_in tables.NoteType given.note_type.id) ≡ Some (rows.NoteType (as_given given.note_type))
  type_there = put_there (rows.NoteType (as_given given.note_type)) (kept given old c named whole)

  -- a note of the type, as it is afterwards
  note_there : (note : Note) → IsOfType c.rows given.note_type.id note → its.rows (name_in tables.Note note.id) ≡ Some (rows.Note (note_after given old c named whole note))
  note_there note of = note_is given old c named whole note.id note of.0

  typed_there : (note : Note) → IsOfType c.rows given.note_type.id note → its.rows (name_in tables.NoteType (note_after given old c named whole note).mid) ≡ Some (rows.NoteType (as_given given.note_type))
  typed_there note of =
      ap (λ (id : ℤ). its.rows (name_in tables.NoteType id)) (sym (note_same given old c named whole note (note_after given old c named whole note) refl).1 ∙ of.1) ∙ type_there

  -- the cards of one note fit
  own_fit : (note : Note) (lacking : LackingNote) (next : NextCards) (cards : List Card) → IsOfType c.rows given.note_type.id note → IsLacking given old c.rows note lacking → next.first.table ≡ tables.Card
      → AreMissing lacking next c.rows cards → AllByRecursion (FitsIn its.rows) cards
  own_fit note lacking next cards of lack table are =
      new_cards_all (is_used (row_under c)) (IsNewCard (missing_place lacking next)) next.first (lacked_ords lacking) cards (IsOrdOf (as_given given.note_type)) (FitsIn its.rows) table are
      (lacked_within (as_given given.note_type) lacking (λ _. some) (ords_within (as_given given.note_type) (moved_fields given note) lacking.shown lack.shown))
      (new_card_fits c its (note_after given old c named whole note) (as_given given.note_type) lacking.note (IsNewCard (missing_place lacking next)) (none_is given old c named whole)
      (ap (λ (id : ℤ). its.rows (name_in tables.Note id)) lack.note ∙ note_there note of) (typed_there note of) (missing_made lacking next))

  -- so do those of all of them
  all_fit : (notes : List Note) (lacking : List LackingNote) (next : NextCards) (cards : List Card) (end : NextCards) → AllByRecursion (IsOfType c.rows given.note_type.id) notes
      → AreLacking given old c.rows notes lacking → next.first.table ≡ tables.Card → AreAllMissing c.rows lacking next cards end → AllByRecursion (FitsIn its.rows) cards
  all_fit [] lacking next cards end of lack table are =
      let none = subst (λ (l : List LackingNote). AreAllMissing c.rows l next cards end) lack are in
      subst (AllByRecursion (FitsIn its.rows)) (sym none.0) tt
  all_fit (note ∷ notes) lacking next cards end of lack table are =
      let those = subst (λ (l : List LackingNote). AreAllMissing c.rows l next cards end) lack.2 are in
      subst (AllByRecursion (FitsIn its.rows)) (sym those.2)
      (all_joined_cards (FitsIn its.rows) those.0 those.1 (own_fit note lack.0 next those.0 of.0 lack.3 table those.3)
      (all_fit notes lack.1 (next_after those.0 next) those.1 end of.1 lack.4 (after_table those.0 next.first ∙ table) those.4))

  -- ---- a card that stays
  -- one of these ids is of a card whose template did not go
  abbrev OneStays : List ℤ → Type 0
  OneStays ids = (id : ℤ) × (names_card ids (name_in tables.Card id) ≡ true) × (was : Card) × (card_at c.rows id ≡ Some was) × (is_none (ord_after given old was.ord) ≡ false)

  -- if some cards of these ids stay, there is one
  stays_some : (ids : List ℤ) (card : Card) (cards : List Card) → kept_cards given old c.rows ids ≡ card ∷ cards → OneStays ids
  stays_some [] card cards is = nil_cons is
  stays_some (id ∷ ids) card cards is = by (λ rest. let found = stays_some ids card cards rest in (found.0, later_among id found.0 ids found.1, found.2, found.3, found.4)) (card_at c.rows id) refl is
    where
      by_ord : (kept_cards given old c.rows ids ≡ card ∷ cards → OneStays (id ∷ ids)) → (was : Card) → card_at c.rows id ≡ Some was → (o : Option ℤ) → ord_after given old was.ord ≡ o
          → kept_with was o ++ kept_cards given old c.rows ids ≡ card ∷ cards → OneStays (id ∷ ids)
      by_ord later was there None goes rest = later rest
      by_ord later was there (Some ord) stays rest = (id, first_among id ids, was, there, ap is_none stays)

      by : (kept_cards given old c.rows ids ≡ card ∷ cards → OneStays (id ∷ ids)) → (x : Option Card) → card_at c.rows id ≡ x → kept_card given old x ++ kept_cards given old c.rows ids ≡ card ∷ cards → OneStays (id ∷ ids)
      by later None there rest = later rest
      by later (Some was) there rest = by_ord later was there (ord_after given old was.ord) refl rest

  -- a card of a note, whose template did not go, stands there
  pub stands : (note id : ℤ) (was : Card) → row_under c (name_in tables.Card id) ≡ Some (rows.Card was) → was.nid ≡ note → is_dropped given old c.rows (rows.Card was) ≡ false → HasCard its.rows note
  stands note id was is of stays =
      let after : Card = card_after given old c named whole was in
      let same = card_same given old c named whole was after refl in
      let own : name_in tables.Card was.id ≡ name_in tables.Card id = named (name_in tables.Card id) (rows.Card was) is in
      (after, ap (λ (i : ℤ). its.rows (name_in tables.Card i)) (sym same.0) ∙ ap its.rows own ∙ card_is given old c named whole id was is stays, sym same.1 ∙ of)

  kept_stands : (note : Note) (card : Card) (cards : List Card) → kept_cards given old c.rows (cards_of note.id c.rows) ≡ card ∷ cards → HasCard its.rows note.id
  kept_stands note card cards is =
      let found = stays_some (cards_of note.id c.rows) card cards is in
      let there = card_among c.rows note.id found.0 named found.1 in
      let same : there.0 ≡ found.2 = same_Some there.0 found.2 (sym (ap (option_and_then as_card) there.1) ∙ found.3) in
      let stays : is_none (ord_after given old there.0.ord) ≡ false = ap (λ (k : Card). is_none (ord_after given old k.ord)) same ∙ found.4 in
      stands note.id found.0 there.0 there.1 there.2 (ap (λ (b : Bool). has_type given.note_type.id c.rows there.0.nid && b) stays ∙ and_false (has_type given.note_type.id c.rows there.0.nid))

  -- ---- a card that is made
  -- the cards of one note have it, and come before those of the next
  abbrev IsOwn : ℤ → ℤ → Card → Type 0
  IsOwn note high card = (card.nid ≡ note) × (card.id <ℤ high)

  own_before : (note low high : ℤ) (cards : List Card) → AllByRecursion (λ (card : Card). card.nid ≡ note) cards → AllByRecursion (λ (card : Card). (low ≤ℤ card.id) × (card.id <ℤ high)) cards
      → AllByRecursion (IsOwn note high) cards
  own_before note low high [] own between = tt
  own_before note low high (card ∷ cards) own between = ((own.0, between.0.1), own_before note low high cards own.1 between.1)

  -- a note none of whose cards stays gets one
  made_stands : (IsMade : ℤ → ℤ → Card → Type 0) (note : ℤ) (first : Name) (ord : ℤ) (ords : List ℤ) (own rest : List Card) (edit : Edit) → MakesFor note IsMade → first.table ≡ tables.Card
      → AreMadeOf (is_used (row_under c)) IsMade first (ord ∷ ords) own → AllByRecursion (λ (card : Card). (first_after own first).id ≤ℤ card.id) rest → HasCard (with_cards (own ++ rest) edit).rows note
  made_stands IsMade note first ord ords own rest edit makes table are later =
      let noted : AllByRecursion (λ (card : Card). card.nid ≡ note) own = all_of_note (is_used (row_under c)) IsMade first (ord ∷ ords) own note makes table are in
      let all : AllByRecursion (IsOwn note (first_after own first).id) own =
      own_before note first.id (first_after own first).id own noted (between_ids (is_used (row_under c)) IsMade note first (ord ∷ ords) own makes are).all in
      let last = last_stands (IsOwn note (first_after own first).id) are.2 are.4 edit (subst (AllByRecursion (IsOwn note (first_after own first).id)) are.5 all) in
      let there : (with_cards own edit).rows (name_in tables.Card last.0.id) ≡ Some (rows.Card last.0) = ap (λ (l : List Card). (with_cards l edit).rows (name_in tables.Card last.0.id)) are.5 ∙ last.2 in (
        last.0,
        ap (λ (e : Edit). e.rows (name_in tables.Card last.0.id)) (with_both own rest edit)
            ∙ later_leave last.0.id rest (with_cards own edit) (past_all last.0.id (first_after own first).id rest last.1.1 later) ∙ there,
        last.1.0,
      )

  -- each note of the type has a card that stays, or one that is made
  all_have : (notes : List Note) (lacking : List LackingNote) (next : NextCards) (cards : List Card) (end : NextCards) (edit : Edit) → AreLacking given old c.rows notes lacking → next.first.table ≡ tables.Card
      → AreAllMissing c.rows lacking next cards end → AllByRecursion (λ (note : Note). HasCard its.rows note.id ⊎ HasCard (with_cards cards edit).rows note.id) notes
  all_have [] lacking next cards end edit lack table are = tt
  all_have (note ∷ notes) lacking next cards end edit lack table are =
      subst (λ (l : List Card). AllByRecursion (λ (n : Note). HasCard its.rows n.id ⊎ HasCard (with_cards l edit).rows n.id) (note ∷ notes)) (sym those.2) (
        by (kept_cards given old c.rows (cards_of note.id c.rows)) refl,
        subst (λ (e : Edit). AllByRecursion (λ (n : Note). HasCard its.rows n.id ⊎ HasCard e.rows n.id) notes) (sym (with_both those.0 those.1 edit))
            (all_have notes lack.1 (next_after those.0 next) those.1 end (with_cards those.0 edit) lack.4 (after_table those.0 next.first ∙ table) those.4),
      )
    where
      those : AreAllMissing c.rows (lack.0 ∷ lack.1) next cards end
      those = subst (λ (l : List LackingNote). AreAllMissing c.rows l next cards end) lack.2 are

      by : (kept : List Card) → kept_cards given old c.rows (cards_of note.id c.rows) ≡ kept → HasCard its.rows note.id ⊎ HasCard (with_cards (those.0 ++ those.1) edit).rows note.id
      by (card ∷ kept) is = inl (kept_stands note card kept is)
      by [] none =
          let ords = lacks_some lack.0.shown in
          let no_ords : lack.0.held.ords ≡ [] = ap (λ held. held.ords) lack.3.held ∙ ap (map (λ (card : Card). card.ord)) none in
          let lacked : lacked_ords lack.0 ≡ ords.0 ∷ ords.1 =
          ap (λ (needs : Bool). or_first needs lack.0.held.ords (missing_from lack.0.held.ords lack.0.shown)) lack.3.needs
          ∙ ap (λ (there : List ℤ). or_first true there (missing_from there lack.0.shown)) no_ords ∙ ords.2 in
          inr (subst (HasCard (with_cards (those.0 ++ those.1) edit).rows) lack.3.note
          (made_stands (IsNewCard (missing_place lack.0 next)) lack.0.note next.first ords.0 ords.1 those.0 those.1 edit (missing_made lack.0 next) table
          (subst (λ (l : List ℤ). AreMadeOf (is_used (row_under c)) (IsNewCard (missing_place lack.0 next)) next.first l those.0) lacked those.3)
          (all_from c.rows lack.1 (next_after those.0 next) those.1 end those.4)))

-- ---- the whole edit
module _ (at : ℤ) (given : TypeEdit) (c : Collection) (old : NoteType) (cards : List Card) (conf : Conf) (named : AreNamed (row_under c)) (is : IsRetyping at given c old cards conf)
    (passes : (fault : DeskFault) → RefusesTypeEdit at given c fault → ⊥) (whole : IsSoundInRange (row_under c)) where
  for_type : (fault : DeskFault) → RefusesForType at given c old fault → ⊥
  for_type fault refuses =
      first_passes (RefusesToEdit at given c) _ passes fault
      (subst (λ (found : Option NoteType). NeedsHeld found (name_in tables.NoteType given.note_type.id) (RefusesForType at given c) fault) (sym is.there) refuses)

  of_type : (fault : DeskFault) → RefusesType given old c.rows fault → ⊥
  of_type = first_passes (RefusesType given old c.rows) _ for_type

  form : (fault : DeskFault) → RefusesForm given old fault → ⊥
  form = first_passes (RefusesForm given old) (RefusesUse given old c.rows) of_type

  asked : (fault : DeskFault) → RefusesUse given old c.rows fault → ⊥
  asked = others_pass (RefusesForm given old) (RefusesUse given old c.rows) of_type

  some : 1 ≤ length given.note_type.templates
  some = given_templates (as_given given.note_type) (first_passes (RefusesGiven (as_given given.note_type)) (RefusesMaps given old) form)

  few : length given.from_templates ≤ length given.note_type.templates
  few =
      entries_few (length given.note_type.fields) (length old.templates) (length given.note_type.templates) given.from_templates
      (others_pass _ _ (others_pass (RefusesGiven (as_given given.note_type)) (RefusesMaps given old) form))

  -- the map of fields has an entry for each field of the new type, and there are some
  pub fields_mapped : (length given.from_fields ≡ length given.note_type.fields) × (1 ≤ length given.from_fields)
  fields_mapped =
      let of_given = first_passes (RefusesGiven (as_given given.note_type)) (RefusesMaps given old) form in
      let maps = others_pass (RefusesGiven (as_given given.note_type)) (RefusesMaps given old) form in
      let passed = first_passes (RefusesMap 0 (length old.fields) (length given.note_type.fields) given.from_fields) _ maps in
      let most = entries_few 0 (length old.fields) (length given.note_type.fields) given.from_fields passed in
      let least = entries_enough 0 (length old.fields) (length given.note_type.fields) given.from_fields passed in
      let one : 1 ≤ length given.note_type.fields = given_fields (as_given given.note_type) of_given in
      (omega (arith, most, least), omega (arith, least, one))

  pub there : row_under c (name_in tables.NoteType given.note_type.id) ≡ Some (rows.NoteType old)
  there = found_type (row_under c (name_in tables.NoteType given.note_type.id)) old is.there

  -- cards of a type in use go on to be made in one way
  pub kinds : (note : Note) → row_under c (name_in tables.Note note.id) ≡ Some (rows.Note note) → note.mid ≡ given.note_type.id → given.note_type.cloze ≡ false → old.cloze ≡ false
  kinds note held of standard =
      elim (old.cloze) as (λ (b : Bool). old.cloze ≡ b → b ≡ false) [
        | true ↦ λ clozed.
            let other : given.note_type.cloze ≡ not old.cloze = standard ∙ sym (ap not clozed) in
            let in_use : has_notes given.note_type.id c.rows ≡ true =
            elim (has_notes given.note_type.id c.rows) as (λ (b : Bool). has_notes given.note_type.id c.rows ≡ b → b ≡ true) [
              | true ↦ λ _. refl
              | false ↦ λ none. true_false (sym ((Decides-int_eq note.mid given.note_type.id).1 of) ∙ unused c given.note_type.id note whole none held)
            ] refl in
            absurd (first_passes (RefusesOtherKind given old c.rows) _ asked (faults.InUse (name_in tables.NoteType given.note_type.id)) (other, (in_use, refl)))
        | false ↦ λ _. refl
      ] refl

  abbrev before : Edit
  before = base given old c named whole

  nearly : IsNearlySound before.rows
  nearly = base_nearly given old c named whole kinds there few

  fit : AllByRecursion (FitsIn before.rows) cards
  fit =
      all_fit given old c named whole some (notes_of given.note_type.id c.rows) is.is.lacking (next_at at c.head.conf) cards is.is.end (all_of_type given.note_type.id c.rows named) is.is.lack refl is.is.missing

  have : AllByRecursion (λ (note : Note). HasCard before.rows note.id ⊎ HasCard (with_cards cards before).rows note.id) (notes_of given.note_type.id c.rows)
  have = all_have given old c named whole some (notes_of given.note_type.id c.rows) is.is.lacking (next_at at c.head.conf) cards is.is.end before is.is.lack refl is.is.missing

  noted : (n : Note) → (with_cards cards before).rows (name_in tables.Note n.id) ≡ Some (rows.Note n) → HasCard (with_cards cards before).rows n.id
  noted n stands_there = by (int_eq was.0.mid given.note_type.id) refl
    where
      was : (own : Note) × (row_under c (name_in tables.Note n.id) ≡ Some (rows.Note own)) × (note_after given old c named whole own ≡ n)
      was = note_was given old c named whole n.id n (sym (cards_leave cards before (name_in tables.Note n.id) refl) ∙ stands_there)

      id : was.0.id ≡ n.id
      id = (note_same given old c named whole was.0 n was.2).0

      own : row_under c (name_in tables.Note was.0.id) ≡ Some (rows.Note was.0)
      own = ap (λ (i : ℤ). row_under c (name_in tables.Note i)) id ∙ was.1

      either : HasCard before.rows was.0.id ⊎ HasCard (with_cards cards before).rows was.0.id → HasCard (with_cards cards before).rows n.id
      either (inl stays) = card_stays before cards nearly fit n.id (subst (HasCard before.rows) id stays)
      either (inr made) = subst (HasCard (with_cards cards before).rows) id made

      by : (b : Bool) → int_eq was.0.mid given.note_type.id ≡ b → HasCard (with_cards cards before).rows n.id
      by true of =
          either (each_note (λ (note : Note). HasCard before.rows note.id ⊎ HasCard (with_cards cards before).rows note.id) given.note_type.id c.rows have was.0 own
          ((Decides-int_eq was.0.mid given.note_type.id).0 of) (whole.ids was.0.id was.0 own))
      by false other =
          let card = whole.sound.note_card was.0 own in
          let not_it : has_type given.note_type.id c.rows card.0.nid ≡ false =
          has_type_is given old c named whole card.0.nid was.0 (ap (λ (i : ℤ). row_under c (name_in tables.Note i)) card.2 ∙ own) ∙ other in
          card_stays before cards nearly fit n.id
          (stands given old c named whole some n.id card.0.id card.0 card.1 (card.2 ∙ id) (ap (λ (b : Bool). b && is_none (ord_after given old card.0.ord)) not_it))

  pub retyping_sound : IsSoundInRange (retyping given old cards conf c).rows
  retyping_sound = record {
    sound = sound_of (with_cards cards before).rows (cards_nearly before cards nearly fit) noted;
    templates = cards_templates before cards (base_templates given old c named whole some);
    ids = cards_ids before cards (base_ids given old c named whole);
  }
