-- The parts of soundness one by one: rows that are taken out, a note that is new, and cards that are put.
use Rattle.std.specs.Prelude.{◌≡◌, ◌⊎◌, ◌≤◌, ◌==◌, ℤ, pos, ◌<ℤ◌, Bool, true, false, cond, if◌then◌else◌, List, [], ◌∷◌, length, Option, Some, None, is_some, option_and_then}
use Rattle.std.specs.List.{AllByRecursion}
use Rattle.std.specs.Cmp.{tied_itself}
use Rattle.std.specs.Ordering.{eq_by_cmp, is_eq}
use Rattle.std.proofs.Common.{inl, inr, refl, sym, ap, subst, ◌∙◌}
use Rattle.std.proofs.lemmas.Option.{same_Some}
use Rattle.ak_base.proofs.Burials.{grave_table_by}
use Rattle.ak_base.specs.Names.{name_cmp, names_total, table_place}
use Rattle.ak_base.specs.Rows.{name_of}
use Rattle.ak_base.specs.declared.cards.Card.{Card}
use Rattle.ak_base.specs.declared.names.Name.{Name}
use Rattle.ak_base.specs.declared.names.Table.{Table}
use Rattle.ak_base.specs.declared.names.Table.TheVariants as tables
use Rattle.ak_base.specs.declared.note_types.NoteType.{NoteType}
use Rattle.ak_base.specs.declared.notes.Note.{Note}
use Rattle.ak_base.specs.declared.rows.Row.{Row}
use Rattle.ak_base.specs.declared.rows.Row.TheVariants as rows
use Rattle.ak_keep.proofs.RowsByName.{same_of_tied}
use Rattle.ak_keep.specs.Graves.{RowsByName}
use Rattle.ak_keep.specs.Lookups.{as_card, as_note, as_note_type}
use Rattle.ak_merge.proofs.EditFacts.{false_true, none_held}
use Rattle.ak_merge.specs.EditBuilding.{with_row}
use Rattle.ak_merge.specs.Edits.{Edit}
use Rattle.ak_merge.specs.Holdings.{AreNamed, name_in}
use Rattle.ak_merge.specs.Soundness.{IsSound}
use Rattle.ak_notes.specs.MadeNotes.{with_cards}
use Rattle.ak_content_laws.specs.SoundCalls.{IsSoundInRange}

-- ---- rows by their tables
-- whether a name is one of this table
abbrev pub is_in : Table → Name → Bool
is_in table name = table_place name.table == table_place table

no_row : {X : Type 0} (table : Table) (row : Row) (id : ℤ) → name_of row ≡ name_in table id → is_in table (name_of row) ≡ false → is_in table (name_in table id) ≡ true → X
no_row table row id named other own = false_true (sym other ∙ ap (is_in table) named ∙ own)

no_grave : {X : Type 0} (table : Table) (kind : ℤ) (oid id : ℤ) → is_in table (name_in tables.CardGrave oid) ≡ false → is_in table (name_in tables.NoteGrave oid) ≡ false → is_in table (name_in tables.DeckGrave oid) ≡ false
    → name_of (rows.Grave (record { usn = pos 0; oid = oid; kind = kind })) ≡ name_in table id → is_in table (name_in table id) ≡ true → X
no_grave table kind oid id card note deck named own =
    false_true (sym (grave_table_by (λ (t : Table). is_in table (name_in t oid) ≡ false) card note deck kind) ∙ ap (is_in table) named ∙ own)

-- what stands under a note's name is a note
pub note_there : (at : RowsByName) (id : ℤ) → AreNamed at → is_some (at (name_in tables.Note id)) ≡ true → (note : Note) × (at (name_in tables.Note id) ≡ Some (rows.Note note)) × (note.id ≡ id)
note_there at id named held = by (at (name_in tables.Note id)) refl held
  where
    by : (x : Option Row) → at (name_in tables.Note id) ≡ x → is_some x ≡ true → (note : Note) × (at (name_in tables.Note id) ≡ Some (rows.Note note)) × (note.id ≡ id)
    by None is held = false_true held
    by (Some (rows.Note n)) is held = (n, is, ap (λ (name : Name). name.id) (named (name_in tables.Note id) (rows.Note n) is))
    by (Some (rows.Card x)) is held = no_row tables.Note (rows.Card x) id (named (name_in tables.Note id) (rows.Card x) is) refl refl
    by (Some (rows.Review x)) is held = no_row tables.Note (rows.Review x) id (named (name_in tables.Note id) (rows.Review x) is) refl refl
    by (Some (rows.NoteType x)) is held = no_row tables.Note (rows.NoteType x) id (named (name_in tables.Note id) (rows.NoteType x) is) refl refl
    by (Some (rows.Deck x)) is held = no_row tables.Note (rows.Deck x) id (named (name_in tables.Note id) (rows.Deck x) is) refl refl
    by (Some (rows.Options x)) is held = no_row tables.Note (rows.Options x) id (named (name_in tables.Note id) (rows.Options x) is) refl refl
    by (Some (rows.Grave g)) is held = no_grave tables.Note g.kind g.oid id refl refl refl (named (name_in tables.Note id) (rows.Grave g) is) refl

-- ---- rows that are taken out
-- the rows without those that meet a test
abbrev pub swept : (Row → Bool) → RowsByName → RowsByName
swept gone at name = option_and_then (λ (row : Row). if gone row then None else Some row) (at name)

pub kept_was : (gone : Row → Bool) (x : Option Row) (row : Row) → option_and_then (λ (r : Row). if gone r then None else Some r) x ≡ Some row → (x ≡ Some row) × (gone row ≡ false)
kept_was gone None row is = none_held is
kept_was gone (Some r) row is =
    elim (gone r) as (λ b. gone r ≡ b → cond b None (Some r) ≡ Some row → (◌≡◌ {A = Option Row} (Some r) (Some row)) × (gone row ≡ false)) [
      | true ↦ λ _ is. none_held is
      | false ↦ λ stays is. (is, subst (λ (q : Row). gone q ≡ false) (same_Some r row is) stays)
    ] refl is

pub kept_is : (gone : Row → Bool) (x : Option Row) (row : Row) → x ≡ Some row → gone row ≡ false → option_and_then (λ (r : Row). if gone r then None else Some r) x ≡ Some row
kept_is gone x row is stays = ap (option_and_then (λ (r : Row). if gone r then None else Some r)) is ∙ ap (λ (b : Bool). if b then None else Some row) stays

-- a test that leaves types, with each card its note, and with each note one of its cards
pub record SweepsSoundly (gone : Row → Bool) (at : RowsByName) : Type 0 where
  pub types : (row : Row) → is_in tables.NoteType (name_of row) ≡ true → gone row ≡ false
  pub notes : (card : Card) (note : Note) → at (name_in tables.Card card.id) ≡ Some (rows.Card card) → gone (rows.Card card) ≡ false → at (name_in tables.Note card.nid) ≡ Some (rows.Note note) → note.id ≡ card.nid
      → gone (rows.Note note) ≡ false
  pub cards : (note : Note) → at (name_in tables.Note note.id) ≡ Some (rows.Note note) → gone (rows.Note note) ≡ false
      → (card : Card) × (at (name_in tables.Card card.id) ≡ Some (rows.Card card)) × (card.nid ≡ note.id) × (gone (rows.Card card) ≡ false)

pub swept_sound : (at : RowsByName) (gone : Row → Bool) → AreNamed at → SweepsSoundly gone at → IsSoundInRange at → IsSoundInRange (swept gone at)
swept_sound at gone named sweeps whole = record {
  sound = record {
    card_note = λ card is.
        let was = kept_was gone (at (name_in tables.Card card.id)) (rows.Card card) is in
        let note = note_there at card.nid named (whole.sound.card_note card was.0) in
        ap is_some (kept_is gone (at (name_in tables.Note card.nid)) (rows.Note note.0) note.1 (sweeps.notes card note.0 was.0 was.1 note.1 note.2));
    note_card = λ note is.
        let was = kept_was gone (at (name_in tables.Note note.id)) (rows.Note note) is in
        let card = sweeps.cards note was.0 was.1 in
        (card.0, kept_is gone (at (name_in tables.Card card.0.id)) (rows.Card card.0) card.1 card.3, card.2);
    note_type = λ note is.
        let was = kept_was gone (at (name_in tables.Note note.id)) (rows.Note note) is in
        type_kept note.mid (at (name_in tables.NoteType note.mid)) refl (whole.sound.note_type note was.0);
    template = λ card note type is_card is_note is_type standard.
        whole.sound.template card note type (kept_was gone (at (name_in tables.Card card.id)) (rows.Card card) is_card).0 (kept_was gone (at (name_in tables.Note card.nid)) (rows.Note note) is_note).0
        (kept_was gone (at (name_in tables.NoteType note.mid)) (rows.NoteType type) is_type).0 standard;
  };
  templates = λ id type is standard. whole.templates id type (kept_was gone (at (name_in tables.NoteType id)) (rows.NoteType type) is).0 standard;
  ids = λ id note is. whole.ids id note (kept_was gone (at (name_in tables.Note id)) (rows.Note note) is).0;
}
  where
    type_kept : (id : ℤ) (x : Option Row) → at (name_in tables.NoteType id) ≡ x → is_some x ≡ true → is_some (swept gone at (name_in tables.NoteType id)) ≡ true
    type_kept id None is held = false_true held
    type_kept id (Some row) is held =
        ap is_some (kept_is gone (at (name_in tables.NoteType id)) row is (sweeps.types row (ap (is_in tables.NoteType) (named (name_in tables.NoteType id) row is))))

-- ---- equal rows
pub same_note : (a b : Note) → ◌≡◌ {A = Option Row} (Some (rows.Note a)) (Some (rows.Note b)) → a ≡ b
same_note a b is = same_Some a b (ap (option_and_then as_note) is)

pub same_card : (a b : Card) → ◌≡◌ {A = Option Row} (Some (rows.Card a)) (Some (rows.Card b)) → a ≡ b
same_card a b is = same_Some a b (ap (option_and_then as_card) is)

pub same_type : (a b : NoteType) → ◌≡◌ {A = Option Row} (Some (rows.NoteType a)) (Some (rows.NoteType b)) → a ≡ b
same_type a b is = same_Some a b (ap (option_and_then as_note_type) is)

-- ---- a row that is put
-- under a name stands the row that was put, or what stood there
pub put_cases : (row : Row) (edit : Edit) (name : Name) → ((name ≡ name_of row) × ((with_row row edit).rows name ≡ Some row)) ⊎ ((eq_by_cmp name_cmp name (name_of row) ≡ false) × ((with_row row edit).rows name ≡ edit.rows name))
put_cases row edit name =
    elim (eq_by_cmp name_cmp name (name_of row)) as (λ b. eq_by_cmp name_cmp name (name_of row) ≡ b
    → ((name ≡ name_of row) × (cond b (Some row) (edit.rows name) ≡ Some row)) ⊎ ((b ≡ false) × (cond b (Some row) (edit.rows name) ≡ edit.rows name))) [
      | true ↦ λ tied. inl (same_of_tied name (name_of row) tied, refl)
      | false ↦ λ _. inr (refl, refl)
    ] refl

-- under its own name stands the row that was put
pub put_there : (row : Row) (edit : Edit) → (with_row row edit).rows (name_of row) ≡ Some row
put_there row edit = ap (λ (b : Bool). if b then Some row else edit.rows (name_of row)) (ap is_eq (tied_itself names_total (name_of row)))

-- ---- soundness without the cards of notes
-- each card has its note, each note its type, and each card of a note of a standard type its template
pub record IsNearlySound (at : RowsByName) : Type 0 where
  pub card_note : (card : Card) → at (name_in tables.Card card.id) ≡ Some (rows.Card card) → is_some (at (name_in tables.Note card.nid)) ≡ true
  pub note_type : (note : Note) → at (name_in tables.Note note.id) ≡ Some (rows.Note note) → is_some (at (name_in tables.NoteType note.mid)) ≡ true
  pub template : (card : Card) (note : Note) (type : NoteType) → at (name_in tables.Card card.id) ≡ Some (rows.Card card) → at (name_in tables.Note card.nid) ≡ Some (rows.Note note)
      → at (name_in tables.NoteType note.mid) ≡ Some (rows.NoteType type) → type.cloze ≡ false → card.ord <ℤ pos (length type.templates)

-- a card of the note of this id stands there
abbrev pub HasCard : RowsByName → ℤ → Type 0
HasCard at note = (card : Card) × (at (name_in tables.Card card.id) ≡ Some (rows.Card card)) × (card.nid ≡ note)

pub nearly_of : (at : RowsByName) → IsSound at → IsNearlySound at
nearly_of at sound = record { card_note = sound.card_note; note_type = sound.note_type; template = sound.template }

pub sound_of : (at : RowsByName) → IsNearlySound at → ((note : Note) → at (name_in tables.Note note.id) ≡ Some (rows.Note note) → HasCard at note.id) → IsSound at
sound_of at nearly cards = record { card_note = nearly.card_note; note_card = cards; note_type = nearly.note_type; template = nearly.template }

-- ---- a note that is new
module _ (edit : Edit) (note : Note) (sound : IsSound edit.rows) (none : edit.rows (name_in tables.Note note.id) ≡ None) (typed : is_some (edit.rows (name_in tables.NoteType note.mid)) ≡ true) where
  abbrev with_note : RowsByName
  with_note = (with_row (rows.Note note) edit).rows

  held_with : (id : ℤ) → is_some (edit.rows (name_in tables.Note id)) ≡ true → is_some (with_note (name_in tables.Note id)) ≡ true
  held_with id held = by (put_cases (rows.Note note) edit (name_in tables.Note id))
    where
      by : ((name_in tables.Note id ≡ name_of (rows.Note note)) × (with_note (name_in tables.Note id) ≡ Some (rows.Note note)))
          ⊎ ((eq_by_cmp name_cmp (name_in tables.Note id) (name_of (rows.Note note)) ≡ false) × (with_note (name_in tables.Note id) ≡ edit.rows (name_in tables.Note id)))
          → is_some (with_note (name_in tables.Note id)) ≡ true
      by (inl put) = ap is_some put.1
      by (inr was) = ap is_some was.1 ∙ held

  pub new_note_nearly : IsNearlySound with_note
  new_note_nearly = record {
    card_note = λ card is. held_with card.nid (sound.card_note card is);
    note_type = λ n is. typed_by n is (put_cases (rows.Note note) edit (name_in tables.Note n.id));
    template = λ card n type is_card is_note is_type standard. placed_by card n type is_card is_note is_type standard (put_cases (rows.Note note) edit (name_in tables.Note card.nid));
  }
    where
      typed_by : (n : Note) → with_note (name_in tables.Note n.id) ≡ Some (rows.Note n)
          → ((name_in tables.Note n.id ≡ name_of (rows.Note note)) × (with_note (name_in tables.Note n.id) ≡ Some (rows.Note note)))
          ⊎ ((eq_by_cmp name_cmp (name_in tables.Note n.id) (name_of (rows.Note note)) ≡ false) × (with_note (name_in tables.Note n.id) ≡ edit.rows (name_in tables.Note n.id)))
          → is_some (edit.rows (name_in tables.NoteType n.mid)) ≡ true
      typed_by n is (inl put) = subst (λ (m : Note). is_some (edit.rows (name_in tables.NoteType m.mid)) ≡ true) (same_note note n (sym put.1 ∙ is)) typed
      typed_by n is (inr was) = sound.note_type n (sym was.1 ∙ is)

      placed_by : (card : Card) (n : Note) (type : NoteType) → edit.rows (name_in tables.Card card.id) ≡ Some (rows.Card card) → with_note (name_in tables.Note card.nid) ≡ Some (rows.Note n)
          → edit.rows (name_in tables.NoteType n.mid) ≡ Some (rows.NoteType type) → type.cloze ≡ false
          → ((name_in tables.Note card.nid ≡ name_of (rows.Note note)) × (with_note (name_in tables.Note card.nid) ≡ Some (rows.Note note)))
          ⊎ ((eq_by_cmp name_cmp (name_in tables.Note card.nid) (name_of (rows.Note note)) ≡ false) × (with_note (name_in tables.Note card.nid) ≡ edit.rows (name_in tables.Note card.nid)))
          → card.ord <ℤ pos (length type.templates)
      placed_by card n type is_card is_note is_type standard (inl put) =
          false_true (sym (ap is_some (ap edit.rows put.0 ∙ none)) ∙ sound.card_note card is_card)
      placed_by card n type is_card is_note is_type standard (inr was) = sound.template card n type is_card (sym was.1 ∙ is_note) is_type standard

  -- the ids stay over 0
  pub new_note_ids : ((id : ℤ) (n : Note) → edit.rows (name_in tables.Note id) ≡ Some (rows.Note n) → pos 0 <ℤ id) → pos 0 <ℤ note.id
      → (id : ℤ) (n : Note) → with_note (name_in tables.Note id) ≡ Some (rows.Note n) → pos 0 <ℤ id
  new_note_ids ids over id n is = by (put_cases (rows.Note note) edit (name_in tables.Note id))
    where
      by : ((name_in tables.Note id ≡ name_of (rows.Note note)) × (with_note (name_in tables.Note id) ≡ Some (rows.Note note)))
          ⊎ ((eq_by_cmp name_cmp (name_in tables.Note id) (name_of (rows.Note note)) ≡ false) × (with_note (name_in tables.Note id) ≡ edit.rows (name_in tables.Note id))) → pos 0 <ℤ id
      by (inl put) = subst (λ (i : ℤ). pos 0 <ℤ i) (sym (ap (λ (name : Name). name.id) put.0)) over
      by (inr was) = ids id n (sym was.1 ∙ is)

  -- the other notes have their cards
  pub new_note_cards : (n : Note) → with_note (name_in tables.Note n.id) ≡ Some (rows.Note n) → (n.id ≡ note.id) ⊎ HasCard with_note n.id
  new_note_cards n is = by (put_cases (rows.Note note) edit (name_in tables.Note n.id))
    where
      by : ((name_in tables.Note n.id ≡ name_of (rows.Note note)) × (with_note (name_in tables.Note n.id) ≡ Some (rows.Note note)))
          ⊎ ((eq_by_cmp name_cmp (name_in tables.Note n.id) (name_of (rows.Note note)) ≡ false) × (with_note (name_in tables.Note n.id) ≡ edit.rows (name_in tables.Note n.id)))
          → (n.id ≡ note.id) ⊎ HasCard with_note n.id
      by (inl put) = inl (ap (λ (name : Name). name.id) put.0)
      by (inr was) = inr (sound.note_card n (sym was.1 ∙ is))

-- ---- cards that are put
-- cards leave notes and types
pub cards_leave : (cards : List Card) (edit : Edit) (name : Name) → is_in tables.Card name ≡ false → (with_cards cards edit).rows name ≡ edit.rows name
cards_leave [] edit name other = refl
cards_leave (card ∷ cards) edit name other = cards_leave cards (with_row (rows.Card card) edit) name other ∙ by (put_cases (rows.Card card) edit name)
  where
    by : ((name ≡ name_of (rows.Card card)) × ((with_row (rows.Card card) edit).rows name ≡ Some (rows.Card card)))
        ⊎ ((eq_by_cmp name_cmp name (name_of (rows.Card card)) ≡ false) × ((with_row (rows.Card card) edit).rows name ≡ edit.rows name)) → (with_row (rows.Card card) edit).rows name ≡ edit.rows name
    by (inl put) = false_true (sym other ∙ ap (is_in tables.Card) put.0)
    by (inr was) = was.1

-- under a card's name stands one of the cards that were put, or what stood there
abbrev pub PutOr : (Card → Type 0) → Edit → Edit → ℤ → Type 0
PutOr P after edit id = ((card : Card) × P card × (card.id ≡ id) × (after.rows (name_in tables.Card id) ≡ Some (rows.Card card))) ⊎ (after.rows (name_in tables.Card id) ≡ edit.rows (name_in tables.Card id))

pub cards_cases : (P : Card → Type 0) (cards : List Card) (edit : Edit) (id : ℤ) → AllByRecursion P cards → PutOr P (with_cards cards edit) edit id
cards_cases P [] edit id all = inr refl
cards_cases P (card ∷ cards) edit id all = by (cards_cases P cards (with_row (rows.Card card) edit) id all.1) (put_cases (rows.Card card) edit (name_in tables.Card id))
  where
    by : PutOr P (with_cards cards (with_row (rows.Card card) edit)) (with_row (rows.Card card) edit) id
        → ((name_in tables.Card id ≡ name_of (rows.Card card)) × ((with_row (rows.Card card) edit).rows (name_in tables.Card id) ≡ Some (rows.Card card)))
        ⊎ ((eq_by_cmp name_cmp (name_in tables.Card id) (name_of (rows.Card card)) ≡ false) × ((with_row (rows.Card card) edit).rows (name_in tables.Card id) ≡ edit.rows (name_in tables.Card id)))
        → PutOr P (with_cards (card ∷ cards) edit) edit id
    by (inl later) one = inl later
    by (inr was) (inl put) = inl (card, all.0, ap (λ (name : Name). name.id) (sym put.0), was ∙ put.1)
    by (inr was) (inr apart) = inr (was ∙ apart.1)

-- of some cards of one note, one stands there
pub some_card : (card : Card) (cards : List Card) (edit : Edit) (note : ℤ) → card.nid ≡ note → AllByRecursion (λ (c : Card). c.nid ≡ note) cards → HasCard (with_cards (card ∷ cards) edit).rows note
some_card card [] edit note own all = (card, put_there (rows.Card card) edit, own)
some_card card (next ∷ cards) edit note own all = some_card next cards (with_row (rows.Card card) edit) note all.0 all.1

-- a new card for these rows: its name is free, and its note there, with a template for it if the note's type is standard
pub record FitsIn (at : RowsByName) (card : Card) : Type 0 where
  pub free : at (name_in tables.Card card.id) ≡ None
  pub note : Note
  pub held : at (name_in tables.Note card.nid) ≡ Some (rows.Note note)
  pub place : (type : NoteType) → at (name_in tables.NoteType note.mid) ≡ Some (rows.NoteType type) → type.cloze ≡ false → card.ord <ℤ pos (length type.templates)

module _ (edit : Edit) (cards : List Card) (nearly : IsNearlySound edit.rows) (fit : AllByRecursion (FitsIn edit.rows) cards) where
  abbrev with_all : RowsByName
  with_all = (with_cards cards edit).rows

  note_stays : (id : ℤ) → with_all (name_in tables.Note id) ≡ edit.rows (name_in tables.Note id)
  note_stays id = cards_leave cards edit (name_in tables.Note id) refl

  type_stays : (id : ℤ) → with_all (name_in tables.NoteType id) ≡ edit.rows (name_in tables.NoteType id)
  type_stays id = cards_leave cards edit (name_in tables.NoteType id) refl

  pub cards_nearly : IsNearlySound with_all
  cards_nearly = record {
    card_note = λ card is. noted_by card is (cards_cases (FitsIn edit.rows) cards edit card.id fit);
    note_type = λ note is. ap is_some (type_stays note.mid) ∙ nearly.note_type note (sym (note_stays note.id) ∙ is);
    template = λ card note type is_card is_note is_type standard. placed_by card note type is_card (sym (note_stays card.nid) ∙ is_note) (sym (type_stays note.mid) ∙ is_type) standard
        (cards_cases (FitsIn edit.rows) cards edit card.id fit);
  }
    where
      noted_by : (card : Card) → with_all (name_in tables.Card card.id) ≡ Some (rows.Card card) → PutOr (FitsIn edit.rows) (with_cards cards edit) edit card.id → is_some (with_all (name_in tables.Note card.nid)) ≡ true
      noted_by card is (inl put) =
          let own : put.0 ≡ card = same_card put.0 card (sym put.3 ∙ is) in
          ap is_some (note_stays card.nid) ∙ ap (λ (c : Card). is_some (edit.rows (name_in tables.Note c.nid))) (sym own) ∙ ap is_some put.1.held
      noted_by card is (inr was) = ap is_some (note_stays card.nid) ∙ nearly.card_note card (sym was ∙ is)

      placed_by : (card : Card) (note : Note) (type : NoteType) → with_all (name_in tables.Card card.id) ≡ Some (rows.Card card) → edit.rows (name_in tables.Note card.nid) ≡ Some (rows.Note note)
          → edit.rows (name_in tables.NoteType note.mid) ≡ Some (rows.NoteType type) → type.cloze ≡ false → PutOr (FitsIn edit.rows) (with_cards cards edit) edit card.id → card.ord <ℤ pos (length type.templates)
      placed_by card note type is_card is_note is_type standard (inl put) =
          let own : put.0 ≡ card = same_card put.0 card (sym put.3 ∙ is_card) in
          let one : put.1.note ≡ note = same_note put.1.note note (sym put.1.held ∙ ap (λ (c : Card). edit.rows (name_in tables.Note c.nid)) own ∙ is_note) in
          subst (λ (c : Card). c.ord <ℤ pos (length type.templates)) own (put.1.place type (ap (λ (n : Note). edit.rows (name_in tables.NoteType n.mid)) one ∙ is_type) standard)
      placed_by card note type is_card is_note is_type standard (inr was) = nearly.template card note type (sym was ∙ is_card) is_note is_type standard

  -- a card that stood there does so still
  pub card_stays : (note : ℤ) → HasCard edit.rows note → HasCard with_all note
  card_stays note own = by (cards_cases (FitsIn edit.rows) cards edit own.0.id fit)
    where
      by : PutOr (FitsIn edit.rows) (with_cards cards edit) edit own.0.id → HasCard with_all note
      by (inl put) = none_held (sym put.1.free ∙ ap (λ (id : ℤ). edit.rows (name_in tables.Card id)) put.2 ∙ own.1)
      by (inr was) = (own.0, was ∙ own.1, own.2)

-- with cards all types have their templates
pub cards_templates : (edit : Edit) (cards : List Card) → ((id : ℤ) (type : NoteType) → edit.rows (name_in tables.NoteType id) ≡ Some (rows.NoteType type) → type.cloze ≡ false → 1 ≤ length type.templates)
    → (id : ℤ) (type : NoteType) → (with_cards cards edit).rows (name_in tables.NoteType id) ≡ Some (rows.NoteType type) → type.cloze ≡ false → 1 ≤ length type.templates
cards_templates edit cards templates id type is standard = templates id type (sym (cards_leave cards edit (name_in tables.NoteType id) refl) ∙ is) standard

-- and all notes their ids
pub cards_ids : (edit : Edit) (cards : List Card) → ((id : ℤ) (note : Note) → edit.rows (name_in tables.Note id) ≡ Some (rows.Note note) → pos 0 <ℤ id)
    → (id : ℤ) (note : Note) → (with_cards cards edit).rows (name_in tables.Note id) ≡ Some (rows.Note note) → pos 0 <ℤ id
cards_ids edit cards ids id note is = ids id note (sym (cards_leave cards edit (name_in tables.Note id) refl) ∙ is)
