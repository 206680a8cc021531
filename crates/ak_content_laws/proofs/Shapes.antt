-- What soundness reads of a row. Collections whose rows are alike in it are sound together.
use Rattle.std.specs.Prelude.{◌≡◌, ◌≤◌, ℕ, ℤ, pos, ◌<ℤ◌, Bool, true, false, length, Option, Some, None, is_some}
use Rattle.std.proofs.Common.{refl, sym, ap, subst, ◌∙◌}
use Rattle.std.proofs.lemmas.Option.{same_Some}
use Rattle.ak_base.specs.declared.cards.Card.{Card}
use Rattle.ak_base.specs.declared.names.Name.{Name}
use Rattle.ak_base.specs.declared.names.Table.TheVariants as tables
use Rattle.ak_base.specs.declared.note_types.NoteType.{NoteType}
use Rattle.ak_base.specs.declared.notes.Note.{Note}
use Rattle.ak_base.specs.declared.rows.Row.{Row}
use Rattle.ak_base.specs.declared.rows.Row.TheVariants as rows
use Rattle.ak_keep.specs.Graves.{RowsByName}
use Rattle.ak_merge.proofs.EditFacts.{none_held}
use Rattle.ak_merge.specs.Holdings.{name_in}
use Rattle.ak_merge.specs.Soundness.{IsSound}
use Rattle.ak_content_laws.specs.SoundCalls.{IsSoundInRange}

-- of a note its id and its type, of a card its id, its note and its ord, of a type its kind and how many templates it has
pub record Shape : Type 0 where
  pub held : Bool
  pub note : Option (ℤ × ℤ)
  pub card : Option (ℤ × ℤ × ℤ)
  pub type : Option (Bool × ℕ)

-- of any other row that it is there
abbrev pub other_shape : Shape
other_shape = record { held = true; note = None; card = None; type = None }

abbrev pub shape : Option Row → Shape
shape None = record { held = false; note = None; card = None; type = None }
shape (Some (rows.Note n)) = record { held = true; note = Some (n.id, n.mid); card = None; type = None }
shape (Some (rows.Card c)) = record { held = true; note = None; card = Some (c.id, c.nid, c.ord); type = None }
shape (Some (rows.NoteType t)) = record { held = true; note = None; card = None; type = Some (t.cloze, length t.templates) }
shape (Some (rows.Review r)) = other_shape
shape (Some (rows.Deck d)) = other_shape
shape (Some (rows.Options o)) = other_shape
shape (Some (rows.Grave g)) = other_shape

-- two collections have rows of one shape under each name that soundness asks about
pub record AreAlike (a b : RowsByName) : Type 0 where
  pub card : (id : ℤ) → shape (a (name_in tables.Card id)) ≡ shape (b (name_in tables.Card id))
  pub note : (id : ℤ) → shape (a (name_in tables.Note id)) ≡ shape (b (name_in tables.Note id))
  pub type : (id : ℤ) → shape (a (name_in tables.NoteType id)) ≡ shape (b (name_in tables.NoteType id))

pub alike_turned : (a b : RowsByName) → AreAlike a b → AreAlike b a
alike_turned a b like = record { card = λ id. sym (like.card id); note = λ id. sym (like.note id); type = λ id. sym (like.type id) }

pub alike_through : (a b c : RowsByName) → AreAlike a b → AreAlike b c → AreAlike a c
alike_through a b c one other = record {
  card = λ id. one.card id ∙ other.card id;
  note = λ id. one.note id ∙ other.note id;
  type = λ id. one.type id ∙ other.type id;
}

-- rows of one shape under every name
pub all_alike : (a b : RowsByName) → ((name : Name) → shape (a name) ≡ shape (b name)) → AreAlike a b
all_alike a b same = record {
  card = λ id. same (name_in tables.Card id);
  note = λ id. same (name_in tables.Note id);
  type = λ id. same (name_in tables.NoteType id);
}

-- ---- what a shape tells
pub held_shape : (x : Option Row) → (shape x).held ≡ is_some x
held_shape None = refl
held_shape (Some (rows.Note n)) = refl
held_shape (Some (rows.Card c)) = refl
held_shape (Some (rows.NoteType t)) = refl
held_shape (Some (rows.Review r)) = refl
held_shape (Some (rows.Deck d)) = refl
held_shape (Some (rows.Options o)) = refl
held_shape (Some (rows.Grave g)) = refl

pub held_alike : (x y : Option Row) → shape x ≡ shape y → is_some x ≡ is_some y
held_alike x y same = sym (held_shape x) ∙ ap (λ (s : Shape). s.held) same ∙ held_shape y

pub card_alike : (x : Option Row) (card : Card) → shape x ≡ shape (Some (rows.Card card)) → (own : Card) × (x ≡ Some (rows.Card own)) × (own.id ≡ card.id) × (own.nid ≡ card.nid) × (own.ord ≡ card.ord)
card_alike (Some (rows.Card c)) card same =
    let parts = same_Some {A = ℤ × ℤ × ℤ} (c.id, c.nid, c.ord) (card.id, card.nid, card.ord) (ap (λ (s : Shape). s.card) same) in
    (c, refl, ap (λ (p : ℤ × ℤ × ℤ). p.0) parts, ap (λ (p : ℤ × ℤ × ℤ). p.1) parts, ap (λ (p : ℤ × ℤ × ℤ). p.2) parts)
card_alike None card same = none_held (ap (λ (s : Shape). s.card) same)
card_alike (Some (rows.Note n)) card same = none_held (ap (λ (s : Shape). s.card) same)
card_alike (Some (rows.NoteType t)) card same = none_held (ap (λ (s : Shape). s.card) same)
card_alike (Some (rows.Review r)) card same = none_held (ap (λ (s : Shape). s.card) same)
card_alike (Some (rows.Deck d)) card same = none_held (ap (λ (s : Shape). s.card) same)
card_alike (Some (rows.Options o)) card same = none_held (ap (λ (s : Shape). s.card) same)
card_alike (Some (rows.Grave g)) card same = none_held (ap (λ (s : Shape). s.card) same)

pub note_alike : (x : Option Row) (note : Note) → shape x ≡ shape (Some (rows.Note note)) → (own : Note) × (x ≡ Some (rows.Note own)) × (own.id ≡ note.id) × (own.mid ≡ note.mid)
note_alike (Some (rows.Note n)) note same =
    let parts = same_Some {A = ℤ × ℤ} (n.id, n.mid) (note.id, note.mid) (ap (λ (s : Shape). s.note) same) in
    (n, refl, ap (λ (p : ℤ × ℤ). p.0) parts, ap (λ (p : ℤ × ℤ). p.1) parts)
note_alike None note same = none_held (ap (λ (s : Shape). s.note) same)
note_alike (Some (rows.Card c)) note same = none_held (ap (λ (s : Shape). s.note) same)
note_alike (Some (rows.NoteType t)) note same = none_held (ap (λ (s : Shape). s.note) same)
note_alike (Some (rows.Review r)) note same = none_held (ap (λ (s : Shape). s.note) same)
note_alike (Some (rows.Deck d)) note same = none_held (ap (λ (s : Shape). s.note) same)
note_alike (Some (rows.Options o)) note same = none_held (ap (λ (s : Shape). s.note) same)
note_alike (Some (rows.Grave g)) note same = none_held (ap (λ (s : Shape). s.note) same)

pub type_alike : (x : Option Row) (type : NoteType) → shape x ≡ shape (Some (rows.NoteType type))
    → (own : NoteType) × (x ≡ Some (rows.NoteType own)) × (own.cloze ≡ type.cloze) × (length own.templates ≡ length type.templates)
type_alike (Some (rows.NoteType t)) type same =
    let parts = same_Some {A = Bool × ℕ} (t.cloze, length t.templates) (type.cloze, length type.templates) (ap (λ (s : Shape). s.type) same) in
    (t, refl, ap (λ (p : Bool × ℕ). p.0) parts, ap (λ (p : Bool × ℕ). p.1) parts)
type_alike None type same = none_held (ap (λ (s : Shape). s.type) same)
type_alike (Some (rows.Note n)) type same = none_held (ap (λ (s : Shape). s.type) same)
type_alike (Some (rows.Card c)) type same = none_held (ap (λ (s : Shape). s.type) same)
type_alike (Some (rows.Review r)) type same = none_held (ap (λ (s : Shape). s.type) same)
type_alike (Some (rows.Deck d)) type same = none_held (ap (λ (s : Shape). s.type) same)
type_alike (Some (rows.Options o)) type same = none_held (ap (λ (s : Shape). s.type) same)
type_alike (Some (rows.Grave g)) type same = none_held (ap (λ (s : Shape). s.type) same)

-- ---- collections that are alike are sound together
pub sound_alike : (a b : RowsByName) → AreAlike a b → IsSound a → IsSound b
sound_alike a b like sound = record {
  card_note = λ card is.
      let own = card_alike (a (name_in tables.Card card.id)) card (like.card card.id ∙ ap shape is) in
      let there : is_some (a (name_in tables.Note own.0.nid)) ≡ true = sound.card_note own.0 (ap (λ (id : ℤ). a (name_in tables.Card id)) own.2 ∙ own.1) in
      sym (held_alike (a (name_in tables.Note card.nid)) (b (name_in tables.Note card.nid)) (like.note card.nid))
      ∙ ap (λ (id : ℤ). is_some (a (name_in tables.Note id))) (sym own.3) ∙ there;
  note_card = λ note is.
      let own = note_alike (a (name_in tables.Note note.id)) note (like.note note.id ∙ ap shape is) in
      let found = sound.note_card own.0 (ap (λ (id : ℤ). a (name_in tables.Note id)) own.2 ∙ own.1) in
      let back = card_alike (b (name_in tables.Card found.0.id)) found.0 (sym (like.card found.0.id) ∙ ap shape found.1) in
      (back.0, ap (λ (id : ℤ). b (name_in tables.Card id)) back.2 ∙ back.1, back.3 ∙ found.2 ∙ own.2);
  note_type = λ note is.
      let own = note_alike (a (name_in tables.Note note.id)) note (like.note note.id ∙ ap shape is) in
      let there : is_some (a (name_in tables.NoteType own.0.mid)) ≡ true = sound.note_type own.0 (ap (λ (id : ℤ). a (name_in tables.Note id)) own.2 ∙ own.1) in
      sym (held_alike (a (name_in tables.NoteType note.mid)) (b (name_in tables.NoteType note.mid)) (like.type note.mid))
      ∙ ap (λ (id : ℤ). is_some (a (name_in tables.NoteType id))) (sym own.3) ∙ there;
  template = λ card note type is_card is_note is_type standard.
      let own = card_alike (a (name_in tables.Card card.id)) card (like.card card.id ∙ ap shape is_card) in
      let own_note = note_alike (a (name_in tables.Note card.nid)) note (like.note card.nid ∙ ap shape is_note) in
      let own_type = type_alike (a (name_in tables.NoteType note.mid)) type (like.type note.mid ∙ ap shape is_type) in
      let place : own.0.ord <ℤ pos (length own_type.0.templates) = sound.template own.0 own_note.0 own_type.0 (ap (λ (id : ℤ). a (name_in tables.Card id)) own.2 ∙ own.1)
      (ap (λ (id : ℤ). a (name_in tables.Note id)) own.3 ∙ own_note.1) (ap (λ (id : ℤ). a (name_in tables.NoteType id)) own_note.3 ∙ own_type.1) (own_type.2 ∙ standard) in
      subst (λ (ord : ℤ). ord <ℤ pos (length type.templates)) own.4 (subst (λ (count : ℕ). own.0.ord <ℤ pos count) own_type.3 place);
}

-- with the ranges too
pub whole_alike : (a b : RowsByName) → AreAlike a b → IsSoundInRange a → IsSoundInRange b
whole_alike a b like whole = record {
  sound = sound_alike a b like whole.sound;
  templates = λ id type is standard.
      let own = type_alike (a (name_in tables.NoteType id)) type (like.type id ∙ ap shape is) in
      subst (λ (count : ℕ). 1 ≤ count) own.3 (whole.templates id own.0 own.1 (own.2 ∙ standard));
  ids = λ id note is. let own = note_alike (a (name_in tables.Note id)) note (like.note id ∙ ap shape is) in whole.ids id own.0 own.1;
}
