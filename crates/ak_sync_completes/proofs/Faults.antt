-- Collections of one content have the same faults.
use Rattle.std.specs.Option.{option_map}
use Rattle.std.specs.Prelude.{◌≡◌, ◌≤ℤ◌, ℕ, ℤ, pos, length, IsTrue, Option, Some, None}
use Rattle.std.proofs.Common.{refl, sym, ap, subst, ◌∙◌, arith}
use Rattle.std.proofs.lemmas.Option.{none-some, same_Some}
use Rattle.ak_base.proofs.SameRows.{same_is_one}
use Rattle.ak_base.specs.Rows.{with_usn}
use Rattle.ak_base.specs.declared.cards.Card.{Card}
use Rattle.ak_base.specs.declared.names.Name.{Name}
use Rattle.ak_base.specs.declared.names.Table.TheVariants as tables
use Rattle.ak_base.specs.declared.note_types.NoteType.{NoteType}
use Rattle.ak_base.specs.declared.notes.Note.{Note}
use Rattle.ak_base.specs.declared.rows.Row.{Row}
use Rattle.ak_base.specs.declared.rows.Row.TheVariants as rows
use Rattle.ak_keep.specs.Lookups.{as_card, as_note, as_note_type}
use Rattle.ak_keep.specs.Graves.{RowsByName}
use Rattle.ak_merge.specs.Holdings.{name_in, same_held}
use Rattle.ak_merge.specs.Soundness.{IsFault, IsLeastFault}
use Rattle.ak_merge.specs.declared.checks.CheckFault.{CheckFault}
use Rattle.ak_merge.specs.declared.checks.CheckFault.TheVariants as faults

-- ---- rows without their numbers
-- a row with the number 0
abbrev bare_row : Row → Row
bare_row row = with_usn row (pos 0)

-- the rows under names, each with the number 0
abbrev bare : RowsByName → RowsByName
bare at name = option_map bare_row (at name)

held_bare : (x y : Option Row) → IsTrue (same_held x y) → option_map bare_row x ≡ option_map bare_row y
held_bare None None same = refl
held_bare None (Some y) same = grind (arith, same)
held_bare (Some x) None same = grind (arith, same)
held_bare (Some x) (Some y) same = ap (λ (row : Row). Some row) (same_is_one x y (pos 0) same)

-- two sides of one content are one without them
one_bare : (a b : RowsByName) → ((name : Name) → IsTrue (same_held (a name) (b name))) → bare a ≡ bare b
one_bare a b same = λ i. λ name. held_bare (a name) (b name) (same name) i

-- ---- what stands there with its number
wrong_kind : {A X : Type 0} (x : A) → None ≡ Some x → X
wrong_kind x is = absurd (none-some x is)

card_there : (row : Row) (card : Card) → as_card (bare_row row) ≡ Some card → (own : Card) × (row ≡ rows.Card own) × (record own { usn = pos 0 } ≡ card)
card_there (rows.Card c) card is = (c, refl, same_Some (record c { usn = pos 0 }) card is)
card_there (rows.Note n) card is = wrong_kind card is
card_there (rows.Review r) card is = wrong_kind card is
card_there (rows.NoteType t) card is = wrong_kind card is
card_there (rows.Deck d) card is = wrong_kind card is
card_there (rows.Options o) card is = wrong_kind card is
card_there (rows.Grave g) card is = wrong_kind card is

note_there : (row : Row) (note : Note) → as_note (bare_row row) ≡ Some note → (own : Note) × (row ≡ rows.Note own) × (record own { usn = pos 0 } ≡ note)
note_there (rows.Note n) note is = (n, refl, same_Some (record n { usn = pos 0 }) note is)
note_there (rows.Card c) note is = wrong_kind note is
note_there (rows.Review r) note is = wrong_kind note is
note_there (rows.NoteType t) note is = wrong_kind note is
note_there (rows.Deck d) note is = wrong_kind note is
note_there (rows.Options o) note is = wrong_kind note is
note_there (rows.Grave g) note is = wrong_kind note is

type_there : (row : Row) (type : NoteType) → as_note_type (bare_row row) ≡ Some type
    → (own : NoteType) × (row ≡ rows.NoteType own) × (record own { usn = pos 0 } ≡ type)
type_there (rows.NoteType t) type is = (t, refl, same_Some (record t { usn = pos 0 }) type is)
type_there (rows.Card c) type is = wrong_kind type is
type_there (rows.Note n) type is = wrong_kind type is
type_there (rows.Review r) type is = wrong_kind type is
type_there (rows.Deck d) type is = wrong_kind type is
type_there (rows.Options o) type is = wrong_kind type is
type_there (rows.Grave g) type is = wrong_kind type is

some_there : (o : Option Row) (row : Row) → option_map bare_row o ≡ Some row → (own : Row) × (o ≡ Some own) × (bare_row own ≡ row)
some_there None row is = wrong_kind row is
some_there (Some own) row is = (own, refl, same_Some (bare_row own) row is)

none_there : (o : Option Row) → option_map bare_row o ≡ None → o ≡ None
none_there None is = refl
none_there (Some row) is = absurd (none-some (bare_row row) (sym is))

module _ (at : RowsByName) where
  card_under : (name : Name) (card : Card) → bare at name ≡ Some (rows.Card card) → (own : Card) × (at name ≡ Some (rows.Card own)) × (record own { usn = pos 0 } ≡ card)
  card_under name card is =
      let found = some_there (at name) (rows.Card card) is in
      let own = card_there found.0 card (ap as_card found.2) in
      (own.0, found.1 ∙ ap (λ (row : Row). Some row) own.1, own.2)

  note_under : (name : Name) (note : Note) → bare at name ≡ Some (rows.Note note) → (own : Note) × (at name ≡ Some (rows.Note own)) × (record own { usn = pos 0 } ≡ note)
  note_under name note is =
      let found = some_there (at name) (rows.Note note) is in
      let own = note_there found.0 note (ap as_note found.2) in
      (own.0, found.1 ∙ ap (λ (row : Row). Some row) own.1, own.2)

  type_under : (name : Name) (type : NoteType) → bare at name ≡ Some (rows.NoteType type)
      → (own : NoteType) × (at name ≡ Some (rows.NoteType own)) × (record own { usn = pos 0 } ≡ type)
  type_under name type is =
      let found = some_there (at name) (rows.NoteType type) is in
      let own = type_there found.0 type (ap as_note_type found.2) in
      (own.0, found.1 ∙ ap (λ (row : Row). Some row) own.1, own.2)

  -- ---- faults
  -- a fault of the rows is one of them without their numbers
  fault_of_bare : (fault : CheckFault) → IsFault at fault → IsFault (bare at) fault
  fault_of_bare (faults.CardNoNote id) (card, stands, none) =
      (record card { usn = pos 0 }, ap (option_map bare_row) stands, ap (option_map bare_row) none)
  fault_of_bare (faults.NoteNoCard id) (note, stands, none) = (
    record note { usn = pos 0 },
    ap (option_map bare_row) stands,
    λ card is.
        let own = card_under (name_in tables.Card card.id) card is in
        λ same.
        none own.0 (ap at (ap (λ (c : Card). name_in tables.Card c.id) own.2) ∙ own.1) (ap (λ (c : Card). c.nid) own.2 ∙ same),
  )
  fault_of_bare (faults.NoteNoType id) (note, stands, none) =
      (record note { usn = pos 0 }, ap (option_map bare_row) stands, ap (option_map bare_row) none)
  fault_of_bare (faults.CardNoTemplate id) (card, note, type, is_card, is_note, is_type, standard, place) = (
    record card { usn = pos 0 },
    record note { usn = pos 0 },
    record type { usn = pos 0 },
    ap (option_map bare_row) is_card,
    ap (option_map bare_row) is_note,
    ap (option_map bare_row) is_type,
    standard,
    place,
  )

  -- and the other way round
  fault_from_bare : (fault : CheckFault) → IsFault (bare at) fault → IsFault at fault
  fault_from_bare (faults.CardNoNote id) (card, stands, none) =
      let own = card_under (name_in tables.Card id) card stands in
      (own.0, own.1, ap (λ (c : Card). at (name_in tables.Note c.nid)) own.2 ∙ none_there (at (name_in tables.Note card.nid)) none)
  fault_from_bare (faults.NoteNoCard id) (note, stands, none) =
      let own = note_under (name_in tables.Note id) note stands in
      (own.0, own.1, λ card is. none (record card { usn = pos 0 }) (ap (option_map bare_row) is))
  fault_from_bare (faults.NoteNoType id) (note, stands, none) =
      let own = note_under (name_in tables.Note id) note stands in
      (own.0, own.1, ap (λ (n : Note). at (name_in tables.NoteType n.mid)) own.2 ∙ none_there (at (name_in tables.NoteType note.mid)) none)
  fault_from_bare (faults.CardNoTemplate id) (card, note, type, is_card, is_note, is_type, standard, place) =
      let own_card = card_under (name_in tables.Card id) card is_card in
      let own_note = note_under (name_in tables.Note card.nid) note is_note in
      let own_type = type_under (name_in tables.NoteType note.mid) type is_type in (
        own_card.0,
        own_note.0,
        own_type.0,
        own_card.1,
        ap (λ (c : Card). at (name_in tables.Note c.nid)) own_card.2 ∙ own_note.1,
        ap (λ (n : Note). at (name_in tables.NoteType n.mid)) own_note.2 ∙ own_type.1,
        ap (λ (t : NoteType). t.cloze) own_type.2 ∙ standard,
        subst (λ (ord : ℤ). pos (length own_type.0.templates) ≤ℤ ord) (sym (ap (λ (c : Card). c.ord) own_card.2))
            (subst (λ (count : ℕ). pos count ≤ℤ card.ord) (sym (ap (λ (t : NoteType). length t.templates) own_type.2)) place),
      )

-- ---- the first fault
module _ (a b : RowsByName) (same : (name : Name) → IsTrue (same_held (a name) (b name))) where
  there : (fault : CheckFault) → IsFault a fault → IsFault b fault
  there fault is =
      fault_from_bare b fault (subst (λ (at : RowsByName). IsFault at fault) (one_bare a b same) (fault_of_bare a fault is))

  back : (fault : CheckFault) → IsFault b fault → IsFault a fault
  back fault is =
      fault_from_bare a fault (subst (λ (at : RowsByName). IsFault at fault) (sym (one_bare a b same)) (fault_of_bare b fault is))

  -- the first fault of rows is that of all rows of their content
  pub first_by_content : (fault : CheckFault) → IsLeastFault a fault → IsLeastFault b fault
  first_by_content fault least = record {
    holds = there fault least.holds;
    below = λ other before is. least.below other before (back other is);
  }
