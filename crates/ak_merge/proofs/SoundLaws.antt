-- The basic check finds no fault exactly where a collection is sound.
use Rattle.ak_keep.specs.Graves.{RowsByName}
use Rattle.ak_merge.specs.Holdings.{name_in, AreNamed, AreChecked}
use Rattle.ak_keep.proofs.RowsByName.{all_gets, entries_found}
use Rattle.std.specs.Prelude.{◌≡◌, ◌↔◌, ℤ, pos, Bool, true, false, cond, not, ◌&&◌, ◌<ℤ◌, int_lt, List, [], ◌∷◌, map, filter, find, length, Option, Some, None}
use Rattle.ak_base.proofs.Optional.{both_none, none_mapped}
use Rattle.std.proofs.Common.{refl, sym, ap, ◌∙◌, arith}
use Rattle.std.proofs.lemmas.Int.{ints}
use Rattle.std.specs.Cmp.{signed_Decides}
use Rattle.std.specs.FinMap.{get, entries}
use Rattle.std.specs.List.{AllByRecursion}
use Rattle.std.specs.Option.{option_and_then, option_map}
use Rattle.ak_base.specs.Rows.{name_of}
use Rattle.ak_base.specs.declared.cards.Card.{Card}
use Rattle.ak_base.specs.declared.names.Name.{Name}
use Rattle.ak_base.specs.declared.names.Table.{Table}
use Rattle.ak_base.specs.declared.names.Table.TheVariants as tables
use Rattle.ak_base.specs.declared.note_types.NoteType.{NoteType}
use Rattle.ak_base.specs.declared.notes.Note.{Note}
use Rattle.ak_base.specs.declared.rows.Row.{Row}
use Rattle.ak_base.specs.declared.rows.Row.TheVariants as rows
use Rattle.ak_keep.specs.Collections.{Rows, is_card_of, cards_among, cards_of, rows_past}
use Rattle.ak_merge.proofs.Finding.{not_both, none_in_table, table_has_none, id_over_zero}
use Rattle.ak_merge.specs.Soundness.{IsSound, type_name, bad_card, bad_note, first_bad, first_fault, first_of, is_bad, is_empty, lacks_template, table_of, type_under}
use Rattle.ak_merge.specs.declared.checks.CheckFault.{CheckFault}
use Rattle.ak_merge.specs.declared.checks.CheckFault.TheVariants as faults
use Rattle.ak_merge.specs.declared.checks.Part.{Part}
use Rattle.ak_merge.specs.declared.checks.Part.TheVariants as parts

-- ---- truth values
is_so : {b : Bool} → not b ≡ false → b ≡ true
is_so {b = true} is = refl
is_so {b = false} is = sym is

-- ---- the cards of a note
abbrev pub HasCard : Rows → ℤ → Type 0
HasCard held note = (card : Card) × (name : Name) × (get held name ≡ Some (rows.Card card)) × (card.nid ≡ note)

-- a row that is a card of the note
card_of_row : (held : Rows) (note : ℤ) (name : Name) (row : Row) → get held name ≡ Some row → is_card_of note row ≡ true → HasCard held note
card_of_row held note name (rows.Note n) has is = absurd (not_both is refl)
card_of_row held note name (rows.Card c) has is = (c, name, has, (signed_Decides c.nid note).0 is)
card_of_row held note name (rows.Review r) has is = absurd (not_both is refl)
card_of_row held note name (rows.NoteType t) has is = absurd (not_both is refl)
card_of_row held note name (rows.Deck d) has is = absurd (not_both is refl)
card_of_row held note name (rows.Options o) has is = absurd (not_both is refl)
card_of_row held note name (rows.Grave g) has is = absurd (not_both is refl)

pub card_among : (held : Rows) (note : ℤ) (es : List (Name × Row)) → AllByRecursion (λ entry. get held entry.0 ≡ Some entry.1) es → is_empty (cards_among note es) ≡ false → HasCard held note
card_among held note [] found some = absurd (not_both refl some)
card_among held note (e ∷ es) found some =
    let more = filter (λ (entry : Name × Row). is_card_of note entry.1) es in
    elim (is_card_of note e.1) as (λ b. is_card_of note e.1 ≡ b → is_empty (map (λ (entry : Name × Row). entry.0.id) (cond b (e ∷ more) more)) ≡ false → HasCard held note) [
      | true ↦ λ is _. card_of_row held note e.0 e.1 found.0 is
      | false ↦ λ _ some. card_among held note es found.1 some
    ] refl some

none_of_note : (note : ℤ) (es : List (Name × Row)) → is_empty (cards_among note es) ≡ true → AllByRecursion (λ (entry : Name × Row). is_card_of note entry.1 ≡ false) es
none_of_note note [] none = tt
none_of_note note (e ∷ es) none =
    let more = filter (λ (entry : Name × Row). is_card_of note entry.1) es in
    elim (is_card_of note e.1) as (λ b. is_card_of note e.1 ≡ b → is_empty (map (λ (entry : Name × Row). entry.0.id) (cond b (e ∷ more) more)) ≡ true
    → (is_card_of note e.1 ≡ false) × AllByRecursion (λ (entry : Name × Row). is_card_of note entry.1 ≡ false) es) [
      | true ↦ λ _ none. absurd (not_both none refl)
      | false ↦ λ is none. (is, none_of_note note es none)
    ] refl none

-- a note whose card stands has some
pub has_some : (held : Rows) (note : ℤ) (name : Name) (card : Card) → get held name ≡ Some (rows.Card card) → card.nid ≡ note → is_empty (cards_of note held) ≡ false
has_some held note name card has of_it =
    elim (is_empty (cards_of note held)) as (λ b. is_empty (cards_of note held) ≡ b → b ≡ false) [
      | true ↦ λ none.
          let other : is_card_of note (rows.Card card) ≡ false = all_gets (λ entry. is_card_of note entry.1 ≡ false) held name (rows.Card card) (none_of_note note (entries held) none) has in
          absurd (not_both ((signed_Decides card.nid note).1 of_it) other)
      | false ↦ λ _. refl
    ] refl

-- ---- a part of the check that finds nothing bad
-- no row that stands is bad
abbrev AreGood : Part → Rows → Type 0
AreGood part held = (name : Name) (row : Row) → get held name ≡ Some row → is_bad part held row ≡ false

good_cards : (part : Part) (held : Rows) → table_of part ≡ tables.Card → AreChecked (get held) → first_bad part held ≡ None
    → (card : Card) → get held (name_in tables.Card card.id) ≡ Some (rows.Card card) → bad_card part held card ≡ false
good_cards part held is checked none card has =
    none_in_table (is_bad part held) tables.Card held (ap (λ (table : Table). find (is_bad part held) (rows_past table (pos 0) held)) (sym is) ∙ none_mapped name_of _ none)
    (name_in tables.Card card.id) (rows.Card card) has (id_over_zero (rows.Card card) (checked _ (rows.Card card) has))

good_notes : (part : Part) (held : Rows) → table_of part ≡ tables.Note → AreChecked (get held) → first_bad part held ≡ None
    → (note : Note) → get held (name_in tables.Note note.id) ≡ Some (rows.Note note) → bad_note part held note ≡ false
good_notes part held is checked none note has =
    none_in_table (is_bad part held) tables.Note held (ap (λ (table : Table). find (is_bad part held) (rows_past table (pos 0) held)) (sym is) ∙ none_mapped name_of _ none)
    (name_in tables.Note note.id) (rows.Note note) has (id_over_zero (rows.Note note) (checked _ (rows.Note note) has))

none_bad : (part : Part) (held : Rows) → AreGood part held → first_bad part held ≡ None
none_bad part held good = ap (option_map name_of) (table_has_none (is_bad part held) (table_of part) held (λ name row is _. good name row is))

all_good : (part : Part) (held : Rows) → AreNamed (get held)
    → ((note : Note) → get held (name_in tables.Note note.id) ≡ Some (rows.Note note) → bad_note part held note ≡ false)
    → ((card : Card) → get held (name_in tables.Card card.id) ≡ Some (rows.Card card) → bad_card part held card ≡ false) → AreGood part held
all_good part held are_named notes cards name (rows.Note n) has = notes n (ap (get held) (are_named name (rows.Note n) has) ∙ has)
all_good part held are_named notes cards name (rows.Card c) has = cards c (ap (get held) (are_named name (rows.Card c) has) ∙ has)
all_good part held are_named notes cards name (rows.Review r) has = refl
all_good part held are_named notes cards name (rows.NoteType t) has = refl
all_good part held are_named notes cards name (rows.Deck d) has = refl
all_good part held are_named notes cards name (rows.Options o) has = refl
all_good part held are_named notes cards name (rows.Grave g) has = refl

-- ---- templates
not_over : (ord : ℤ) (count : ℤ) → not (int_lt ord count) ≡ false → ord <ℤ count
not_over ord count is = let less : int_lt ord count ≡ true = is_so is in omega (arith, ints, less)

pub has_place : (at : RowsByName) (name : Name) (ord : ℤ) (note : Note) (type : NoteType) → lacks_template ord (type_under at name) ≡ false → at name ≡ Some (rows.Note note)
    → at (name_in tables.NoteType note.mid) ≡ Some (rows.NoteType type) → type.cloze ≡ false → ord <ℤ pos (length type.templates)
has_place at name ord note type good is_note is_type standard =
    let there : type_under at name ≡ Some (rows.NoteType type) = ap (λ (o : Option Row). option_and_then at (type_name o)) is_note ∙ is_type in
    let at_type : (not type.cloze && not (int_lt ord (pos (length type.templates)))) ≡ false = ap (lacks_template ord) (sym there) ∙ good in
    not_over ord (pos (length type.templates)) (ap (λ (b : Bool). not b && not (int_lt ord (pos (length type.templates)))) (sym standard) ∙ at_type)

place_of_type : (ord : ℤ) (type : NoteType) → (type.cloze ≡ false → ord <ℤ pos (length type.templates)) → lacks_template ord (Some (rows.NoteType type)) ≡ false
place_of_type ord type below =
    elim (type.cloze) as (λ b. type.cloze ≡ b → (not b && not (int_lt ord (pos (length type.templates)))) ≡ false) [
      | true ↦ λ _. refl
      | false ↦ λ standard.
          let low : ord <ℤ pos (length type.templates) = below standard in
          let less : int_lt ord (pos (length type.templates)) ≡ true = grind (arith, ints, low) in
          ap not less
    ] refl

type_places : (at : RowsByName) (ord : ℤ) (name : Name) → ((type : NoteType) → at name ≡ Some (rows.NoteType type) → type.cloze ≡ false → ord <ℤ pos (length type.templates))
    → lacks_template ord (at name) ≡ false
type_places at ord name below = elim (at name) as (λ (o : Option Row). at name ≡ o → lacks_template ord o ≡ false) [
  | None ↦ λ _. refl
  | Some row ↦ elim row as (λ (x : Row). at name ≡ Some x → lacks_template ord (Some x) ≡ false) [
    | rows.Note n ↦ λ _. refl
    | rows.Card c ↦ λ _. refl
    | rows.Review r ↦ λ _. refl
    | rows.NoteType t ↦ λ is. place_of_type ord t (below t is)
    | rows.Deck d ↦ λ _. refl
    | rows.Options o ↦ λ _. refl
    | rows.Grave g ↦ λ _. refl
  ]
] refl

note_places : (at : RowsByName) (ord : ℤ) (name : Name) → ((note : Note) (type : NoteType) → at name ≡ Some (rows.Note note) → at (name_in tables.NoteType note.mid) ≡ Some (rows.NoteType type) → type.cloze ≡ false → ord <ℤ pos (length type.templates))
    → lacks_template ord (type_under at name) ≡ false
note_places at ord name below = elim (at name) as (λ (o : Option Row). at name ≡ o → lacks_template ord (option_and_then at (type_name o)) ≡ false) [
  | None ↦ λ _. refl
  | Some row ↦ elim row as (λ (x : Row). at name ≡ Some x → lacks_template ord (option_and_then at (type_name (Some x))) ≡ false) [
    | rows.Note n ↦ λ is. type_places at ord (name_in tables.NoteType n.mid) (λ type. below n type is)
    | rows.Card c ↦ λ _. refl
    | rows.Review r ↦ λ _. refl
    | rows.NoteType t ↦ λ _. refl
    | rows.Deck d ↦ λ _. refl
    | rows.Options o ↦ λ _. refl
    | rows.Grave g ↦ λ _. refl
  ]
] refl

-- ---- the whole check
none_of_part : (fault : ℤ → CheckFault) (part : Part) (held : Rows) → first_of fault part held ≡ None → first_bad part held ≡ None
none_of_part fault part held none = none_mapped (λ (name : Name). fault name.id) (first_bad part held) none

-- of all four parts
record FindsNothing (held : Rows) : Type 0 where
  card_note : first_bad parts.CardNote held ≡ None
  note_card : first_bad parts.NoteCard held ≡ None
  note_type : first_bad parts.NoteType held ≡ None
  template : first_bad parts.CardTemplate held ≡ None

finds_nothing : (held : Rows) → first_fault held ≡ None → FindsNothing held
finds_nothing held none =
    let one = both_none _ _ none in
    let two = both_none _ _ one.1 in
    let three = both_none _ _ two.1 in
    record {
      card_note = none_of_part faults.CardNoNote parts.CardNote held one.0;
      note_card = none_of_part faults.NoteNoCard parts.NoteCard held two.0;
      note_type = none_of_part faults.NoteNoType parts.NoteType held three.0;
      template = none_of_part faults.CardNoTemplate parts.CardTemplate held three.1;
    }

no_fault : (held : Rows) → FindsNothing held → first_fault held ≡ None
no_fault held none = rw (none.card_note, none.note_card, none.note_type, none.template) refl

pub has_card : (held : Rows) (note : Note) → AreNamed (get held) → HasCard held note.id → (card : Card) × (get held (name_in tables.Card card.id) ≡ Some (rows.Card card)) × (card.nid ≡ note.id)
has_card held note are_named (card, name, has, of_it) = (card, ap (get held) (are_named name (rows.Card card) has) ∙ has, of_it)

sound_of : (held : Rows) → AreNamed (get held) → AreChecked (get held) → FindsNothing held → IsSound (get held)
sound_of held are_named checked none = record {
  card_note = λ card has. is_so (good_cards parts.CardNote held refl checked none.card_note card has);
  note_card = λ note has. has_card held note are_named (card_among held note.id (entries held) (entries_found held) (good_notes parts.NoteCard held refl checked none.note_card note has));
  note_type = λ note has. is_so (good_notes parts.NoteType held refl checked none.note_type note has);
  template = λ card note type has. has_place (get held) (name_in tables.Note card.nid) card.ord note type (good_cards parts.CardTemplate held refl checked none.template card has);
}

some_card : (held : Rows) (note : Note) → ((card : Card) × (get held (name_in tables.Card card.id) ≡ Some (rows.Card card)) × (card.nid ≡ note.id)) → is_empty (cards_of note.id held) ≡ false
some_card held note (card, has, of_it) = has_some held note.id (name_in tables.Card card.id) card has of_it

nothing_of : (held : Rows) → AreNamed (get held) → IsSound (get held) → FindsNothing held
nothing_of held are_named sound = record {
  card_note = none_bad parts.CardNote held (all_good parts.CardNote held are_named (λ _ _. refl) (λ card has. ap not (sound.card_note card has)));
  note_card = none_bad parts.NoteCard held (all_good parts.NoteCard held are_named (λ note has. some_card held note (sound.note_card note has)) (λ _ _. refl));
  note_type = none_bad parts.NoteType held (all_good parts.NoteType held are_named (λ note has. ap not (sound.note_type note has)) (λ _ _. refl));
  template = none_bad parts.CardTemplate held (all_good parts.CardTemplate held are_named (λ _ _. refl) (λ card has.
      note_places (get held) card.ord (name_in tables.Note card.nid) (λ note type. sound.template card note type has)));
}

pub sound_has_no_fault : (held : Rows) → AreNamed (get held) → AreChecked (get held) → (first_fault held ≡ None) ↔ IsSound (get held)
sound_has_no_fault held are_named checked = (
  (λ none. sound_of held are_named checked (finds_nothing held none)),
  (λ sound. no_fault held (nothing_of held are_named sound)),
)
