-- The fault that the basic check answers is the least.
use Rattle.ak_base.specs.Names.{name_cmp, table_place}
use Rattle.ak_base.specs.Rows.{name_of}
use Rattle.ak_base.specs.declared.cards.Card.{Card}
use Rattle.ak_base.specs.declared.names.Name.{Name}
use Rattle.ak_base.specs.declared.names.Table.{Table}
use Rattle.ak_base.specs.declared.names.Table.TheVariants as tables
use Rattle.ak_base.specs.declared.note_types.NoteType.{NoteType}
use Rattle.ak_base.specs.declared.notes.Note.{Note}
use Rattle.ak_base.specs.declared.rows.Row.{Row}
use Rattle.ak_base.specs.declared.rows.Row.TheVariants as rows
use Rattle.ak_base.proofs.Optional.{none_mapped}
use Rattle.ak_keep.proofs.RowsByName.{entries_found}
use Rattle.ak_keep.specs.Collections.{Rows, cards_of, is_past}
use Rattle.ak_merge.proofs.EditFacts.{false_true}
use Rattle.ak_merge.proofs.Finding.{not_both, first_in_table, none_in_table}
use Rattle.ak_merge.proofs.PartLaws.{past_zero, same_place}
use Rattle.ak_merge.proofs.SoundLaws.{card_among, has_card, has_some}
use Rattle.ak_keep.specs.Graves.{RowsByName}
use Rattle.ak_merge.specs.Holdings.{name_in, AreNamed, AreChecked}
use Rattle.ak_merge.specs.Soundness.{IsFault, IsLeastFault, is_before, bad_card, bad_note, first_bad, first_fault, first_of, is_bad, is_empty, lacks_template, table_of, type_name, type_under}
use Rattle.ak_merge.specs.declared.checks.CheckFault.{CheckFault}
use Rattle.ak_merge.specs.declared.checks.CheckFault.TheVariants as faults
use Rattle.ak_merge.specs.declared.checks.Part.{Part}
use Rattle.ak_merge.specs.declared.checks.Part.TheVariants as parts
use Rattle.std.proofs.lemmas.Option.{none-some, same_Some}
use Rattle.std.specs.Cmp.{first_so, second_so, nat_cmp_is, int_cmp_is}
use Rattle.std.specs.FinMap.{get, entries}
use Rattle.std.specs.Option.{option_map, option_or, option_and_then}
use Rattle.std.specs.Ordering.{int_cmp, nat_cmp, ordering_then}
use Rattle.std.specs.declared.cmp.Ordering.{Ordering}
use Rattle.std.specs.declared.cmp.Ordering.TheVariants.{Less, Equal}
use Rattle.std.specs.Prelude.{◌≡◌, ◌≢◌, ℕ, ℤ, pos, ◌<ℤ◌, ◌≤ℤ◌, Bool, true, false, not, ◌&&◌, int_lt, is_some, length, Option, Some, None}
use Rattle.std.proofs.Common.{refl, sym, ap, subst, ◌∙◌, arith}
use Rattle.std.proofs.lemmas.Int.{ints}

-- the fault of this id that a part of the check tells
abbrev fault_of : Part → ℤ → CheckFault
fault_of parts.CardNote id = faults.CardNoNote id
fault_of parts.NoteCard id = faults.NoteNoCard id
fault_of parts.NoteType id = faults.NoteNoType id
fault_of parts.CardTemplate id = faults.CardNoTemplate id

-- ---- truth values
none_there : (o : Option Row) → not (is_some o) ≡ true → o ≡ None
none_there None is = refl
none_there (Some row) is = false_true is

not_so : (b : Bool) → not b ≡ true → b ≡ false
not_so true is = sym is
not_so false is = refl

-- ---- a bad row is a fault
-- what lacks a template is a card of a note of a standard type
abbrev LacksTemplate : RowsByName → ℤ → Name → Type 0
LacksTemplate at ord name =
    (note : Note) × (type : NoteType) × (at name ≡ Some (rows.Note note)) × (at (name_in tables.NoteType note.mid) ≡ Some (rows.NoteType type)) × (type.cloze ≡ false) × (pos (length type.templates) ≤ℤ ord)

standard_lacks : (ord : ℤ) (type : NoteType) → lacks_template ord (Some (rows.NoteType type)) ≡ true → (type.cloze ≡ false) × (pos (length type.templates) ≤ℤ ord)
standard_lacks ord type is =
    let most : int_lt ord (pos (length type.templates)) ≡ false = not_so (int_lt ord (pos (length type.templates))) (second_so (not type.cloze) (not (int_lt ord (pos (length type.templates)))) is) in
    (not_so type.cloze (first_so (not type.cloze) (not (int_lt ord (pos (length type.templates)))) is), omega (arith, ints, most))

type_lacks : (at : RowsByName) (ord : ℤ) (name : Name) → lacks_template ord (at name) ≡ true → (type : NoteType) × (at name ≡ Some (rows.NoteType type)) × (type.cloze ≡ false) × (pos (length type.templates) ≤ℤ ord)
type_lacks at ord name =
    elim (at name) as (λ (o : Option Row). lacks_template ord o ≡ true → (type : NoteType) × (o ≡ Some (rows.NoteType type)) × (type.cloze ≡ false) × (pos (length type.templates) ≤ℤ ord)) [
      | None ↦ λ is. false_true is
      | Some row ↦ elim row as (λ (x : Row). lacks_template ord (Some x) ≡ true → (type : NoteType) × (Some x ≡ Some (rows.NoteType type)) × (type.cloze ≡ false) × (pos (length type.templates) ≤ℤ ord)) [
        | rows.Note n ↦ λ is. false_true is
        | rows.Card c ↦ λ is. false_true is
        | rows.Review r ↦ λ is. false_true is
        | rows.NoteType t ↦ λ is. let lacks = standard_lacks ord t is in (t, refl, lacks.0, lacks.1)
        | rows.Deck d ↦ λ is. false_true is
        | rows.Options o ↦ λ is. false_true is
        | rows.Grave g ↦ λ is. false_true is
      ]
    ]

of_note : (at : RowsByName) (ord : ℤ) (name : Name) (note : Note) → at name ≡ Some (rows.Note note) → lacks_template ord (at (name_in tables.NoteType note.mid)) ≡ true → LacksTemplate at ord name
of_note at ord name note held is = let found = type_lacks at ord (name_in tables.NoteType note.mid) is in (note, found.0, held, found.1, found.2, found.3)

note_lacks : (at : RowsByName) (ord : ℤ) (name : Name) → lacks_template ord (type_under at name) ≡ true → LacksTemplate at ord name
note_lacks at ord name =
    elim (at name) as (λ (o : Option Row). at name ≡ o → lacks_template ord (option_and_then at (type_name o)) ≡ true → LacksTemplate at ord name) [
      | None ↦ λ _ is. false_true is
      | Some row ↦ elim row as (λ (x : Row). at name ≡ Some x → lacks_template ord (option_and_then at (type_name (Some x))) ≡ true → LacksTemplate at ord name) [
        | rows.Note n ↦ λ held is. of_note at ord name n held is
        | rows.Card c ↦ λ _ is. false_true is
        | rows.Review r ↦ λ _ is. false_true is
        | rows.NoteType t ↦ λ _ is. false_true is
        | rows.Deck d ↦ λ _ is. false_true is
        | rows.Options o ↦ λ _ is. false_true is
        | rows.Grave g ↦ λ _ is. false_true is
      ]
    ] refl

bad_card_fault : (part : Part) (held : Rows) (card : Card) → get held (name_in tables.Card card.id) ≡ Some (rows.Card card) → bad_card part held card ≡ true → IsFault (get held) (fault_of part card.id)
bad_card_fault parts.CardNote held card has bad = (card, has, none_there (get held (name_in tables.Note card.nid)) bad)
bad_card_fault parts.NoteCard held card has bad = false_true bad
bad_card_fault parts.NoteType held card has bad = false_true bad
bad_card_fault parts.CardTemplate held card has bad =
    let found = note_lacks (get held) card.ord (name_in tables.Note card.nid) bad in (card, found.0, found.1, has, found.2, found.3, found.4, found.5)

bad_note_fault : (part : Part) (held : Rows) (note : Note) → get held (name_in tables.Note note.id) ≡ Some (rows.Note note) → bad_note part held note ≡ true → IsFault (get held) (fault_of part note.id)
bad_note_fault parts.CardNote held note has bad = false_true bad
bad_note_fault parts.NoteCard held note has bad = (note, has, (λ card stands of_it. not_both bad (has_some held note.id (name_in tables.Card card.id) card stands of_it)))
bad_note_fault parts.NoteType held note has bad = (note, has, none_there (get held (name_in tables.NoteType note.mid)) bad)
bad_note_fault parts.CardTemplate held note has bad = false_true bad

bad_fault : (part : Part) (held : Rows) (name : Name) (row : Row) → AreNamed (get held) → get held name ≡ Some row → is_bad part held row ≡ true → IsFault (get held) (fault_of part name.id)
bad_fault part held name (rows.Note n) are_named has bad =
    let same : name_in tables.Note n.id ≡ name = are_named name (rows.Note n) has in
    subst (λ (m : Name). IsFault (get held) (fault_of part m.id)) same (bad_note_fault part held n (ap (get held) same ∙ has) bad)
bad_fault part held name (rows.Card c) are_named has bad =
    let same : name_in tables.Card c.id ≡ name = are_named name (rows.Card c) has in
    subst (λ (m : Name). IsFault (get held) (fault_of part m.id)) same (bad_card_fault part held c (ap (get held) same ∙ has) bad)
bad_fault part held name (rows.Review r) are_named has bad = false_true bad
bad_fault part held name (rows.NoteType t) are_named has bad = false_true bad
bad_fault part held name (rows.Deck d) are_named has bad = false_true bad
bad_fault part held name (rows.Options o) are_named has bad = false_true bad
bad_fault part held name (rows.Grave g) are_named has bad = false_true bad

-- ---- a fault is a bad row
abbrev HasBad : Part → Rows → ℤ → Type 0
HasBad part held id = (row : Row) × (get held (name_in (table_of part) id) ≡ Some row) × (is_bad part held row ≡ true)

no_cards : (held : Rows) (note : Note) → AreNamed (get held) → ((card : Card) → get held (name_in tables.Card card.id) ≡ Some (rows.Card card) → card.nid ≢ note.id) → is_empty (cards_of note.id held) ≡ true
no_cards held note are_named never =
    elim (is_empty (cards_of note.id held)) as (λ b. is_empty (cards_of note.id held) ≡ b → b ≡ true) [
      | true ↦ λ _. refl
      | false ↦ λ some.
          let found = has_card held note are_named (card_among held note.id (entries held) (entries_found held) some) in
          absurd (never found.0 found.1 found.2)
    ] refl

lacks_of : (at : RowsByName) (ord : ℤ) (name : Name) (note : Note) (type : NoteType) → at name ≡ Some (rows.Note note) → at (name_in tables.NoteType note.mid) ≡ Some (rows.NoteType type) → type.cloze ≡ false
    → pos (length type.templates) ≤ℤ ord → lacks_template ord (type_under at name) ≡ true
lacks_of at ord name note type is_note is_type standard most =
    let there : type_under at name ≡ Some (rows.NoteType type) = ap (λ (o : Option Row). option_and_then at (type_name o)) is_note ∙ is_type in
    let over : int_lt ord (pos (length type.templates)) ≡ false = grind (arith, ints, most) in
    ap (lacks_template ord) there ∙ ap (λ b. not b && not (int_lt ord (pos (length type.templates)))) standard ∙ ap not over

fault_bad : (part : Part) (held : Rows) (id : ℤ) → AreNamed (get held) → IsFault (get held) (fault_of part id) → HasBad part held id
fault_bad parts.CardNote held id are_named (card, has, none) = (rows.Card card, has, ap (λ (o : Option Row). not (is_some o)) none)
fault_bad parts.NoteCard held id are_named (note, has, never) =
    let same : note.id ≡ id = ap (λ (n : Name). n.id) (are_named (name_in tables.Note id) (rows.Note note) has) in
    (rows.Note note, has, no_cards held note are_named (λ card stands of_it. never card stands (of_it ∙ same)))
fault_bad parts.NoteType held id are_named (note, has, none) = (rows.Note note, has, ap (λ (o : Option Row). not (is_some o)) none)
fault_bad parts.CardTemplate held id are_named (card, note, type, has, is_note, is_type, standard, most) =
    (rows.Card card, has, lacks_of (get held) card.ord (name_in tables.Note card.nid) note type is_note is_type standard most)

-- ---- one part of the check
nat_tied : (n : ℕ) → nat_cmp n n ≡ Equal
nat_tied n = sym (nat_cmp_is n n Equal refl)

int_less : (one other : ℤ) → one <ℤ other → int_cmp one other ≡ Less
int_less one other less = sym (int_cmp_is one other Less less)

lesser_id : (table : Table) (one other : ℤ) → one <ℤ other → name_cmp (name_in table one) (name_in table other) ≡ Less
lesser_id table one other less =
    let tables_tied : nat_cmp (table_place table) (table_place table) ≡ Equal = nat_tied (table_place table) in
    ap (λ (r : Ordering). ordering_then r (int_cmp one other)) tables_tied ∙ int_less one other less

-- a part that finds nothing tells no fault
none_of_part : (part : Part) (held : Rows) → AreNamed (get held) → AreChecked (get held) → first_bad part held ≡ None → (id : ℤ) → ¬ (IsFault (get held) (fault_of part id))
none_of_part part held are_named checked none id fault =
    let bad = fault_bad part held id are_named fault in
    let name : Name = name_in (table_of part) id in
    let bears : name_of bad.0 ≡ name = are_named name bad.0 bad.1 in
    let inside : is_past (table_of part) (pos 0) name ≡ true =
    ap (is_past (table_of part) (pos 0)) (sym bears) ∙ past_zero (table_of part) bad.0 (ap (λ (n : Name). n.table) bears) (checked name bad.0 bad.1) in
    not_both bad.2 (none_in_table (is_bad part held) (table_of part) held (none_mapped name_of _ none) name bad.0 bad.1 inside)

-- what it finds first is a fault, and no lesser id has one
abbrev IsLeastOf : Part → RowsByName → ℤ → Type 0
IsLeastOf part at id = IsFault at (fault_of part id) × ((other : ℤ) → other <ℤ id → ¬ (IsFault at (fault_of part other)))

least_of_part : (part : Part) (held : Rows) (name : Name) → AreNamed (get held) → AreChecked (get held) → first_bad part held ≡ Some name → IsLeastOf part (get held) name.id
least_of_part part held name are_named checked is =
    let found = first_in_table (is_bad part held) (table_of part) held name are_named is in
    let row : Row = found.0 in
    let first = found.1 in
    let table : name.table ≡ table_of part = same_place name.table (table_of part) (first_so _ (int_lt (pos 0) name.id) first.inside) in (
      bad_fault part held name row are_named first.stands first.passes,
      (λ other less fault.
          let bad = fault_bad part held other are_named fault in
          let lesser : Name = name_in (table_of part) other in
          let bears : name_of bad.0 ≡ lesser = are_named lesser bad.0 bad.1 in
          let inside : is_past (table_of part) (pos 0) lesser ≡ true =
          ap (is_past (table_of part) (pos 0)) (sym bears) ∙ past_zero (table_of part) bad.0 (ap (λ (n : Name). n.table) bears) (checked lesser bad.0 bad.1) in
          let before : name_cmp lesser name ≡ Less =
          ap (λ (t : Table). name_cmp (name_in t other) name) (sym table) ∙ lesser_id name.table other name.id less in
          not_both bad.2 (first.below lesser bad.0 before bad.1 inside)),
    )

-- ---- all parts
-- the parts before this one find nothing
abbrev AreClear : RowsByName → Part → Type 0
AreClear at part = (id : ℤ) → ¬ (IsFault at (fault_of part id))

below : (one other : ℤ) → int_lt one other ≡ true → one <ℤ other
below one other is = omega (arith, ints, is)

pub first_fault_is_least : (held : Rows) (fault : CheckFault) → AreNamed (get held) → AreChecked (get held) → first_fault held ≡ Some fault → IsLeastFault (get held) fault
first_fault_is_least held fault are_named checked is =
    elim (first_bad parts.CardNote held) as (λ o. first_bad parts.CardNote held ≡ o → option_or (option_map (λ (name : Name). faults.CardNoNote name.id) o) after_one ≡ Some fault → IsLeastFault (get held) fault) [
      | Some name ↦ λ first is. subst (IsLeastFault (get held)) (same_Some (faults.CardNoNote name.id) fault is) (one name.id (least_of_part parts.CardNote held name are_named checked first))
      | None ↦ λ none_one.
          let clear_one = none_of_part parts.CardNote held are_named checked none_one in
          elim (first_bad parts.NoteCard held) as (λ o. first_bad parts.NoteCard held ≡ o → option_or (option_map (λ (name : Name). faults.NoteNoCard name.id) o) after_two ≡ Some fault → IsLeastFault (get held) fault) [
            | Some name ↦ λ first is. subst (IsLeastFault (get held)) (same_Some (faults.NoteNoCard name.id) fault is) (two clear_one name.id (least_of_part parts.NoteCard held name are_named checked first))
            | None ↦ λ none_two.
                let clear_two = none_of_part parts.NoteCard held are_named checked none_two in
                elim (first_bad parts.NoteType held) as (λ o. first_bad parts.NoteType held ≡ o → option_or (option_map (λ (name : Name). faults.NoteNoType name.id) o) after_three ≡ Some fault → IsLeastFault (get held) fault) [
                  | Some name ↦ λ first is. subst (IsLeastFault (get held)) (same_Some (faults.NoteNoType name.id) fault is) (three clear_one clear_two name.id (least_of_part parts.NoteType held name are_named checked first))
                  | None ↦ λ none_three.
                      let clear_three = none_of_part parts.NoteType held are_named checked none_three in
                      elim (first_bad parts.CardTemplate held) as (λ o. first_bad parts.CardTemplate held ≡ o → option_map (λ (name : Name). faults.CardNoTemplate name.id) o ≡ Some fault → IsLeastFault (get held) fault) [
                        | Some name ↦ λ first is. subst (IsLeastFault (get held)) (same_Some (faults.CardNoTemplate name.id) fault is)
                            (four clear_one clear_two clear_three name.id (least_of_part parts.CardTemplate held name are_named checked first))
                        | None ↦ λ _ is. absurd (none-some fault is)
                      ] refl
                ] refl
          ] refl
    ] refl is
  where
    after_three : Option CheckFault
    after_three = first_of faults.CardNoTemplate parts.CardTemplate held

    after_two : Option CheckFault
    after_two = option_or (first_of faults.NoteNoType parts.NoteType held) after_three

    after_one : Option CheckFault
    after_one = option_or (first_of faults.NoteNoCard parts.NoteCard held) after_two

    one : (id : ℤ) → IsLeastOf parts.CardNote (get held) id → IsLeastFault (get held) (faults.CardNoNote id)
    one id least = record { holds = least.0; below = lesser }
      where
        lesser : (other : CheckFault) → is_before other (faults.CardNoNote id) ≡ true → ¬ (IsFault (get held) other)
        lesser (faults.CardNoNote o) before = least.1 o (below o id before)
        lesser (faults.NoteNoCard o) before = false_true before
        lesser (faults.NoteNoType o) before = false_true before
        lesser (faults.CardNoTemplate o) before = false_true before

    two : AreClear (get held) parts.CardNote → (id : ℤ) → IsLeastOf parts.NoteCard (get held) id → IsLeastFault (get held) (faults.NoteNoCard id)
    two clear_one id least = record { holds = least.0; below = lesser }
      where
        lesser : (other : CheckFault) → is_before other (faults.NoteNoCard id) ≡ true → ¬ (IsFault (get held) other)
        lesser (faults.CardNoNote o) before = clear_one o
        lesser (faults.NoteNoCard o) before = least.1 o (below o id before)
        lesser (faults.NoteNoType o) before = false_true before
        lesser (faults.CardNoTemplate o) before = false_true before

    three : AreClear (get held) parts.CardNote → AreClear (get held) parts.NoteCard → (id : ℤ) → IsLeastOf parts.NoteType (get held) id → IsLeastFault (get held) (faults.NoteNoType id)
    three clear_one clear_two id least = record { holds = least.0; below = lesser }
      where
        lesser : (other : CheckFault) → is_before other (faults.NoteNoType id) ≡ true → ¬ (IsFault (get held) other)
        lesser (faults.CardNoNote o) before = clear_one o
        lesser (faults.NoteNoCard o) before = clear_two o
        lesser (faults.NoteNoType o) before = least.1 o (below o id before)
        lesser (faults.CardNoTemplate o) before = false_true before

    four : AreClear (get held) parts.CardNote → AreClear (get held) parts.NoteCard → AreClear (get held) parts.NoteType → (id : ℤ) → IsLeastOf parts.CardTemplate (get held) id
        → IsLeastFault (get held) (faults.CardNoTemplate id)
    four clear_one clear_two clear_three id least = record { holds = least.0; below = lesser }
      where
        lesser : (other : CheckFault) → is_before other (faults.CardNoTemplate id) ≡ true → ¬ (IsFault (get held) other)
        lesser (faults.CardNoNote o) before = clear_one o
        lesser (faults.NoteNoCard o) before = clear_two o
        lesser (faults.NoteNoType o) before = clear_three o
        lesser (faults.CardNoTemplate o) before = least.1 o (below o id before)
