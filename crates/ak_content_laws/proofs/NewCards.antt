-- The cards that are made for a note: each has a free name, its note and an ord that the note's type has.
use Rattle.std.specs.Prelude.{◌≡◌, ◌≤◌, ◌||◌, ℕ, ℤ, pos, ◌<ℤ◌, ◌+ℤ◌, Bool, true, false, cond, List, [], ◌∷◌, filter, length, Option, Some, None, is_some}
use Rattle.std.specs.List.{AllByRecursion}
use Rattle.std.proofs.Common.{arith, refl, sym, ap, subst, ◌∙◌}
use Rattle.std.proofs.lemmas.Int.{ints}
use Rattle.ak_base.specs.Names.{next_name}
use Rattle.ak_base.specs.declared.cards.Card.{Card}
use Rattle.ak_base.specs.declared.names.Name.{Name}
use Rattle.ak_base.specs.declared.names.Table.{Table}
use Rattle.ak_base.specs.declared.names.Table.TheVariants as tables
use Rattle.ak_base.specs.declared.note_types.NoteType.{NoteType}
use Rattle.ak_edit_calls.specs.NewNames.{AreMadeOf}
use Rattle.ak_cardgen.proofs.Ascending.{ascend_by}
use Rattle.ak_cardgen.specs.Generation.{AreOrds, face_of, ord_end}
use Rattle.ak_keep.specs.FreeNames.{is_used}
use Rattle.ak_keep.specs.Graves.{RowsByName, is_dead}
use Rattle.ak_merge.proofs.EditFacts.{true_false}
use Rattle.ak_merge.specs.Edits.{Edit}
use Rattle.ak_merge.specs.Holdings.{name_in}
use Rattle.ak_notes.specs.MadeNotes.{with_cards}
use Rattle.ak_notes.specs.NewCards.{at_least_one}
use Rattle.ak_template.specs.Clozes.{AscendsWithin}
use Rattle.ak_content_laws.proofs.SoundParts.{HasCard, some_card}

-- ---- free names
first_false : (a b : Bool) → (a || b) ≡ false → a ≡ false
first_false true b is = is
first_false false b is = refl

not_held : {X : Type 0} (x : Option X) → is_some x ≡ false → x ≡ None
not_held None is = refl
not_held (Some x) is = true_false is

-- under a free name stands nothing
pub free_none : (at : RowsByName) (name : Name) (table : Table) → name.table ≡ table → is_used at name ≡ false → at (name_in table name.id) ≡ None
free_none at name table of free =
    let same : name ≡ name_in table name.id = ap (λ (t : Table). name_in t name.id) of in
    not_held (at (name_in table name.id)) (ap (λ (n : Name). is_some (at n)) (sym same) ∙ first_false (is_some (at name)) (is_dead at name) free)

-- ---- ords
-- an ord that a type has
abbrev pub IsOrdOf : NoteType → ℤ → Type 0
IsOrdOf note_type ord = ord <ℤ pos (ord_end note_type)

ascends_below : (low high : ℤ) (ords : List ℤ) → AscendsWithin low high ords → AllByRecursion (λ (ord : ℤ). ord <ℤ high) ords
ascends_below low high [] ascends = tt
ascends_below low high (ord ∷ ords) ascends = (ascends.1, ascends_below (ord +ℤ pos 1) high ords ascends.2)

-- the ords of a note are those of its type
pub ords_within : (note_type : NoteType) (fields : List (List ℕ)) (ords : List ℤ) → AreOrds note_type fields ords → AllByRecursion (IsOrdOf note_type) ords
ords_within note_type fields ords are =
    ascends_below (pos 0) (pos (ord_end note_type)) ords (ascend_by note_type.cloze (face_of note_type fields) note_type.templates ords are)

-- ord 0 is one, if a standard type has a template
pub first_within : (note_type : NoteType) → (note_type.cloze ≡ false → 1 ≤ length note_type.templates) → IsOrdOf note_type (pos 0)
first_within note_type some = by note_type.cloze refl
  where
    by : (b : Bool) → note_type.cloze ≡ b → pos 0 <ℤ pos (ord_end note_type)
    by true is = subst (λ (v : Bool). pos 0 <ℤ pos (cond v 500 (length note_type.templates))) (sym is) (omega (arith, ints))
    by false is = subst (λ (v : Bool). pos 0 <ℤ pos (cond v 500 (length note_type.templates))) (sym is) (let one = some is in omega (arith, ints, one))

pub least_within : (note_type : NoteType) (ords : List ℤ) → (note_type.cloze ≡ false → 1 ≤ length note_type.templates) → AllByRecursion (IsOrdOf note_type) ords → AllByRecursion (IsOrdOf note_type) (at_least_one ords)
least_within note_type [] some all = (first_within note_type some, tt)
least_within note_type (ord ∷ ords) some all = all

-- in a standard type it is below the number of templates
pub standard_within : (note_type : NoteType) (ord : ℤ) → IsOrdOf note_type ord → note_type.cloze ≡ false → ord <ℤ pos (length note_type.templates)
standard_within note_type ord within standard = subst (λ (v : Bool). ord <ℤ pos (cond v 500 (length note_type.templates))) standard within

pub filter_all : {X : Type 0} (P : X → Type 0) (test : X → Bool) (xs : List X) → AllByRecursion P xs → AllByRecursion P (filter test xs)
filter_all P test [] all = tt
filter_all P test (x ∷ xs) all = elim (test x) as (λ b. AllByRecursion P (cond b (x ∷ filter test xs) (filter test xs))) [ true ↦ (all.0, filter_all P test xs all.1) | false ↦ filter_all P test xs all.1 ]

-- ---- cards
-- what a card is made with: this id, this note and this ord
pub record IsMadeWith (note ord id : ℤ) (card : Card) : Type 0 where
  pub own : card.id ≡ id
  pub of : card.nid ≡ note
  pub place : card.ord ≡ ord

-- cards that are made so
abbrev pub MakesFor : ℤ → (ℤ → ℤ → Card → Type 0) → Type 0
MakesFor note IsMade = (ord id : ℤ) (card : Card) → IsMade ord id card → IsMadeWith note ord id card

-- what is so of a card that is made of each ord under each free name is so of all
pub new_cards_all : (used : Name → Bool) (IsMade : ℤ → ℤ → Card → Type 0) (first : Name) (ords : List ℤ) (cards : List Card) (Q : ℤ → Type 0) (P : Card → Type 0) → first.table ≡ tables.Card
    → AreMadeOf used IsMade first ords cards → AllByRecursion Q ords → ((ord : ℤ) (name : Name) (card : Card) → Q ord → name.table ≡ tables.Card → used name ≡ false → IsMade ord name.id card → P card) → AllByRecursion P cards
new_cards_all used IsMade first [] cards Q P of are all step = subst (AllByRecursion P) (sym are) tt
new_cards_all used IsMade first (ord ∷ ords) cards Q P of are all step =
    let table : are.0.table ≡ tables.Card = are.1.table ∙ of in
    subst (AllByRecursion P) (sym are.5)
    (step ord are.0 are.2 all.0 table are.1.free are.3, new_cards_all used IsMade (next_name are.0) ords are.4 Q P table are.6 all.1 step)

pub no_matter : (ords : List ℤ) → AllByRecursion (λ (_ : ℤ). Unit {0}) ords
no_matter [] = tt
no_matter (ord ∷ ords) = (tt, no_matter ords)

-- all of them are of the note
pub all_of_note : (used : Name → Bool) (IsMade : ℤ → ℤ → Card → Type 0) (first : Name) (ords : List ℤ) (cards : List Card) (note : ℤ) → MakesFor note IsMade → first.table ≡ tables.Card
    → AreMadeOf used IsMade first ords cards → AllByRecursion (λ (card : Card). card.nid ≡ note) cards
all_of_note used IsMade first ords cards note makes of are =
    new_cards_all used IsMade first ords cards (λ (_ : ℤ). Unit {0}) (λ (card : Card). card.nid ≡ note) of are (no_matter ords) (λ ord name card _ _ _ is. (makes ord name.id card is).of)

-- of the new cards of a note one stands there
new_card_stands : (used : Name → Bool) (IsMade : ℤ → ℤ → Card → Type 0) (first : Name) (ord : ℤ) (ords : List ℤ) (cards : List Card) (note : ℤ) (edit : Edit) → MakesFor note IsMade → first.table ≡ tables.Card
    → AreMadeOf used IsMade first (ord ∷ ords) cards → HasCard (with_cards cards edit).rows note
new_card_stands used IsMade first ord ords cards note edit makes of are =
    subst (λ (l : List Card). HasCard (with_cards l edit).rows note) (sym are.5)
    (some_card are.2 are.4 edit note (makes ord are.0.id are.2 are.3).of (all_of_note used IsMade (next_name are.0) ords are.4 note makes (are.1.table ∙ of) are.6))

pub least_card_stands : (used : Name → Bool) (IsMade : ℤ → ℤ → Card → Type 0) (first : Name) (ords : List ℤ) (cards : List Card) (note : ℤ) (edit : Edit) → MakesFor note IsMade → first.table ≡ tables.Card
    → AreMadeOf used IsMade first (at_least_one ords) cards → HasCard (with_cards cards edit).rows note
least_card_stands used IsMade first [] cards note edit makes of are = new_card_stands used IsMade first (pos 0) [] cards note edit makes of are
least_card_stands used IsMade first (ord ∷ ords) cards note edit makes of are = new_card_stands used IsMade first ord ords cards note edit makes of are
