-- Each note of a type that is edited has a card afterwards: one that stays, or one of those that are made for it.
use Rattle.std.specs.Prelude.{◌≡◌, ◌⊎◌, ◌≤◌, ◌++◌, ℤ, pos, ◌≤ℤ◌, ◌<ℤ◌, ◌+ℤ◌, Bool, true, false, not, cond, int_lt, List, [], ◌∷◌, filter, length, map, Some}
use Rattle.std.specs.FinMap.{entries, get}
use Rattle.std.specs.List.{AllByRecursion, flat_map}
use Rattle.std.specs.Ordering.{eq_by_cmp, int_eq}
use Rattle.std.proofs.Common.{arith, inl, inr, refl, sym, ap, subst, ◌∙◌}
use Rattle.std.proofs.lemmas.Bool.Decides.{Decides-int_eq}
use Rattle.std.proofs.lemmas.Int.{ints}
use Rattle.ak_base.specs.Names.{name_cmp, next_name}
use Rattle.ak_base.specs.Rows.{name_of}
use Rattle.ak_base.specs.declared.cards.Card.{Card}
use Rattle.ak_base.specs.declared.names.Name.{Name}
use Rattle.ak_base.specs.declared.names.Table.{Table}
use Rattle.ak_base.specs.declared.names.Table.TheVariants as tables
use Rattle.ak_base.specs.declared.note_types.NoteType.{NoteType}
use Rattle.ak_base.specs.declared.notes.Note.{Note}
use Rattle.ak_base.specs.declared.rows.Row.{Row}
use Rattle.ak_base.specs.declared.rows.Row.TheVariants as rows
use Rattle.ak_edit_calls.specs.Calls.{has_id}
use Rattle.ak_edit_calls.specs.NewNames.{AreMadeOf}
use Rattle.ak_keep.proofs.RowsByName.{all_gets, entries_found}
use Rattle.ak_keep.specs.Collections.{Rows, is_past}
use Rattle.ak_keep.specs.FreeNames.{is_used}
use Rattle.ak_merge.proofs.EditFacts.{false_true}
use Rattle.ak_merge.specs.EditBuilding.{with_row}
use Rattle.ak_merge.specs.Edits.{Edit}
use Rattle.ak_merge.specs.Holdings.{AreNamed, name_in}
use Rattle.ak_notes.specs.LackingNotes.{lacked_ords, missing_from, missing_place, next_after, or_first}
use Rattle.ak_notes.specs.MadeNotes.{with_cards}
use Rattle.ak_notes.specs.NewCards.{IsNewCard, at_least_one, first_after}
use Rattle.ak_notes.specs.declared.lacking_notes.LackingNote.{LackingNote}
use Rattle.ak_notes.specs.declared.lacking_notes.NextCards.{NextCards}
use Rattle.ak_types.specs.RetypedCards.{AreAllMissing, note_of, notes_of}
use Rattle.ak_content_laws.proofs.NewCards.{IsOrdOf, MakesFor, filter_all, least_within}
use Rattle.ak_content_laws.proofs.SoundParts.{put_cases, put_there}

-- ---- the ids of new cards ascend
-- no card comes before the first name, and all before the next one
pub record AreBetween (first : Name) (cards : List Card) : Type 0 where
  pub goes : first.id ≤ℤ (first_after cards first).id
  pub all : AllByRecursion (λ (card : Card). (first.id ≤ℤ card.id) × (card.id <ℤ (first_after cards first).id)) cards

from_all : (low lower high : ℤ) (cards : List Card) → lower ≤ℤ low → AllByRecursion (λ (card : Card). (low ≤ℤ card.id) × (card.id <ℤ high)) cards
    → AllByRecursion (λ (card : Card). (lower ≤ℤ card.id) × (card.id <ℤ high)) cards
from_all low lower high [] less all = tt
from_all low lower high (card ∷ cards) less all = let one = all.0.0 in ((omega (arith, ints, less, one), all.0.1), from_all low lower high cards less all.1)

-- of the first card, and of the others after it
goes_on : (first name : Name) (id high : ℤ) (cards : List Card) → first.id ≤ℤ name.id → id ≡ name.id → AllByRecursion (λ (card : Card). ((next_name name).id ≤ℤ card.id) × (card.id <ℤ high)) cards
    → (next_name name).id ≤ℤ high → (first.id ≤ℤ high) × (first.id ≤ℤ id) × (id <ℤ high) × AllByRecursion (λ (card : Card). (first.id ≤ℤ card.id) × (card.id <ℤ high)) cards
goes_on first name id high cards from same all later =
    (omega (arith, ints, from, later), omega (arith, ints, from, same), omega (arith, ints, same, later), from_all (next_name name).id first.id high cards (omega (arith, ints, from)) all)

pub between_ids : (used : Name → Bool) (IsMade : ℤ → ℤ → Card → Type 0) (note : ℤ) (first : Name) (ords : List ℤ) (cards : List Card) → MakesFor note IsMade → AreMadeOf used IsMade first ords cards → AreBetween first cards
between_ids used IsMade note first [] cards makes are = subst (AreBetween first) (sym are) (record { goes = omega (arith, ints); all = tt })
between_ids used IsMade note first (ord ∷ ords) cards makes are =
    let id : are.2.id ≡ are.0.id = (makes ord are.0.id are.2 are.3).own in
    let next_is : next_name are.0 ≡ name_in first.table (are.2.id +ℤ pos 1) =
    ap (λ (t : Table). name_in t (are.0.id +ℤ pos 1)) are.1.table ∙ ap (λ (i : ℤ). name_in first.table (i +ℤ pos 1)) (sym id) in
    let rest : AreBetween (next_name are.0) are.4 = between_ids used IsMade note (next_name are.0) ords are.4 makes are.6 in
    let all : AllByRecursion (λ (card : Card). ((next_name are.0).id ≤ℤ card.id) × (card.id <ℤ (first_after are.4 (name_in first.table (are.2.id +ℤ pos 1))).id)) are.4 =
    subst (λ (n : Name). AllByRecursion (λ (card : Card). ((next_name are.0).id ≤ℤ card.id) × (card.id <ℤ (first_after are.4 n).id)) are.4) next_is rest.all in
    let later : (next_name are.0).id ≤ℤ (first_after are.4 (name_in first.table (are.2.id +ℤ pos 1))).id = subst (λ (n : Name). (next_name are.0).id ≤ℤ (first_after are.4 n).id) next_is rest.goes in
    let parts = goes_on first are.0 are.2.id (first_after are.4 (name_in first.table (are.2.id +ℤ pos 1))).id are.4 are.1.from id all later in
    subst (AreBetween first) (sym are.5) (record { goes = parts.0; all = ((parts.1, parts.2), parts.3) })

pub all_joined_cards : (P : Card → Type 0) (one other : List Card) → AllByRecursion P one → AllByRecursion P other → AllByRecursion P (one ++ other)
all_joined_cards P [] other all more = more
all_joined_cards P (card ∷ one) other all more = (all.0, all_joined_cards P one other all.1 more)

first_all : (low high : ℤ) (cards : List Card) → AllByRecursion (λ (card : Card). (low ≤ℤ card.id) × (card.id <ℤ high)) cards → AllByRecursion (λ (card : Card). low ≤ℤ card.id) cards
first_all low high [] all = tt
first_all low high (card ∷ cards) all = (all.0.0, first_all low high cards all.1)

lower_all : (low lower : ℤ) (cards : List Card) → lower ≤ℤ low → AllByRecursion (λ (card : Card). low ≤ℤ card.id) cards → AllByRecursion (λ (card : Card). lower ≤ℤ card.id) cards
lower_all low lower [] less all = tt
lower_all low lower (card ∷ cards) less all = let one = all.0 in (omega (arith, ints, less, one), lower_all low lower cards less all.1)

-- after cards the next one looks in the same table
pub after_table : (cards : List Card) (first : Name) → (first_after cards first).table ≡ first.table
after_table [] first = refl
after_table (card ∷ cards) first = after_table cards (name_in first.table (card.id +ℤ pos 1))

-- how the cards that a note lacks are made
pub missing_made : (note : LackingNote) (next : NextCards) → MakesFor note.note (IsNewCard (missing_place note next))
missing_made note next = λ ord id card is. record { own = ap (λ (k : Card). k.id) is; of = ap (λ (k : Card). k.nid) is; place = ap (λ (k : Card). k.ord) is }

-- the cards of all notes come at the first name or after it
pub all_from : (held : Rows) (lacking : List LackingNote) (next : NextCards) (cards : List Card) (end : NextCards) → AreAllMissing held lacking next cards end → AllByRecursion (λ (card : Card). next.first.id ≤ℤ card.id) cards
all_from held [] next cards end are = subst (AllByRecursion (λ (card : Card). next.first.id ≤ℤ card.id)) (sym are.0) tt
all_from held (note ∷ lacking) next cards end are =
    let own = between_ids (is_used (get held)) (IsNewCard (missing_place note next)) note.note next.first (lacked_ords note) are.0 (missing_made note next) are.3 in
    subst (AllByRecursion (λ (card : Card). next.first.id ≤ℤ card.id)) (sym are.2)
    (all_joined_cards (λ (card : Card). next.first.id ≤ℤ card.id) are.0 are.1 (first_all next.first.id (first_after are.0 next.first).id are.0 own.all)
    (lower_all (first_after are.0 next.first).id next.first.id are.1 own.goes (all_from held lacking (next_after are.0 next) are.1 end are.4)))

-- ---- a card that later ones leave
-- cards of greater ids leave a card
pub later_leave : (id : ℤ) (cards : List Card) (edit : Edit) → AllByRecursion (λ (card : Card). id <ℤ card.id) cards → (with_cards cards edit).rows (name_in tables.Card id) ≡ edit.rows (name_in tables.Card id)
later_leave id [] edit later = refl
later_leave id (card ∷ cards) edit later = later_leave id cards (with_row (rows.Card card) edit) later.1 ∙ by (put_cases (rows.Card card) edit (name_in tables.Card id))
  where
    by : ((name_in tables.Card id ≡ name_of (rows.Card card)) × ((with_row (rows.Card card) edit).rows (name_in tables.Card id) ≡ Some (rows.Card card)))
        ⊎ ((eq_by_cmp name_cmp (name_in tables.Card id) (name_of (rows.Card card)) ≡ false) × ((with_row (rows.Card card) edit).rows (name_in tables.Card id) ≡ edit.rows (name_in tables.Card id))) → (with_row (rows.Card card) edit).rows (name_in tables.Card id) ≡ edit.rows (name_in tables.Card id)
    by (inl put) = let same : id ≡ card.id = ap (λ (n : Name). n.id) put.0 in let less = later.0 in absurd (omega (arith, ints, same, less))
    by (inr was) = was.1

-- the last of some cards stands there
pub last_stands : (P : Card → Type 0) (card : Card) (cards : List Card) (edit : Edit) → AllByRecursion P (card ∷ cards) → (own : Card) × P own × ((with_cards (card ∷ cards) edit).rows (name_in tables.Card own.id) ≡ Some (rows.Card own))
last_stands P card [] edit all = (card, all.0, put_there (rows.Card card) edit)
last_stands P card (next ∷ cards) edit all = last_stands P next cards (with_row (rows.Card card) edit) all.1

pub past_all : (id low : ℤ) (cards : List Card) → id <ℤ low → AllByRecursion (λ (card : Card). low ≤ℤ card.id) cards → AllByRecursion (λ (card : Card). id <ℤ card.id) cards
past_all id low [] less all = tt
past_all id low (card ∷ cards) less all = let one = all.0 in (omega (arith, ints, less, one), past_all id low cards less all.1)

-- ---- the cards that a note lacks
-- a note without a card lacks one
pub lacks_some : (shown : List ℤ) → (ord : ℤ) × (ords : List ℤ) × (at_least_one (missing_from [] shown) ≡ ord ∷ ords)
lacks_some shown = by (missing_from [] shown)
  where
    by : (missing : List ℤ) → (ord : ℤ) × (ords : List ℤ) × (at_least_one missing ≡ ord ∷ ords)
    by [] = (pos 0, [], refl)
    by (ord ∷ ords) = (ord, ords, refl)

-- ords of the type
pub lacked_within : (note_type : NoteType) (lacking : LackingNote) → (note_type.cloze ≡ false → 1 ≤ length note_type.templates) → AllByRecursion (IsOrdOf note_type) lacking.shown
    → AllByRecursion (IsOrdOf note_type) (lacked_ords lacking)
lacked_within note_type lacking some shown =
    by lacking.needs_card lacking.held.ords (filter_all (IsOrdOf note_type) (λ (ord : ℤ). not (has_id lacking.held.ords ord)) lacking.shown shown)
  where
    by : (needs : Bool) (there : List ℤ) → AllByRecursion (IsOrdOf note_type) (missing_from lacking.held.ords lacking.shown) → AllByRecursion (IsOrdOf note_type) (or_first needs there (missing_from lacking.held.ords lacking.shown))
    by false there all = all
    by true [] all = least_within note_type (missing_from lacking.held.ords lacking.shown) some all
    by true (ord ∷ there) all = all

-- ---- lists of notes
pub nil_cons : {X Y : Type 0} {x : X} {xs : List X} → [] ≡ x ∷ xs → Y
nil_cons is = absurd (cc is)

all_split : (P : Note → Type 0) (one other : List Note) → AllByRecursion P (one ++ other) → AllByRecursion P one × AllByRecursion P other
all_split P [] other all = (tt, all)
all_split P (note ∷ one) other all = let rest = all_split P one other all.1 in ((all.0, rest.0), rest.1)

notes_joined : (P : Note → Type 0) (one other : List Note) → AllByRecursion P one → AllByRecursion P other → AllByRecursion P (one ++ other)
notes_joined P [] other all more = more
notes_joined P (note ∷ one) other all more = (all.0, notes_joined P one other all.1 more)

-- the rows of notes among entries
abbrev note_rows : List (Name × Row) → List Row
note_rows es = map (λ (entry : Name × Row). entry.1) (filter (λ (entry : Name × Row). is_past tables.Note (pos 0) entry.0) es)

-- what is so of each note of the type is so of one that is found
among_all : (P : Note → Type 0) (id : ℤ) (es : List (Name × Row)) → AllByRecursion P (flat_map (note_of id) (note_rows es))
    → AllByRecursion (λ (entry : Name × Row). is_past tables.Note (pos 0) entry.0 ≡ true → (n : Note) → entry.1 ≡ rows.Note n → int_eq n.mid id ≡ true → P n) es
among_all P id [] all = tt
among_all P id (e ∷ es) all =
    let more : List (Name × Row) = filter (λ (entry : Name × Row). is_past tables.Note (pos 0) entry.0) es in
    elim (is_past tables.Note (pos 0) e.0) as (λ (b : Bool). is_past tables.Note (pos 0) e.0 ≡ b → AllByRecursion P (flat_map (note_of id) (map (λ (entry : Name × Row). entry.1) (cond b (e ∷ more) more)))
    → AllByRecursion (λ (entry : Name × Row). is_past tables.Note (pos 0) entry.0 ≡ true → (n : Note) → entry.1 ≡ rows.Note n → int_eq n.mid id ≡ true → P n) (e ∷ es)) [
      | true ↦ λ _ all.
          let parts = all_split P (note_of id e.1) (flat_map (note_of id) (note_rows es)) all in
          ((λ _ n is of. (subst (λ (b : Bool). AllByRecursion P (cond b (n ∷ []) [])) of (subst (λ (row : Row). AllByRecursion P (note_of id row)) is parts.0)).0), among_all P id es parts.1)
      | false ↦ λ apart all. ((λ past _ _ _. false_true (sym apart ∙ past)), among_all P id es all)
    ] refl all

pub each_note : (P : Note → Type 0) (id : ℤ) (held : Rows) → AllByRecursion P (notes_of id held) → (n : Note) → get held (name_in tables.Note n.id) ≡ Some (rows.Note n) → n.mid ≡ id → pos 0 <ℤ n.id → P n
each_note P id held all n is of over =
    let past : int_lt (pos 0) n.id ≡ true = grind (arith, ints, over) in
    all_gets (λ (entry : Name × Row). is_past tables.Note (pos 0) entry.0 ≡ true → (m : Note) → entry.1 ≡ rows.Note m → int_eq m.mid id ≡ true → P m) held (name_in tables.Note n.id) (rows.Note n)
    (among_all P id (entries held) all) is past n refl ((Decides-int_eq n.mid id).1 of)

note_of_all : (P : Note → Type 0) (id : ℤ) (row : Row) → ((n : Note) → row ≡ rows.Note n → int_eq n.mid id ≡ true → P n) → AllByRecursion P (note_of id row)
note_of_all P id (rows.Note n) step =
    elim (int_eq n.mid id) as (λ (b : Bool). int_eq n.mid id ≡ b → AllByRecursion P (cond b (n ∷ []) [])) [ true ↦ λ is. (step n refl is, tt) | false ↦ λ _. tt ] refl
note_of_all P id (rows.Card x) step = tt
note_of_all P id (rows.Review x) step = tt
note_of_all P id (rows.NoteType x) step = tt
note_of_all P id (rows.Deck x) step = tt
note_of_all P id (rows.Options x) step = tt
note_of_all P id (rows.Grave x) step = tt

all_among : (P : Note → Type 0) (id : ℤ) (es : List (Name × Row)) → AllByRecursion (λ (entry : Name × Row). (n : Note) → entry.1 ≡ rows.Note n → int_eq n.mid id ≡ true → P n) es
    → AllByRecursion P (flat_map (note_of id) (note_rows es))
all_among P id [] all = tt
all_among P id (e ∷ es) all =
    let more : List (Name × Row) = filter (λ (entry : Name × Row). is_past tables.Note (pos 0) entry.0) es in
    elim (is_past tables.Note (pos 0) e.0) as (λ (b : Bool). AllByRecursion P (flat_map (note_of id) (map (λ (entry : Name × Row). entry.1) (cond b (e ∷ more) more)))) [
      | true ↦ notes_joined P (note_of id e.1) (flat_map (note_of id) (note_rows es)) (note_of_all P id e.1 all.0) (all_among P id es all.1)
      | false ↦ all_among P id es all.1
    ]

-- a note of the type that is held
abbrev pub IsOfType : Rows → ℤ → Note → Type 0
IsOfType held id n = (get held (name_in tables.Note n.id) ≡ Some (rows.Note n)) × (n.mid ≡ id)

found_typed : (id : ℤ) (held : Rows) (es : List (Name × Row)) → AreNamed (get held) → AllByRecursion (λ (entry : Name × Row). get held entry.0 ≡ Some entry.1) es
    → AllByRecursion (λ (entry : Name × Row). (n : Note) → entry.1 ≡ rows.Note n → int_eq n.mid id ≡ true → IsOfType held id n) es
found_typed id held [] named all = tt
found_typed id held (e ∷ es) named all = (
  (λ n is of.
      let there : get held e.0 ≡ Some (rows.Note n) = all.0 ∙ ap (λ (row : Row). Some row) is in
      (ap (get held) (named e.0 (rows.Note n) there) ∙ there, (Decides-int_eq n.mid id).0 of)),
  found_typed id held es named all.1,
)

pub all_of_type : (id : ℤ) (held : Rows) → AreNamed (get held) → AllByRecursion (IsOfType held id) (notes_of id held)
all_of_type id held named = all_among (IsOfType held id) id (entries held) (found_typed id held (entries held) named (entries_found held))
