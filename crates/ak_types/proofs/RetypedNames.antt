-- What the changes of the notes of a type ask for: under each name, the row as it is after the edit.
use Rattle.std.specs.Prelude.{◌≡◌, ℤ, pos, Bool, true, false, ◌&&◌, ◌||◌, cond, if◌then◌else◌, List, [], ◌∷◌, ◌++◌, find, filter, map, Option, Some, None, is_some, is_none}
use Rattle.std.proofs.Common.{refl, sym, ap, ◌∙◌}
use Rattle.std.proofs.lemmas.Bool.Decides.{Decides-int_eq}
use Rattle.std.proofs.lemmas.Option.{none-some, same_Some}
use Rattle.std.specs.Cmp.{int_eq_equiv, tied_itself}
use Rattle.std.specs.FinMap.{entries, get}
use Rattle.std.specs.List.{AllByRecursion, flat_map, list_any}
use Rattle.std.specs.Option.{option_and_then, option_map, option_map_or, option_or, unwrap_or}
use Rattle.std.specs.Ordering.{eq_by_cmp, int_eq, is_eq}
use Rattle.ak_base.specs.Names.{name_cmp, names_total}
use Rattle.ak_base.specs.Rows.{name_of}
use Rattle.ak_base.specs.declared.cards.Card.{Card}
use Rattle.ak_base.specs.declared.names.Name.{Name}
use Rattle.ak_base.specs.declared.names.Table.{Table}
use Rattle.ak_base.specs.declared.names.Table.TheVariants as tables
use Rattle.ak_base.specs.declared.note_types.NoteType.{NoteType}
use Rattle.ak_base.specs.declared.notes.Note.{Note}
use Rattle.ak_base.specs.declared.rows.Row.{Row}
use Rattle.ak_base.specs.declared.rows.Row.TheVariants as rows
use Rattle.ak_edit_calls.proofs.Overlaying.{none_noted, put_under, removed_under, rest_of}
use Rattle.ak_edit.specs.Overlays.{Overlay, put_over, removed_over, row_over, unchanged}
use Rattle.ak_keep.proofs.RowsByName.{all_from_gets, same_of_tied}
use Rattle.ak_keep.specs.Collections.{Rows, cards_of, is_card_of, is_past, rows_past}
use Rattle.ak_keep.specs.Lookups.{as_card, as_note, card_at, note_at}
use Rattle.ak_merge.proofs.EditFacts.{false_true}
use Rattle.ak_merge.proofs.Finding.{id_over_zero, none_in_table}
use Rattle.ak_keep.specs.Graves.{RowsByName}
use Rattle.ak_merge.specs.Holdings.{AreChecked, AreNamed, name_in}
use Rattle.ak_notes.proofs.NoteCards.{names_card, names_card_is}
use Rattle.ak_notes.specs.Deletions.{without_cards}
use Rattle.ak_notes.specs.MadeNotes.{cards_over}
use Rattle.ak_types.specs.RetypedCards.{note_of, notes_of}
use Rattle.ak_types.specs.RetypedRows.{cards_retyped, has_type, is_dropped, kept_card, kept_cards, kept_with, note_retyped, notes_retyped, ord_after, retyped, retyped_note, with_ord}
use Rattle.ak_types.specs.declared.type_edits.TypeEdit.{TypeEdit}

-- ---- cards that were removed, and put again
-- cards that were removed have nothing under their names
cards_under : (cards : List ℤ) (o : Overlay) (at : RowsByName) (name : Name) → row_over (without_cards cards o) at name ≡ cond (names_card cards name) None (row_over o at name)
cards_under [] o at name = refl
cards_under (card ∷ cards) o at name =
    cards_under cards (removed_over (name_in tables.Card card) o) at name
    ∙ ap (cond (names_card cards name) None) (removed_under o at (name_in tables.Card card) name)
    ∙ elim (eq_by_cmp name_cmp name (name_in tables.Card card)) as (λ b. cond (names_card cards name) None (cond b None (row_over o at name)) ≡ cond (b || names_card cards name) None (row_over o at name)) [
      | true ↦ elim (names_card cards name) as (λ b. cond b None None ≡ let x : Option Row = None in x) [ true ↦ refl | false ↦ refl ]
      | false ↦ refl
    ]

-- the first of some cards, as a row
abbrev first_row : List Card → Option Row
first_row [] = None
first_row (card ∷ cards) = Some (rows.Card card)

-- the row of the card of this id that stays
abbrev kept_row : TypeEdit → NoteType → Rows → ℤ → Option Row
kept_row given old held id = first_row (kept_card given old (card_at held id))

over_both : (one other : List Card) (o : Overlay) → cards_over (one ++ other) o ≡ cards_over other (cards_over one o)
over_both [] other o = refl
over_both (card ∷ one) other o = over_both one other (put_over (rows.Card card) o)

-- the card of this id has it
abbrev HasId : Rows → ℤ → Type 0
HasId held id = (card : Card) → card_at held id ≡ Some card → card.id ≡ id

-- the card of one id that stays was put
one_put : (given : TypeEdit) (old : NoteType) (held : Rows) (id : ℤ) (o : Overlay) (name : Name) (found : Option Card) → ((card : Card) → found ≡ Some card → card.id ≡ id)
    → row_over (cards_over (kept_card given old found) o) (get held) name
    ≡ cond (eq_by_cmp name_cmp name (name_in tables.Card id)) (option_or (first_row (kept_card given old found)) (row_over o (get held) name)) (row_over o (get held) name)
one_put given old held id o name None has =
    elim (eq_by_cmp name_cmp name (name_in tables.Card id)) as (λ b. row_over o (get held) name ≡ cond b (row_over o (get held) name) (row_over o (get held) name)) [ true ↦ refl | false ↦ refl ]
one_put given old held id o name (Some card) has =
    elim (ord_after given old card.ord) as (λ (x : Option ℤ). row_over (cards_over (kept_with card x) o) (get held) name
    ≡ cond (eq_by_cmp name_cmp name (name_in tables.Card id)) (option_or (first_row (kept_with card x)) (row_over o (get held) name)) (row_over o (get held) name)) [
      | None ↦ elim (eq_by_cmp name_cmp name (name_in tables.Card id)) as (λ b. row_over o (get held) name ≡ cond b (row_over o (get held) name) (row_over o (get held) name)) [ true ↦ refl | false ↦ refl ]
      | Some ord ↦
          put_under o (get held) (rows.Card (with_ord card ord)) name
          ∙ ap (λ (i : ℤ). cond (eq_by_cmp name_cmp name (name_in tables.Card i)) (Some (rows.Card (with_ord card ord))) (row_over o (get held) name)) (has card refl)
    ]

-- two ways to the same row
put_twice : (same rest : Bool) (kept here x : Option Row) → (same ≡ true → here ≡ kept)
    → cond rest (option_or kept (cond same (option_or here x) x)) (cond same (option_or here x) x) ≡ cond (same || rest) (option_or kept x) x
put_twice false rest kept here x is = refl
put_twice true rest kept here x is =
    ap (λ (y : Option Row). cond rest (option_or kept (option_or y x)) (option_or y x)) (is refl)
    ∙ elim kept as (λ (y : Option Row). cond rest (option_or y (option_or y x)) (option_or y x) ≡ option_or y x) [
      | None ↦ elim rest as (λ b. cond b x x ≡ x) [ true ↦ refl | false ↦ refl ]
      | Some row ↦ elim rest as (λ b. cond b (Some row) (Some row) ≡ Some row) [ true ↦ refl | false ↦ refl ]
    ]

-- the cards that stay of these ids were put
kept_under : (given : TypeEdit) (old : NoteType) (held : Rows) (ids : List ℤ) (o : Overlay) (name : Name) → ((id : ℤ) → HasId held id)
    → row_over (cards_over (kept_cards given old held ids) o) (get held) name
    ≡ cond (names_card ids name) (option_or (kept_row given old held name.id) (row_over o (get held) name)) (row_over o (get held) name)
kept_under given old held [] o name has = refl
kept_under given old held (id ∷ ids) o name has =
    let first : Overlay = cards_over (kept_card given old (card_at held id)) o in
    ap (λ (p : Overlay). row_over p (get held) name) (over_both (kept_card given old (card_at held id)) (kept_cards given old held ids) o)
    ∙ kept_under given old held ids first name has
    ∙ ap (λ (x : Option Row). cond (names_card ids name) (option_or (kept_row given old held name.id) x) x) (one_put given old held id o name (card_at held id) (has id))
    ∙ put_twice (eq_by_cmp name_cmp name (name_in tables.Card id)) (names_card ids name) (kept_row given old held name.id) (kept_row given old held id) (row_over o (get held) name)
    (λ same. ap (λ (n : Name). kept_row given old held n.id) (sym (same_of_tied name (name_in tables.Card id) same)))

removed_or_kept : (is_one : Bool) (kept x : Option Row) → cond is_one (option_or kept (cond is_one None x)) (cond is_one None x) ≡ cond is_one kept x
removed_or_kept true None x = refl
removed_or_kept true (Some row) x = refl
removed_or_kept false kept x = refl

-- the cards of these ids, after both
cards_after : (given : TypeEdit) (old : NoteType) (held : Rows) (ids : List ℤ) (o : Overlay) (name : Name) → ((id : ℤ) → HasId held id)
    → row_over (cards_retyped given old held ids o) (get held) name ≡ cond (names_card ids name) (kept_row given old held name.id) (row_over o (get held) name)
cards_after given old held ids o name has =
    kept_under given old held ids (without_cards ids o) name has
    ∙ ap (λ (x : Option Row). cond (names_card ids name) (option_or (kept_row given old held name.id) x) x) (cards_under ids o (get held) name)
    ∙ removed_or_kept (names_card ids name) (kept_row given old held name.id) (row_over o (get held) name)

-- ---- what is held
found_note : (x : Option Row) (note : Note) → option_and_then as_note x ≡ Some note → x ≡ Some (rows.Note note)
found_note None note is = absurd (none-some note is)
found_note (Some (rows.Note n)) note is = ap (λ (m : Note). Some (rows.Note m)) (same_Some n note is)
found_note (Some (rows.Card r)) note is = absurd (none-some note is)
found_note (Some (rows.Review r)) note is = absurd (none-some note is)
found_note (Some (rows.NoteType r)) note is = absurd (none-some note is)
found_note (Some (rows.Deck r)) note is = absurd (none-some note is)
found_note (Some (rows.Options r)) note is = absurd (none-some note is)
found_note (Some (rows.Grave r)) note is = absurd (none-some note is)

found_card : (x : Option Row) (card : Card) → option_and_then as_card x ≡ Some card → x ≡ Some (rows.Card card)
found_card None card is = absurd (none-some card is)
found_card (Some (rows.Card c)) card is = ap (λ (d : Card). Some (rows.Card d)) (same_Some c card is)
found_card (Some (rows.Note r)) card is = absurd (none-some card is)
found_card (Some (rows.Review r)) card is = absurd (none-some card is)
found_card (Some (rows.NoteType r)) card is = absurd (none-some card is)
found_card (Some (rows.Deck r)) card is = absurd (none-some card is)
found_card (Some (rows.Options r)) card is = absurd (none-some card is)
found_card (Some (rows.Grave r)) card is = absurd (none-some card is)

card_has_id : (held : Rows) → AreNamed (get held) → (id : ℤ) → HasId held id
card_has_id held named id card is =
    ap (λ (n : Name). n.id) (named (name_in tables.Card id) (rows.Card card) (found_card (get held (name_in tables.Card id)) card is))

-- a note of the type that is held under its own name
pub record IsTyped (note_type : ℤ) (held : Rows) (note : Note) : Type 0 where
  pub there : get held (name_in tables.Note note.id) ≡ Some (rows.Note note)
  pub typed : int_eq note.mid note_type ≡ true

-- ---- one note
-- the row as it is after the edit, if it stays
abbrev pub row_after : TypeEdit → NoteType → Rows → Row → Option Row
row_after given old held row = option_map (retyped given old held) (if is_dropped given old held row then None else Some row)

-- whether the name is that of the note, or that of one of its cards
abbrev touches : Rows → Name → Note → Bool
touches held name note = option_map_or (is_card_of note.id) (get held name) false || eq_by_cmp name_cmp name (name_in tables.Note note.id)

-- the cards of a note of the type are its cards
typed_has : (note_type : ℤ) (held : Rows) (note : Note) (id : ℤ) → IsTyped note_type held note → id ≡ note.id → has_type note_type held id ≡ true
typed_has note_type held note id typed same =
    ap (has_type note_type held) same
    ∙ ap (λ (x : Option Row). option_map_or (λ (n : Note). int_eq n.mid note_type) (option_and_then as_note x) false) typed.there
    ∙ typed.typed

-- what becomes of a card of a note of the type
card_after : (given : TypeEdit) (old : NoteType) (held : Rows) (card : Card) → has_type given.note_type.id held card.nid ≡ true → first_row (kept_with card (ord_after given old card.ord)) ≡ row_after given old held (rows.Card card)
card_after given old held card has =
    elim (ord_after given old card.ord) as (λ (x : Option ℤ). first_row (kept_with card x)
    ≡ option_map (λ (row : Row). rows.Card (if true then with_ord card (unwrap_or x card.ord) else card)) (if true && is_none x then None else Some (rows.Card card))) [
      | None ↦ refl
      | Some ord ↦ refl
    ]
    ∙ ap (λ b. option_map (λ (row : Row). rows.Card (if b then with_ord card (unwrap_or (ord_after given old card.ord) card.ord) else card)) (if b && is_none (ord_after given old card.ord) then None else Some (rows.Card card))) (sym has)
    ∙ elim (has_type given.note_type.id held card.nid && is_none (ord_after given old card.ord)) as (λ b. option_map (λ (row : Row). rows.Card (if has_type given.note_type.id held card.nid then with_ord card (unwrap_or (ord_after given old card.ord) card.ord) else card)) (if b then None else Some (rows.Card card))
    ≡ option_map (retyped given old held) (if b then None else Some (rows.Card card))) [ true ↦ refl | false ↦ refl ]

-- a card of the note that is held under a name is kept as it is after the edit
own_card : (given : TypeEdit) (old : NoteType) (held : Rows) (note : Note) (name : Name) (row : Row) → AreNamed (get held) → IsTyped given.note_type.id held note → get held name ≡ Some row → is_card_of note.id row ≡ true
    → kept_row given old held name.id ≡ row_after given old held row
own_card given old held note name (rows.Card card) named typed there is =
    let at : name ≡ name_in tables.Card card.id = sym (named name (rows.Card card) there) in
    let found : card_at held name.id ≡ Some card = ap (λ (n : Name). card_at held n.id) at ∙ ap (option_and_then as_card) (ap (get held) (sym at) ∙ there) in
    ap (λ (x : Option Card). first_row (kept_card given old x)) found
    ∙ card_after given old held card (typed_has given.note_type.id held note card.nid typed ((Decides-int_eq card.nid note.id).0 is))
own_card given old held note name (rows.Note n) named typed there is = false_true is
own_card given old held note name (rows.Review r) named typed there is = false_true is
own_card given old held note name (rows.NoteType t) named typed there is = false_true is
own_card given old held note name (rows.Deck d) named typed there is = false_true is
own_card given old held note name (rows.Options o) named typed there is = false_true is
own_card given old held note name (rows.Grave g) named typed there is = false_true is

-- the row of the note after the edit
own_note : (given : TypeEdit) (old : NoteType) (held : Rows) (note : Note) (name : Name) → IsTyped given.note_type.id held note → eq_by_cmp name_cmp name (name_in tables.Note note.id) ≡ true
    → Some (rows.Note (retyped_note given note)) ≡ option_and_then (row_after given old held) (get held name)
own_note given old held note name typed same =
    ap (λ b. Some (rows.Note (if b then retyped_note given note else note))) (sym typed.typed)
    ∙ ap (option_and_then (row_after given old held)) (sym typed.there ∙ ap (get held) (sym (same_of_tied name (name_in tables.Note note.id) same)))

abbrev after_at : TypeEdit → NoteType → Rows → Name → Option Row
after_at given old held name = option_and_then (row_after given old held) (get held name)

is_card_there : (given : TypeEdit) (old : NoteType) (held : Rows) (note : Note) (name : Name) (found : Option Row) → AreNamed (get held) → IsTyped given.note_type.id held note → get held name ≡ found
    → option_map_or (is_card_of note.id) found false ≡ true → kept_row given old held name.id ≡ option_and_then (row_after given old held) found
is_card_there given old held note name None named typed there is = false_true is
is_card_there given old held note name (Some row) named typed there is = own_card given old held note name row named typed there is

note_after : (given : TypeEdit) (old : NoteType) (held : Rows) (note : Note) (name : Name) (o : Overlay) (card same : Bool) → (card ≡ true → kept_row given old held name.id ≡ after_at given old held name)
    → (same ≡ true → Some (rows.Note (retyped_note given note)) ≡ after_at given old held name)
    → cond card (kept_row given old held name.id) (cond same (Some (rows.Note (retyped_note given note))) (row_over o (get held) name)) ≡ cond (card || same) (after_at given old held name) (row_over o (get held) name)
note_after given old held note name o true same one other = one refl
note_after given old held note name o false true one other = other refl
note_after given old held note name o false false one other = refl

-- under each name, a note and its cards are as they are after the edit
one_under : (given : TypeEdit) (old : NoteType) (held : Rows) (note : Note) (o : Overlay) (name : Name) → AreNamed (get held) → IsTyped given.note_type.id held note
    → row_over (note_retyped given old held note o) (get held) name ≡ cond (touches held name note) (after_at given old held name) (row_over o (get held) name)
one_under given old held note o name named typed =
    let put : Overlay = put_over (rows.Note (retyped_note given note)) o in
    cards_after given old held (cards_of note.id held) put name (card_has_id held named)
    ∙ ap (λ b. cond b (kept_row given old held name.id) (row_over put (get held) name)) (names_card_is note.id held name named)
    ∙ ap (cond (option_map_or (is_card_of note.id) (get held name) false) (kept_row given old held name.id)) (put_under o (get held) (rows.Note (retyped_note given note)) name)
    ∙ note_after given old held note name o (option_map_or (is_card_of note.id) (get held name) false) (eq_by_cmp name_cmp name (name_in tables.Note note.id))
    (is_card_there given old held note name (get held name) named typed refl) (own_note given old held note name typed)

-- ---- all notes
either_after : (one rest : Bool) (a x : Option Row) → cond rest a (cond one a x) ≡ cond (one || rest) a x
either_after true true a x = refl
either_after true false a x = refl
either_after false rest a x = refl

all_under : (given : TypeEdit) (old : NoteType) (held : Rows) (notes : List Note) (o : Overlay) (name : Name) → AreNamed (get held) → AllByRecursion (IsTyped given.note_type.id held) notes
    → row_over (notes_retyped given old held notes o) (get held) name ≡ cond (list_any (touches held name) notes) (after_at given old held name) (row_over o (get held) name)
all_under given old held [] o name named typed = refl
all_under given old held (note ∷ notes) o name named typed =
    all_under given old held notes (note_retyped given old held note o) name named typed.1
    ∙ ap (cond (list_any (touches held name) notes) (after_at given old held name)) (one_under given old held note o name named typed.0)
    ∙ either_after (touches held name note) (list_any (touches held name) notes) (after_at given old held name) (row_over o (get held) name)

-- ---- the notes of the type
-- a row of the table is held under its name
picked_held : (held : RowsByName) (table : Table) (past : ℤ) (es : List (Name × Row)) → AllByRecursion (λ (e : Name × Row). held (name_of e.1) ≡ Some e.1) es
    → AllByRecursion (λ (row : Row). held (name_of row) ≡ Some row) (map (λ (e : Name × Row). e.1) (filter (λ (e : Name × Row). is_past table past e.0) es))
picked_held held table past [] all = tt
picked_held held table past (e ∷ es) all =
    let rest = picked_held held table past es all.1 in
    let others : List (Name × Row) = filter (λ (e : Name × Row). is_past table past e.0) es in
    elim (is_past table past e.0) as (λ b. AllByRecursion (λ (row : Row). held (name_of row) ≡ Some row) (map (λ (e : Name × Row). e.1) (cond b (e ∷ others) others))) [
      | true ↦ (all.0, rest)
      | false ↦ rest
    ]

table_held : (held : Rows) (table : Table) (past : ℤ) → AreNamed (get held) → AllByRecursion (λ (row : Row). get held (name_of row) ≡ Some row) (rows_past table past held)
table_held held table past named =
    picked_held (get held) table past (entries held)
    (all_from_gets (λ (e : Name × Row). get held (name_of e.1) ≡ Some e.1) held (λ name row is. ap (get held) (named name row is) ∙ is))

all_typed : (note_type : ℤ) (held : Rows) (all : List Row) → AllByRecursion (λ (row : Row). get held (name_of row) ≡ Some row) all → AllByRecursion (IsTyped note_type held) (flat_map (note_of note_type) all)
all_typed note_type held [] there = tt
all_typed note_type held (rows.Note note ∷ all) there =
    let rest = all_typed note_type held all there.1 in
    elim (int_eq note.mid note_type) as (λ b. int_eq note.mid note_type ≡ b → AllByRecursion (IsTyped note_type held) ((if b then note ∷ [] else []) ++ flat_map (note_of note_type) all)) [
      | true ↦ λ is. (record { there = there.0; typed = is }, rest)
      | false ↦ λ _. rest
    ] refl
all_typed note_type held (rows.Card card ∷ all) there = all_typed note_type held all there.1
all_typed note_type held (rows.Review review ∷ all) there = all_typed note_type held all there.1
all_typed note_type held (rows.NoteType other ∷ all) there = all_typed note_type held all there.1
all_typed note_type held (rows.Deck deck ∷ all) there = all_typed note_type held all there.1
all_typed note_type held (rows.Options options ∷ all) there = all_typed note_type held all there.1
all_typed note_type held (rows.Grave grave ∷ all) there = all_typed note_type held all there.1

-- whether a row is a note of the type that touches a name
abbrev row_touches : ℤ → Rows → Name → Row → Bool
row_touches note_type held name row = list_any (touches held name) (note_of note_type row)

any_both : (test : Note → Bool) (one other : List Note) → list_any test (one ++ other) ≡ (list_any test one || list_any test other)
any_both test [] other = refl
any_both test (note ∷ one) other = elim (test note) as (λ b. (b || list_any test (one ++ other)) ≡ ((b || list_any test one) || list_any test other)) [ true ↦ refl | false ↦ any_both test one other ]

-- one of the notes touches it, if such a row is found
found_touches : (note_type : ℤ) (held : Rows) (name : Name) (all : List Row) → list_any (touches held name) (flat_map (note_of note_type) all) ≡ is_some (find (row_touches note_type held name) all)
found_touches note_type held name [] = refl
found_touches note_type held name (row ∷ all) =
    any_both (touches held name) (note_of note_type row) (flat_map (note_of note_type) all)
    ∙ elim (row_touches note_type held name row) as (λ b. (b || list_any (touches held name) (flat_map (note_of note_type) all)) ≡ is_some (cond b (Some row) (find (row_touches note_type held name) all))) [
      | true ↦ refl
      | false ↦ found_touches note_type held name all
    ]

-- a note of the type that is held touches no name, if none is found that does
untouched : (note_type : ℤ) (held : Rows) (name : Name) (note : Note) → AreChecked (get held) → IsTyped note_type held note → find (row_touches note_type held name) (rows_past tables.Note (pos 0) held) ≡ None
    → touches held name note ≡ false
untouched note_type held name note checked typed none =
    let at : Name = name_in tables.Note note.id in
    let past : is_past tables.Note (pos 0) at ≡ true = id_over_zero (rows.Note note) (checked at (rows.Note note) typed.there) in
    let fails : row_touches note_type held name (rows.Note note) ≡ false = none_in_table (row_touches note_type held name) tables.Note held none at (rows.Note note) typed.there past in
    let alone : (touches held name note || false) ≡ false = sym (ap (λ b. list_any (touches held name) (if b then note ∷ [] else [])) typed.typed) ∙ fails in
    elim (touches held name note) as (λ b. (b || false) ≡ false → b ≡ false) [ true ↦ λ is. is | false ↦ λ is. is ] alone

tied : (name : Name) → eq_by_cmp name_cmp name name ≡ true
tied name = ap is_eq (tied_itself names_total name)

-- a card of a note of another type stays
card_stays : (given : TypeEdit) (old : NoteType) (held : Rows) (card : Card) → has_type given.note_type.id held card.nid ≡ false → row_after given old held (rows.Card card) ≡ Some (rows.Card card)
card_stays given old held card other =
    ap (λ b. option_map (retyped given old held) (if b && is_none (ord_after given old card.ord) then None else Some (rows.Card card))) other
    ∙ ap (λ b. Some (rows.Card (if b then with_ord card (unwrap_or (ord_after given old card.ord) card.ord) else card))) other

-- what no note of the type touches stays
stays : (given : TypeEdit) (old : NoteType) (held : Rows) (name : Name) (row : Row) → AreNamed (get held) → AreChecked (get held) → get held name ≡ Some row
    → find (row_touches given.note_type.id held name) (rows_past tables.Note (pos 0) held) ≡ None → row_after given old held row ≡ Some row
stays given old held name (rows.Note note) named checked there none =
    elim (int_eq note.mid given.note_type.id) as (λ b. int_eq note.mid given.note_type.id ≡ b → Some (rows.Note (if b then retyped_note given note else note)) ≡ Some (rows.Note note)) [
      | true ↦ λ is.
          let at : name ≡ name_in tables.Note note.id = sym (named name (rows.Note note) there) in
          let typed : IsTyped given.note_type.id held note = record { there = ap (get held) (sym at) ∙ there; typed = is } in
          let touched : touches held name note ≡ true = ap (λ (x : Option Row). option_map_or (is_card_of note.id) x false || eq_by_cmp name_cmp name (name_in tables.Note note.id)) there
          ∙ ap (eq_by_cmp name_cmp name) (sym at) ∙ tied name in
          false_true (sym (untouched given.note_type.id held name note checked typed none) ∙ touched)
      | false ↦ λ _. refl
    ] refl
stays given old held name (rows.Card card) named checked there none =
    elim (note_at held card.nid) as (λ (x : Option Note). note_at held card.nid ≡ x → row_after given old held (rows.Card card) ≡ Some (rows.Card card)) [
      | None ↦ λ is. card_stays given old held card (ap (λ (x : Option Note). option_map_or (λ (n : Note). int_eq n.mid given.note_type.id) x false) is)
      | Some note ↦ λ is. elim (int_eq note.mid given.note_type.id) as (λ b. int_eq note.mid given.note_type.id ≡ b → row_after given old held (rows.Card card) ≡ Some (rows.Card card)) [
        | true ↦ λ of.
            let found : get held (name_in tables.Note card.nid) ≡ Some (rows.Note note) = found_note (get held (name_in tables.Note card.nid)) note is in
            let id : note.id ≡ card.nid = ap (λ (n : Name). n.id) (named (name_in tables.Note card.nid) (rows.Note note) found) in
            let typed : IsTyped given.note_type.id held note = record { there = ap (λ (i : ℤ). get held (name_in tables.Note i)) id ∙ found; typed = of } in
            let own : int_eq card.nid note.id ≡ true = ap (int_eq card.nid) id ∙ int_eq_equiv.refl card.nid in
            let touched : touches held name note ≡ true = ap (λ (x : Option Row). option_map_or (is_card_of note.id) x false || eq_by_cmp name_cmp name (name_in tables.Note note.id)) there
            ∙ ap (λ b. b || eq_by_cmp name_cmp name (name_in tables.Note note.id)) own in
            false_true (sym (untouched given.note_type.id held name note checked typed none) ∙ touched)
        | false ↦ λ other. card_stays given old held card (ap (λ (x : Option Note). option_map_or (λ (n : Note). int_eq n.mid given.note_type.id) x false) is ∙ other)
      ] refl
    ] refl
stays given old held name (rows.Review review) named checked there none = refl
stays given old held name (rows.NoteType note_type) named checked there none = refl
stays given old held name (rows.Deck deck) named checked there none = refl
stays given old held name (rows.Options options) named checked there none = refl
stays given old held name (rows.Grave grave) named checked there none = refl

settled : (given : TypeEdit) (old : NoteType) (held : Rows) (name : Name) (found : Option Row) → AreNamed (get held) → AreChecked (get held) → get held name ≡ found
    → cond (is_some (find (row_touches given.note_type.id held name) (rows_past tables.Note (pos 0) held))) (option_and_then (row_after given old held) found) found ≡ option_and_then (row_after given old held) found
settled given old held name None named checked there =
    elim (is_some (find (row_touches given.note_type.id held name) (rows_past tables.Note (pos 0) held))) as (λ b. cond b None None ≡ let x : Option Row = None in x) [ true ↦ refl | false ↦ refl ]
settled given old held name (Some row) named checked there =
    elim (find (row_touches given.note_type.id held name) (rows_past tables.Note (pos 0) held)) as (λ (x : Option Row). find (row_touches given.note_type.id held name) (rows_past tables.Note (pos 0) held) ≡ x
    → cond (is_some x) (row_after given old held row) (Some row) ≡ row_after given old held row) [
      | None ↦ λ none. sym (stays given old held name row named checked there none)
      | Some other ↦ λ _. refl
    ] refl

-- under each name of what is held, the changes of all notes of the type ask for the row as it is after the edit
pub retyped_asked : (given : TypeEdit) (old : NoteType) (held : Rows) (name : Name) → AreNamed (get held) → AreChecked (get held)
    → row_over (notes_retyped given old held (notes_of given.note_type.id held) unchanged) (get held) name ≡ option_and_then (row_after given old held) (get held name)
retyped_asked given old held name named checked =
    all_under given old held (notes_of given.note_type.id held) unchanged name named
    (all_typed given.note_type.id held (rows_past tables.Note (pos 0) held) (table_held held tables.Note (pos 0) named))
    ∙ ap (cond (list_any (touches held name) (notes_of given.note_type.id held)) (after_at given old held name)) (none_noted (get held) name)
    ∙ ap (λ b. cond b (after_at given old held name) (get held name)) (found_touches given.note_type.id held name (rows_past tables.Note (pos 0) held))
    ∙ settled given old held name (get held name) named checked refl

-- ---- what is said besides rows
rest_put : (cards : List Card) (o : Overlay) → rest_of (cards_over cards o) ≡ rest_of o
rest_put [] o = refl
rest_put (card ∷ cards) o = rest_put cards (put_over (rows.Card card) o)

rest_removed : (cards : List ℤ) (o : Overlay) → rest_of (without_cards cards o) ≡ rest_of o
rest_removed [] o = refl
rest_removed (card ∷ cards) o = rest_removed cards (removed_over (name_in tables.Card card) o)

pub retyped_rest : (given : TypeEdit) (old : NoteType) (held : Rows) (notes : List Note) (o : Overlay) → rest_of (notes_retyped given old held notes o) ≡ rest_of o
retyped_rest given old held [] o = refl
retyped_rest given old held (note ∷ notes) o =
    let put : Overlay = put_over (rows.Note (retyped_note given note)) o in
    retyped_rest given old held notes (note_retyped given old held note o)
    ∙ rest_put (kept_cards given old held (cards_of note.id held)) (without_cards (cards_of note.id held) put)
    ∙ rest_removed (cards_of note.id held) put
