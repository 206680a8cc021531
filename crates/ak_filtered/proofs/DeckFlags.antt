-- The decks that are held, noted one by one, are those under their names.
use Rattle.std.specs.Prelude.{◌≡◌, ℤ, pos, Bool, true, false, cond, if◌then◌else◌, is_some, List, [], ◌∷◌, find, length, Option, Some, None, option_and_then, Ok}
use Rattle.std.proofs.Common.{refl, sym, ap, ◌∙◌}
use Rattle.std.proofs.Math.Path.{fun_ext}
use Rattle.std.proofs.lemmas.Bool.Decides.{Decides-int_eq}
use Rattle.std.proofs.lemmas.List.{nil_from_length}
use Rattle.std.specs.Cmp.{tied_itself}
use Rattle.std.specs.FinMap.{entries, get}
use Rattle.std.specs.List.{filter_map}
use Rattle.std.specs.Option.{option_map, option_or}
use Rattle.std.specs.Ordering.{eq_by_cmp, int_eq, is_eq}
use Rattle.ak_base.specs.Names.{name_cmp, names_total}
use Rattle.ak_base.specs.Rows.{check_of, name_of}
use Rattle.ak_base.specs.declared.decks.Deck.{Deck}
use Rattle.ak_base.specs.declared.names.Name.{Name}
use Rattle.ak_base.specs.declared.names.Table.TheVariants as tables
use Rattle.ak_base.specs.declared.rows.Row.{Row}
use Rattle.ak_base.specs.declared.rows.Row.TheVariants as rows
use Rattle.ak_filtered.specs.HeldDecks.{flags_in}
use Rattle.ak_base.specs.declared.cards.Card.{Card}
use Rattle.ak_edit_calls.proofs.Telling.{where_told-both}
use Rattle.ak_filtered.specs.HomeDecks.{DeckFlags, filtered_at, flags_of, gone_home, is_away}
use Rattle.ak_filtered.specs.declared.held_decks.HeldDecks.{HeldDecks}
use Rattle.ak_keep.specs.Keepers.{IsRightlyKnown, Keeping, WhereTold}
use Rattle.ak_keep.proofs.RowsByName.{all_gets, entries_found, named-get, same_of_tied}
use Rattle.ak_keep.specs.Collections.{IsWellFormed, Rows, rows_past}
use Rattle.ak_keep.specs.Graves.{RowsByName}
use Rattle.ak_keep.specs.Lookups.{as_deck, decks_in}
use Rattle.ak_merge.proofs.EditFacts.{false_true}
use Rattle.ak_merge.specs.Holdings.{AreChecked, AreNamed, name_in}
use Rattle.ak_study.proofs.ChangedRows.{AreHeld, among, held_among, stands}

-- of a row whether it is a filtered deck, nothing if it is no deck
abbrev flag_of : Option Row → Option Bool
flag_of x = option_map (λ (deck : Deck). deck.filtered) (option_and_then as_deck x)

-- two ids are equal where their names are tied
same_test : (id other : ℤ) → int_eq other id ≡ eq_by_cmp name_cmp (name_in tables.Deck id) (name_in tables.Deck other)
same_test id other =
    elim (int_eq other id) as (λ b. int_eq other id ≡ b → b ≡ eq_by_cmp name_cmp (name_in tables.Deck id) (name_in tables.Deck other)) [
      | true ↦ λ is. sym (ap (λ (n : ℤ). eq_by_cmp name_cmp (name_in tables.Deck id) (name_in tables.Deck n)) ((Decides-int_eq other id).0 is) ∙ ap is_eq (tied_itself names_total (name_in tables.Deck id)))
      | false ↦ λ apart.
          elim (eq_by_cmp name_cmp (name_in tables.Deck id) (name_in tables.Deck other)) as (λ b. eq_by_cmp name_cmp (name_in tables.Deck id) (name_in tables.Deck other) ≡ b → false ≡ b) [
            | true ↦ λ tied. absurd (false_true (sym apart ∙ (Decides-int_eq other id).1 (sym (ap (λ (n : Name). n.id) (same_of_tied (name_in tables.Deck id) (name_in tables.Deck other) tied)))))
            | false ↦ λ _. refl
          ] refl
    ] refl

-- whether a row bears this name
abbrev bears : ℤ → Row → Bool
bears id row = eq_by_cmp name_cmp (name_in tables.Deck id) (name_of row)

some_cond : (t : Bool) (row : Row) (found : Option Row) → is_some (cond t (Some row) found) ≡ cond t true (is_some found)
some_cond true row found = refl
some_cond false row found = refl

abbrev nothing : Option Bool
nothing = None

either_none : (b : Bool) → cond b nothing nothing ≡ nothing
either_none true = refl
either_none false = refl

-- the row under the name of a deck, if a row that is held bears it
there : (at : RowsByName) (id : ℤ) (row : Row) → at (name_of row) ≡ Some row → bears id row ≡ true → at (name_in tables.Deck id) ≡ Some row
there at id row held tied = ap at (same_of_tied (name_in tables.Deck id) (name_of row) tied) ∙ held

-- a row that is no deck adds nothing
other_row : (at : RowsByName) (id : ℤ) (row : Row) (found : Option Row) (flag : Option Bool) → flag_of (Some row) ≡ None → at (name_of row) ≡ Some row
    → flag ≡ cond (is_some found) (flag_of (at (name_in tables.Deck id))) None
    → flag ≡ cond (is_some (cond (bears id row) (Some row) found)) (flag_of (at (name_in tables.Deck id))) None
other_row at id row found flag none held so_far =
    elim (bears id row) as (λ b. bears id row ≡ b → flag ≡ cond (is_some (cond b (Some row) found)) (flag_of (at (name_in tables.Deck id))) None) [
      | true ↦ λ tied.
          let nothing : flag_of (at (name_in tables.Deck id)) ≡ None = ap flag_of (there at id row held tied) ∙ none in
          so_far ∙ ap (λ (x : Option Bool). cond (is_some found) x None) nothing ∙ either_none (is_some found) ∙ sym nothing
      | false ↦ λ _. so_far
    ] refl

-- a deck does, if it bears the name
deck_row : (at : RowsByName) (id : ℤ) (deck : Deck) (found : Option Row) (flag : Option Bool) → at (name_in tables.Deck deck.id) ≡ Some (rows.Deck deck)
    → flag ≡ cond (is_some found) (flag_of (at (name_in tables.Deck id))) None
    → (if int_eq deck.id id then Some deck.filtered else flag) ≡ cond (is_some (cond (bears id (rows.Deck deck)) (Some (rows.Deck deck)) found)) (flag_of (at (name_in tables.Deck id))) None
deck_row at id deck found flag held so_far =
    ap (λ b. if b then Some deck.filtered else flag) (same_test id deck.id)
    ∙ elim (bears id (rows.Deck deck)) as (λ b. bears id (rows.Deck deck) ≡ b
    → (if b then Some deck.filtered else flag) ≡ cond (is_some (cond b (Some (rows.Deck deck)) found)) (flag_of (at (name_in tables.Deck id))) None) [
      | true ↦ λ tied. sym (ap flag_of (there at id (rows.Deck deck) held tied))
      | false ↦ λ _. so_far
    ] refl

-- the decks of a list of rows that are held
flags_among : (at : RowsByName) (id : ℤ) (list : List Row) → AreHeld at list
    → flags_in (filter_map as_deck list) id ≡ cond (is_some (find (bears id) list)) (flag_of (at (name_in tables.Deck id))) None
flags_among at id [] held = refl
flags_among at id (rows.Deck deck ∷ list) held = deck_row at id deck (find (bears id) list) (flags_in (filter_map as_deck list) id) held.0 (flags_among at id list held.1)
flags_among at id (rows.Card card ∷ list) held = other_row at id (rows.Card card) (find (bears id) list) (flags_in (filter_map as_deck list) id) refl held.0 (flags_among at id list held.1)
flags_among at id (rows.Note note ∷ list) held = other_row at id (rows.Note note) (find (bears id) list) (flags_in (filter_map as_deck list) id) refl held.0 (flags_among at id list held.1)
flags_among at id (rows.Review review ∷ list) held = other_row at id (rows.Review review) (find (bears id) list) (flags_in (filter_map as_deck list) id) refl held.0 (flags_among at id list held.1)
flags_among at id (rows.NoteType note_type ∷ list) held = other_row at id (rows.NoteType note_type) (find (bears id) list) (flags_in (filter_map as_deck list) id) refl held.0 (flags_among at id list held.1)
flags_among at id (rows.Options options ∷ list) held = other_row at id (rows.Options options) (find (bears id) list) (flags_in (filter_map as_deck list) id) refl held.0 (flags_among at id list held.1)
flags_among at id (rows.Grave grave ∷ list) held = other_row at id (rows.Grave grave) (find (bears id) list) (flags_in (filter_map as_deck list) id) refl held.0 (flags_among at id list held.1)

-- a row that is held is among those of its table, or it is no deck
found_flag : (held : Rows) (id : ℤ) (x : Option Row) → AreNamed (get held) → AreChecked (get held) → get held (name_in tables.Deck id) ≡ x
    → cond (is_some (find (bears id) (rows_past tables.Deck (pos 0) held))) (flag_of x) None ≡ flag_of x
found_flag held id None named checked is = either_none (is_some (find (bears id) (rows_past tables.Deck (pos 0) held)))
found_flag held id (Some row) named checked is =
    ap (λ b. cond b (flag_of (Some row)) None)
    (among tables.Deck held (name_in tables.Deck id) row named checked is (ap (λ (n : Name). n.table) (named (name_in tables.Deck id) row is)))

pub flags_held : (held : Rows) → AreNamed (get held) → AreChecked (get held) → flags_in (decks_in held) ≡ filtered_at held
flags_held held named checked = fun_ext (λ (id : ℤ).
    flags_among (get held) id (rows_past tables.Deck (pos 0) held) (held_among held tables.Deck (entries held) (entries_found held) (stands held named))
    ∙ found_flag held id (get held (name_in tables.Deck id)) named checked refl)

-- ---- one deck more is noted
pub flag_or : (x y z : Option Bool) → option_or (option_or x y) z ≡ option_or x (option_or y z)
flag_or None y z = refl
flag_or (Some b) y z = refl

pub first_or : (b : Bool) (flag : Bool) (rest : Option Bool) → option_or (if b then Some flag else None) rest ≡ (if b then Some flag else rest)
first_or true flag rest = refl
first_or false flag rest = refl

-- ---- all decks are noted
flag_end : (x : Option Bool) → option_or x None ≡ x
flag_end None = refl
flag_end (Some b) = refl

pub all_flags : (made : HeldDecks) (rest decks : List Deck) → length rest ≡ 0 → ((id : ℤ) → option_or (flags_of made id) (flags_in rest id) ≡ flags_in decks id) → flags_of made ≡ flags_in decks
all_flags made rest decks none so_far = fun_ext (λ (id : ℤ).
    sym (flag_end (flags_of made id)) ∙ sym (ap (λ (ds : List Deck). option_or (flags_of made id) (flags_in ds id)) (nil_from_length rest none)) ∙ so_far id)

-- ---- a card that goes home
pub home_is : (flags : DeckFlags) (card : Card) (deck due : ℤ) → is_away card ≡ true → deck ≡ (if is_some (flags card.odid) then card.odid else pos 1) → due ≡ card.odue
    → record card { did = deck; due = due; odue = pos 0; odid = pos 0 } ≡ gone_home flags card
home_is flags card deck due away at day =
    ap (λ (n : ℤ). record card { did = n; due = due; odue = pos 0; odid = pos 0 }) at
    ∙ ap (λ (n : ℤ). record card { did = if is_some (flags card.odid) then card.odid else pos 1; due = n; odue = pos 0; odid = pos 0 }) day
    ∙ sym (ap (λ b. if b then record card { did = if is_some (flags card.odid) then card.odid else pos 1; due = card.odue; odue = pos 0; odid = pos 0 } else card) away)

-- ---- decks that were read
pub flags_read : (k : Keeping) (decks : List Deck) (made : HeldDecks) → IsRightlyKnown k → flags_of made ≡ flags_in decks → WhereTold k (λ h. decks ≡ decks_in h.rows) → WhereTold k (λ h. flags_of made ≡ filtered_at h.rows)
flags_read k decks made known is told =
    where_told-both k IsWellFormed (λ h. decks ≡ decks_in h.rows) (λ h. flags_of made ≡ filtered_at h.rows)
    (λ h formed read. is ∙ ap flags_in read ∙ flags_held h.rows (λ name row at. named-get h.rows name row formed.named at) (λ name row at. all_gets (λ (entry : Name × Row). check_of entry.1 ≡ Ok tt) h.rows name row formed.checked at)) known.current told
