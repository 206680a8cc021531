-- A deck that is built and then emptied: every row is as it was, but for stamps and usns.
use Rattle.std.specs.Prelude.{◌≡◌, ℕ, ℤ, pos, negsuc, Bool, true, false, ◌&&◌, ◌||◌, cond, int_lt, ◌++◌, T, IsTrue, if◌then◌else◌, is_some, List, Option, Some, None, option_and_then}
use Rattle.std.proofs.Common.{refl, sym, ap, subst, ◌∙◌, arith}
use Rattle.std.proofs.lemmas.Int.{ints}
use Rattle.std.proofs.Math.Path.{fun_ext}
use Rattle.std.proofs.lemmas.Bool.Decides.{Decides-int_eq}
use Rattle.std.proofs.lemmas.Option.{none-some, same_Some}
use Rattle.std.specs.Option.{option_map, option_map_or}
use Rattle.std.specs.Ordering.{int_eq}
use Rattle.ak_base.proofs.RowFacts.{same_fields-itself}
use Rattle.ak_base.specs.Cards.{mark_faults, place_faults, schedule_faults}
use Rattle.ak_base.specs.Columns.{id_fault}
use Rattle.ak_base.specs.Limits.{last_id}
use Rattle.ak_base.specs.declared.errors.RowFault.TheVariants.{IdRange}
use Rattle.ak_base.specs.Rows.{IsChecked, name_of}
use Rattle.ak_base.specs.Tables.{buried_name}
use Rattle.ak_base.specs.declared.cards.Card.{Card}
use Rattle.ak_base.specs.declared.decks.Deck.{Deck}
use Rattle.ak_base.specs.declared.names.Name.{Name}
use Rattle.ak_base.specs.declared.names.Table.TheVariants as tables
use Rattle.ak_base.specs.declared.rows.Row.{Row}
use Rattle.ak_base.specs.declared.rows.Row.TheVariants as rows
use Rattle.ak_edit_calls.specs.CardEdits.{changed_row}
use Rattle.ak_filtered.proofs.CardChanges.{emptied_blind, refilled_blind, row_blind}
use Rattle.ak_filtered.proofs.RowsBack.{SaysSame, bare, grave_stays, row_left, same_of_bare}
use Rattle.ak_filtered.specs.Builds.{IsBuilt, building, due_in, moved_in, refilled}
use Rattle.ak_filtered.specs.Emptyings.{IsEmptied, emptied, emptying, is_away_in}
use Rattle.ak_filtered.specs.HomeDecks.{DeckFlags, filtered_at, gone_home, is_away}
use Rattle.ak_filtered.specs.UnmovedCards.{AreAllUnmoved, IsUnmoved}
use Rattle.ak_keep.specs.Collections.{Collection}
use Rattle.ak_keep.specs.Keepers.{Keeping}
use Rattle.ak_keep.specs.Lookups.{as_card, as_deck}
use Rattle.ak_merge.proofs.CheckedRows.{faultless_of}
use Rattle.ak_merge.specs.EditBuilding.{unedited, with_rows_mapped}
use Rattle.ak_merge.specs.Edits.{IsEdited}
use Rattle.ak_merge.specs.Holdings.{AreChecked, AreNamed, name_in, row_under}
use Rattle.ak_merge.specs.Undoing.{IsBack, same_fields}
use Rattle.ak_undo.specs.declared.steps.Step.{Step}

-- ---- the decks stay
-- of a row whether it is a filtered deck, nothing if it is no deck
abbrev flag_in : Option Row → Option Bool
flag_in x = option_map (λ (deck : Deck). deck.filtered) (option_and_then as_deck x)

flag_bare : (row : Row) → flag_in (Some (bare row)) ≡ flag_in (Some row)
flag_bare (rows.Card card) = refl
flag_bare (rows.Note note) = refl
flag_bare (rows.Review review) = refl
flag_bare (rows.NoteType note_type) = refl
flag_bare (rows.Deck deck) = refl
flag_bare (rows.Options options) = refl
flag_bare (rows.Grave grave) = refl

flag_changed : (change : Card → Card) (row : Row) → flag_in (Some (changed_row change row)) ≡ flag_in (Some row)
flag_changed change (rows.Card card) = refl
flag_changed change (rows.Note note) = refl
flag_changed change (rows.Review review) = refl
flag_changed change (rows.NoteType note_type) = refl
flag_changed change (rows.Deck deck) = refl
flag_changed change (rows.Options options) = refl
flag_changed change (rows.Grave grave) = refl

bare_flag : (x : Option Row) → flag_in (option_map bare x) ≡ flag_in x
bare_flag None = refl
bare_flag (Some row) = flag_bare row

changed_flag : (change : Card → Card) (x : Option Row) → flag_in (option_map (changed_row change) x) ≡ flag_in x
changed_flag change None = refl
changed_flag change (Some row) = flag_changed change row

pub flags_stay : (at : ℤ) (c after : Collection) (change : Card → Card) → IsEdited at c (with_rows_mapped (changed_row change) (unedited c)) after
    → filtered_at after.rows ≡ filtered_at c.rows
flags_stay at c after change is = fun_ext (λ (id : ℤ).
    sym (bare_flag (row_under after (name_in tables.Deck id)))
    ∙ ap flag_in (row_left at c after (changed_row change) (name_in tables.Deck id) is refl)
    ∙ bare_flag (option_map (changed_row change) (row_under c (name_in tables.Deck id)))
    ∙ changed_flag change (row_under c (name_in tables.Deck id)))

-- ---- the cards come back
over_zero : (id : ℤ) → id_fault id ≡ None → int_lt (pos 0) id ≡ true
unfolding id_fault
over_zero id is =
    elim (int_lt id (pos 1)) as (λ b. int_lt id (pos 1) ≡ b → cond (b || int_lt last_id id) (Some IdRange) None ≡ None → int_lt (pos 0) id ≡ true) [
      | true ↦ λ _ is. absurd (none-some IdRange (sym is))
      | false ↦ λ more _. grind (arith, ints, more)
    ] refl is

-- the deck of a checked card has an id over 0
deck_over_zero : (card : Card) → IsChecked (rows.Card card) → int_lt (pos 0) card.did ≡ true
unfolding place_faults schedule_faults mark_faults
deck_over_zero card checked = over_zero card.did (faultless_of (place_faults card ++ (schedule_faults card ++ mark_faults card)) checked).1.1.0

at_home_stays : (deck : ℤ) (flags : DeckFlags) (card : Card) → card.odid ≡ pos 0 → emptied deck flags card ≡ card
at_home_stays deck flags card home =
    let near : is_away card ≡ false = ap (int_lt (pos 0)) home in
    ap (λ b. if b then gone_home flags card else card) (ap (λ b. int_eq card.did deck && b) near ∙ elim (int_eq card.did deck) as (λ b. (b && false) ≡ false) [ true ↦ refl | false ↦ refl ])

-- a card that moved in and goes home again
away_returns : (deck due : ℤ) (flags : DeckFlags) (card : Card) → int_lt (pos 0) card.did ≡ true → is_some (flags card.did) ≡ true → card.odid ≡ pos 0 → card.odue ≡ pos 0
    → emptied deck flags (moved_in deck due card) ≡ card
away_returns deck due flags card id held odid odue =
    let there : int_eq deck deck ≡ true = (Decides-int_eq deck deck).1 refl in
    ap (λ b. if b && is_away (moved_in deck due card) then gone_home flags (moved_in deck due card) else moved_in deck due card) there
    ∙ ap (λ b. if b then (if b then record card { did = if is_some (flags card.did) then card.did else pos 1; odue = pos 0; odid = pos 0 } else moved_in deck due card) else moved_in deck due card) id
    ∙ ap (λ b. record card { did = if b then card.did else pos 1; odue = pos 0; odid = pos 0 }) held
    ∙ ap (λ (n : ℤ). record card { odue = n; odid = pos 0 }) (sym odue)
    ∙ ap (λ (n : ℤ). record card { odid = n }) (sym odid)

card_returns : (deck : ℤ) (flags : DeckFlags) (dues : ℤ → Option ℤ) (card : Card) → int_lt (pos 0) card.did ≡ true → is_some (flags card.did) ≡ true → card.odid ≡ pos 0 → card.odue ≡ pos 0
    → emptied deck flags (refilled deck flags dues card) ≡ card
card_returns deck flags dues card id held odid odue =
    elim (dues card.id) as (λ (o : Option ℤ). emptied deck flags (option_map_or (λ (due : ℤ). moved_in deck due (emptied deck flags card)) o (emptied deck flags card)) ≡ card) [
      | None ↦ ap (emptied deck flags) (at_home_stays deck flags card odid) ∙ at_home_stays deck flags card odid
      | Some due ↦ ap (λ (k : Card). emptied deck flags (moved_in deck due k)) (at_home_stays deck flags card odid) ∙ away_returns deck due flags card id held odid odue
    ]

row_returns : (deck : ℤ) (flags : DeckFlags) (dues : ℤ → Option ℤ) (row : Row)
    → ((card : Card) → row ≡ rows.Card card → (int_lt (pos 0) card.did ≡ true) × (is_some (flags card.did) ≡ true) × (card.odid ≡ pos 0) × (card.odue ≡ pos 0))
    → changed_row (emptied deck flags) (changed_row (refilled deck flags dues) row) ≡ row
row_returns deck flags dues (rows.Card card) home = let is = home card refl in ap rows.Card (card_returns deck flags dues card is.0 is.1 is.2 is.3)
row_returns deck flags dues (rows.Note note) home = refl
row_returns deck flags dues (rows.Review review) home = refl
row_returns deck flags dues (rows.NoteType note_type) home = refl
row_returns deck flags dues (rows.Deck other) home = refl
row_returns deck flags dues (rows.Options options) home = refl
row_returns deck flags dues (rows.Grave grave) home = refl

-- ---- every name
-- what an edit makes of a row that another edit left
bare_changed : (change : Card → Card) (x y : Option Row) → ((row : Row) → bare (changed_row change row) ≡ changed_row change (bare row)) → option_map bare x ≡ option_map bare y
    → option_map bare (option_map (changed_row change) x) ≡ option_map bare (option_map (changed_row change) y)
bare_changed change None None blind is = refl
bare_changed change None (Some row) blind is = absurd (none-some (bare row) is)
bare_changed change (Some row) None blind is = absurd (none-some (bare row) (sym is))
bare_changed change (Some one) (Some other) blind is =
    ap Some (blind one ∙ ap (changed_row change) (same_Some (bare one) (bare other) is) ∙ sym (blind other))

fields_of : (x y : Option Row) → option_map bare y ≡ option_map bare x → IsTrue (same_fields x y)
fields_of None None is = refl
fields_of None (Some row) is = absurd (none-some (bare row) (sym is))
fields_of (Some row) None is = absurd (none-some (bare row) is)
fields_of (Some one) (Some other) is = same_of_bare one other (sym (same_Some (bare other) (bare one) is))

own : (x : Option Row) → IsTrue (same_fields x x)
own None = refl
own (Some row) = same_fields-itself row

module _ (at later deck : ℤ) (chosen : List ℤ) (c built after : Collection) (named : AreNamed (row_under c)) (checked : AreChecked (row_under c)) (home : AreAllUnmoved c)
    (is : IsEdited at c (building deck chosen c) built) (next : IsEdited later built (emptying deck built) after) where
  same_flags : filtered_at built.rows ≡ filtered_at c.rows
  same_flags = flags_stay at c built (refilled deck (filtered_at c.rows) (due_in chosen)) is

  at_home : (name : Name) (row : Row) (card : Card) → row_under c name ≡ Some row → row ≡ rows.Card card
      → (int_lt (pos 0) card.did ≡ true) × (is_some (filtered_at c.rows card.did) ≡ true) × (card.odid ≡ pos 0) × (card.odue ≡ pos 0)
  at_home name row card held kind =
      let there : row_under c name ≡ Some (rows.Card card) = held ∙ ap Some kind in
      let bears : name ≡ name_in tables.Card card.id = sym (named name (rows.Card card) there) in
      let rests : IsUnmoved c card = home card.id card (ap (option_and_then as_card) (sym (ap (row_under c) bears) ∙ there)) in
      (deck_over_zero card (checked name (rows.Card card) there), rests.deck, rests.odid, rests.odue)

  returns_row : (name : Name) (x : Option Row) → row_under c name ≡ x
      → option_map (changed_row (emptied deck (filtered_at c.rows))) (option_map (changed_row (refilled deck (filtered_at c.rows) (due_in chosen))) x) ≡ x
  returns_row name None held = refl
  returns_row name (Some row) held = ap Some (row_returns deck (filtered_at c.rows) (due_in chosen) row (λ card kind. at_home name row card held kind))

  plain_name : (name : Name) → buried_name name ≡ None → IsTrue (same_fields (row_under c name) (row_under after name))
  plain_name name none =
      fields_of (row_under c name) (row_under after name)
      (row_left later built after (changed_row (emptied deck (filtered_at built.rows))) name next none
      ∙ ap (λ (f : DeckFlags). option_map bare (option_map (changed_row (emptied deck f)) (row_under built name))) same_flags
      ∙ bare_changed (emptied deck (filtered_at c.rows)) (row_under built name) (option_map (changed_row (refilled deck (filtered_at c.rows) (due_in chosen))) (row_under c name))
      (λ row. row_blind (emptied deck (filtered_at c.rows)) row (emptied_blind deck (filtered_at c.rows)))
      (row_left at c built (changed_row (refilled deck (filtered_at c.rows) (due_in chosen))) name is none)
      ∙ ap (option_map bare) (returns_row name (row_under c name) refl))

  grave_name : (name row : Name) → buried_name name ≡ Some row → IsTrue (same_fields (row_under c name) (row_under after name))
  grave_name name row buried =
      subst (λ (x : Option Row). IsTrue (same_fields (row_under c name) x))
      (sym (grave_stays later built after (changed_row (emptied deck (filtered_at built.rows))) name row next buried
      ∙ grave_stays at c built (changed_row (refilled deck (filtered_at c.rows) (due_in chosen))) name row is buried))
      (own (row_under c name))

  each_name : (name : Name) (x : Option Name) → buried_name name ≡ x → IsTrue (same_fields (row_under c name) (row_under after name))
  each_name name None buried = plain_name name buried
  each_name name (Some row) buried = grave_name name row buried

  pub is_back : IsBack c after
  is_back = record {
    rows = λ name. each_name name (buried_name name) refl;
    tags = next.tags ∙ is.tags;
    conf = next.conf ∙ is.conf;
    crt = next.crt ∙ is.crt;
  }

-- the same of what the calls leave
pub calls_give_back : (at later deck : ℤ) (c : Collection) (k l m : Keeping) (left end : List Step) (came went : ℕ) → (built : IsBuilt at deck c k l left came)
    → (emptied : IsEmptied later deck built.cleared.after l m end went) → AreAllUnmoved c → IsBack c emptied.cleared.after
calls_give_back at later deck c k l m left end came went built emptied unmoved =
    is_back at later deck built.chosen c built.cleared.after emptied.cleared.after built.cleared.rightly.named built.cleared.rightly.checked unmoved built.cleared.edited emptied.cleared.edited
