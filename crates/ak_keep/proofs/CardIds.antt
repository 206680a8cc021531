-- The ids of a note's cards: they ascend, and are in their range.
use Rattle.std.specs.Prelude.{◌≡◌, ℤ, true, false, T, cond, ◌==◌, List, [], ◌∷◌, map, filter, pos, ◌||◌, int_lt, Option, Some, None, Ok}
use Rattle.std.proofs.Common.{refl, sym, ap, subst, ◌∙◌, arith}
use Rattle.std.specs.FinMap.{entries, entries_sorted, is_sorted}
use Rattle.std.specs.FinMap.Entries.{below_all}
use Rattle.std.specs.List.{AllByRecursion, All}
use Rattle.std.specs.List.Sorted.{IsStrictlySortedBy}
use Rattle.std.specs.Ordering.{int_cmp}
use Rattle.std.specs.declared.cmp.Ordering.TheVariants.{Less}
use Rattle.ak_base.specs.Names.{name_cmp, table_place}
use Rattle.ak_base.specs.Rows.{name_of, IsChecked}
use Rattle.ak_base.specs.declared.names.Name.{Name}
use Rattle.ak_base.specs.declared.names.Table.TheVariants as tables
use Rattle.ak_base.specs.declared.rows.Row.{Row}
use Rattle.ak_base.specs.declared.rows.Row.TheVariants as rows
use Rattle.ak_keep.specs.Collections.{Rows, StandsUnderNames, is_card_of, cards_among, cards_of, Holding, IsId, IsWellFormed}
use Rattle.ak_keep.proofs.RowsByName.{both_first, both_second}
use Rattle.ak_keep.proofs.Paging.{ids_rise, compared_less}
use Rattle.std.proofs.lemmas.Int.{ints}
use Rattle.std.proofs.lemmas.List.Elements.{All-from_recursion}
use Rattle.ak_base.specs.Cards.{place_faults}
use Rattle.ak_base.specs.Columns.{first_fault, id_fault}
use Rattle.ak_base.specs.Limits.{last_id}
use Rattle.ak_base.specs.declared.errors.RowFault.{RowFault}
use Rattle.ak_base.specs.declared.errors.RowFault.TheVariants.{IdRange}

-- a note's card is in the table of cards
in_cards : (note : ℤ) (row : Row) → is_card_of note row ≡ true → (table_place (name_of row).table == table_place tables.Card) ≡ true
in_cards note (rows.Note n) is = absurd (subst T (sym is) tt)
in_cards note (rows.Card c) is = refl
in_cards note (rows.Review r) is = absurd (subst T (sym is) tt)
in_cards note (rows.NoteType t) is = absurd (subst T (sym is) tt)
in_cards note (rows.Deck d) is = absurd (subst T (sym is) tt)
in_cards note (rows.Options o) is = absurd (subst T (sym is) tt)
in_cards note (rows.Grave g) is = absurd (subst T (sym is) tt)

below_cards : (note : ℤ) (x : Name) (es : List (Name × Row)) → (table_place x.table == table_place tables.Card) ≡ true → T (below_all name_cmp x es) → AllByRecursion (λ entry. name_of entry.1 ≡ entry.0) es
    → AllByRecursion (λ id. int_cmp x.id id ≡ Less) (cards_among note es)
below_cards note x [] table h named = tt
below_cards note x (e ∷ es) table h named =
    let rest = below_cards note x es table (both_second _ _ h) named.1 in
    elim (is_card_of note e.1) as (λ b. is_card_of note e.1 ≡ b
    → AllByRecursion (λ id. int_cmp x.id id ≡ Less) (map (λ (entry : Name × Row). entry.0.id) (cond b (e ∷ filter (λ (entry : Name × Row). is_card_of note entry.1) es) (filter (λ (entry : Name × Row). is_card_of note entry.1) es)))) [
      | true ↦ λ is.
          let same = ap (λ (n : Name). table_place n.table == table_place tables.Card) (sym named.0) ∙ in_cards note e.1 is in
          (compared_less x.id e.0.id (ids_rise tables.Card x e.0 (both_first _ _ h) table same), rest)
      | false ↦ λ _. rest
    ] refl

cards_sorted : (note : ℤ) (es : List (Name × Row)) → T (is_sorted name_cmp es) → AllByRecursion (λ entry. name_of entry.1 ≡ entry.0) es → IsStrictlySortedBy int_cmp (cards_among note es)
unfolding IsStrictlySortedBy
cards_sorted note [] h named = tt
cards_sorted note (e ∷ es) h named =
    let rest = cards_sorted note es (both_second _ _ h) named.1 in
    elim (is_card_of note e.1) as (λ b. is_card_of note e.1 ≡ b
    → IsStrictlySortedBy int_cmp (map (λ (entry : Name × Row). entry.0.id) (cond b (e ∷ filter (λ (entry : Name × Row). is_card_of note entry.1) es) (filter (λ (entry : Name × Row). is_card_of note entry.1) es)))) [
      | true ↦ λ is.
          let same = ap (λ (n : Name). table_place n.table == table_place tables.Card) (sym named.0) ∙ in_cards note e.1 is in
          (below_cards note e.0 es same (both_first _ _ h) named.1, rest)
      | false ↦ λ _. rest
    ] refl

pub cards_of-sorted : (note : ℤ) (rows : Rows) → StandsUnderNames rows → IsStrictlySortedBy int_cmp (cards_of note rows)
cards_of-sorted note rows named = cards_sorted note (entries rows) (entries_sorted rows) named

-- ---- their range
-- an id without a fault is in its range
id_without_fault : (id : ℤ) → id_fault id ≡ None → IsId id
unfolding id_fault
id_without_fault id is =
    elim (int_lt id (pos 1)) as (λ b. int_lt id (pos 1) ≡ b → cond (b || int_lt last_id id) (Some IdRange) None ≡ None → IsId id) [
      | true ↦ λ _ is. cc
      | false ↦ λ low is.
          elim (int_lt last_id id) as (λ b. int_lt last_id id ≡ b → cond b (Some IdRange) None ≡ None → IsId id) [
            | true ↦ λ _ is. cc
            | false ↦ λ high _. record { low = grind (arith, ints, low); high = grind (arith, ints, high) }
          ] refl is
    ] refl is

first_is_none : (fault : Option RowFault) (faults : List (Option RowFault)) → first_fault (fault ∷ faults) ≡ Ok tt → fault ≡ None
first_is_none None faults is = refl
first_is_none (Some fault) faults is = cc

-- a note's card that passes its check has such an id
pub card_id : (note : ℤ) (row : Row) → is_card_of note row ≡ true → IsChecked row → IsId (name_of row).id
unfolding place_faults
card_id note (rows.Note n) is checked = absurd (subst T (sym is) tt)
card_id note (rows.Card c) is checked = id_without_fault c.id (first_is_none (id_fault c.id) _ checked)
card_id note (rows.Review r) is checked = absurd (subst T (sym is) tt)
card_id note (rows.NoteType t) is checked = absurd (subst T (sym is) tt)
card_id note (rows.Deck d) is checked = absurd (subst T (sym is) tt)
card_id note (rows.Options o) is checked = absurd (subst T (sym is) tt)
card_id note (rows.Grave g) is checked = absurd (subst T (sym is) tt)

cards_in_range : (note : ℤ) (es : List (Name × Row)) → AllByRecursion (λ entry. name_of entry.1 ≡ entry.0) es → AllByRecursion (λ entry. IsChecked entry.1) es → AllByRecursion IsId (cards_among note es)
cards_in_range note [] named checked = tt
cards_in_range note (e ∷ es) named checked =
    let rest = cards_in_range note es named.1 checked.1 in
    elim (is_card_of note e.1) as (λ b. is_card_of note e.1 ≡ b
    → AllByRecursion IsId (map (λ (entry : Name × Row). entry.0.id) (cond b (e ∷ filter (λ (entry : Name × Row). is_card_of note entry.1) es) (filter (λ (entry : Name × Row). is_card_of note entry.1) es)))) [
      | true ↦ λ is. (subst (λ (n : Name). IsId n.id) named.0 (card_id note e.1 is checked.0), rest)
      | false ↦ λ _. rest
    ] refl

-- the ids of a note's cards are in their range
pub cards_of-in_range : (note : ℤ) (h : Holding) (ids : List ℤ) → IsWellFormed h → ids ≡ cards_of note h.rows → All IsId ids
cards_of-in_range note h ids formed is = subst (All IsId) (sym is) (All-from_recursion IsId (cards_of note h.rows) (cards_in_range note (entries h.rows) formed.named formed.checked))
