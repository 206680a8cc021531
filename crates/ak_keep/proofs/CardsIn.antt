-- The cards that are held, each as what is found under its name.
use Rattle.std.specs.Prelude.{◌≡◌, ℕ, ℤ, pos, true, false, cond, int_lt, Option, Some, None, List, [], ◌∷◌, map, filter}
use Rattle.std.proofs.Common.{refl, sym, ap, subst, ◌∙◌, arith, inl, inr, filter_map}
use Rattle.std.proofs.lemmas.Int.{ints}
use Rattle.std.proofs.lemmas.List.Elements.{All-from_recursion}
use Rattle.std.proofs.lemmas.Option.{none-some, same_Some}
use Rattle.std.specs.Cmp.{signed_Decides}
use Rattle.std.specs.FinMap.{find, get, entries, get-entries}
use Rattle.std.specs.List.{All, AllByRecursion, cons_option}
use Rattle.std.specs.Option.{option_and_then}
use Rattle.std.specs.Ordering.{is_eq}
use Rattle.std.specs.declared.cmp.Ordering.TheVariants.{Less, Equal, Greater}
use Rattle.ak_base.proofs.NameOrder.{names_exact}
use Rattle.ak_base.specs.Cards.{IsCheckedCard}
use Rattle.ak_base.specs.Names.{name_cmp}
use Rattle.ak_base.specs.Rows.{IsChecked, name_of}
use Rattle.ak_base.specs.declared.cards.Card.{Card}
use Rattle.ak_base.specs.declared.names.Name.{Name}
use Rattle.ak_base.specs.declared.names.Table.TheVariants as tables
use Rattle.ak_base.specs.declared.rows.Row.{Row}
use Rattle.ak_base.specs.declared.rows.Row.TheVariants as rows
use Rattle.ak_keep.proofs.CardIds.{card_id}
use Rattle.ak_keep.proofs.Forming.{checked_gets}
use Rattle.ak_keep.proofs.RowsByName.{IsNamed, entries_found}
use Rattle.ak_keep.specs.Collections.{Holding, IsId, IsWellFormed, Rows, StandsUnderNames, is_past}
use Rattle.ak_keep.specs.Lookups.{as_card, cards_in}
use Rattle.ak_keep.specs.WaitingCards.{IsHeld, IsOneOf, IsWaitingPage, waits}
use Rattle.ak_keep.specs.declared.queue_walks.Waiting.{Waiting}

-- the name of a card
abbrev pub card_name : Card → Name
card_name c = record { table = tables.Card; id = c.id }

-- ---- each of the cards is found
one_card : (held : Rows) (row : Row) (q : Name) (rest : List Card) (c : Card) → get held q ≡ Some row → name_of row ≡ q → (IsOneOf rest c → IsHeld held c) → IsOneOf (cons_option (as_card row) rest) c → IsHeld held c
one_card held (rows.Note n) q rest c got named later is = later is
one_card held (rows.Card d) q rest c got named later (inl same) =
    subst (IsHeld held) same (ap (option_and_then as_card) (ap (get held) named ∙ got))
one_card held (rows.Card d) q rest c got named later (inr is) = later is
one_card held (rows.Review r) q rest c got named later is = later is
one_card held (rows.NoteType t) q rest c got named later is = later is
one_card held (rows.Deck d) q rest c got named later is = later is
one_card held (rows.Options o) q rest c got named later is = later is
one_card held (rows.Grave g) q rest c got named later is = later is

abbrev cards_among : List (Name × Row) → List Card
cards_among es = filter_map as_card (map (λ (entry : Name × Row). entry.1) (filter (λ (entry : Name × Row). is_past tables.Card (pos 0) entry.0) es))

cards_found : (held : Rows) (es : List (Name × Row)) → AllByRecursion (λ entry. get held entry.0 ≡ Some entry.1) es → AllByRecursion IsNamed es → (c : Card) → IsOneOf (cards_among es) c → IsHeld held c
cards_found held [] got named c is = absurd is
cards_found held (e ∷ es) got named c is =
    let others = filter (λ (entry : Name × Row). is_past tables.Card (pos 0) entry.0) es in
    elim (is_past tables.Card (pos 0) e.0) as (λ b. IsOneOf (filter_map as_card (map (λ (entry : Name × Row). entry.1) (cond b (e ∷ others) others))) c → IsHeld held c) [
      | true ↦ one_card held e.1 e.0 (cards_among es) c got.0 named.0 (cards_found held es got.1 named.1 c)
      | false ↦ cards_found held es got.1 named.1 c
    ] is

pub held_from : (held : Rows) → StandsUnderNames held → (c : Card) → IsOneOf (cards_in held) c → IsHeld held c
held_from held named c is = cards_found held (entries held) (entries_found held) named c is

-- ---- and each card that is found is one of them
pub row_of_card : (o : Option Row) (c : Card) → option_and_then as_card o ≡ Some c → o ≡ Some (rows.Card c)
row_of_card None c is = absurd (none-some c is)
row_of_card (Some (rows.Note n)) c is = absurd (none-some c is)
row_of_card (Some (rows.Card d)) c is = ap (λ (x : Card). Some (rows.Card x)) (same_Some d c is)
row_of_card (Some (rows.Review r)) c is = absurd (none-some c is)
row_of_card (Some (rows.NoteType t)) c is = absurd (none-some c is)
row_of_card (Some (rows.Deck d)) c is = absurd (none-some c is)
row_of_card (Some (rows.Options o)) c is = absurd (none-some c is)
row_of_card (Some (rows.Grave g)) c is = absurd (none-some c is)

one_more : (o : Option Card) (rest : List Card) (c : Card) → IsOneOf rest c → IsOneOf (cons_option o rest) c
one_more None rest c is = is
one_more (Some d) rest c is = inr is

first_one : (row : Row) (rest : List Card) (c : Card) → row ≡ rows.Card c → IsOneOf (cons_option (as_card row) rest) c
first_one row rest c is = subst (λ (r : Row). IsOneOf (cons_option (as_card r) rest) c) (sym is) (inl refl)

found_among : (q : Name) (c : Card) (es : List (Name × Row)) → find name_cmp q es ≡ Some (rows.Card c) → is_past tables.Card (pos 0) q ≡ true → IsOneOf (cards_among es) c
found_among q c [] is past = absurd (none-some (rows.Card c) is)
found_among q c (e ∷ es) is past =
    let others = filter (λ (entry : Name × Row). is_past tables.Card (pos 0) entry.0) es in
    let later : find name_cmp q es ≡ Some (rows.Card c) → IsOneOf (cards_among (e ∷ es)) c =
    (λ k. elim (is_past tables.Card (pos 0) e.0) as (λ b. IsOneOf (filter_map as_card (map (λ (entry : Name × Row). entry.1) (cond b (e ∷ others) others))) c) [
      | true ↦ one_more (as_card e.1) (cards_among es) c (found_among q c es k past)
      | false ↦ found_among q c es k past
    ]) in
    elim (name_cmp q e.0) as (λ r. name_cmp q e.0 ≡ r → cond (is_eq r) (Some e.1) (find name_cmp q es) ≡ Some (rows.Card c) → IsOneOf (cards_among (e ∷ es)) c) [
      | Less ↦ λ _ k. later k
      | Equal ↦ λ t k.
          let here : is_past tables.Card (pos 0) e.0 ≡ true = ap (is_past tables.Card (pos 0)) (sym (names_exact q e.0 t)) ∙ past in
          subst (λ b. IsOneOf (filter_map as_card (map (λ (entry : Name × Row). entry.1) (cond b (e ∷ others) others))) c) (sym here) (first_one e.1 (cards_among es) c (same_Some e.1 (rows.Card c) k))
      | Greater ↦ λ _ k. later k
    ] refl is

id_is_past : (id : ℤ) → IsId id → int_lt (pos 0) id ≡ true
id_is_past id is =
    let low = is.low in
    elim (int_lt (pos 0) id) as (λ b. int_lt (pos 0) id ≡ b → b ≡ true) [
      | true ↦ λ _. refl
      | false ↦ λ no. absurd (grind (arith, ints, no, low))
    ] refl

checked_id : (c : Card) → IsChecked (rows.Card c) → IsId c.id
checked_id c fine = card_id c.nid (rows.Card c) ((signed_Decides c.nid c.nid).1 refl) fine

pub held_in : (h : Holding) → IsWellFormed h → (c : Card) → IsHeld h.rows c → IsOneOf (cards_in h.rows) c
held_in h formed c is =
    let got : get h.rows (card_name c) ≡ Some (rows.Card c) = row_of_card _ c is in
    found_among (card_name c) c (entries h.rows) (sym (get-entries h.rows (card_name c)) ∙ got) (id_is_past c.id (checked_id c (checked_gets h.rows (card_name c) (rows.Card c) formed.checked got)))

-- ---- so a page of what is found is one of what is held
moved : (h : Holding) → IsWellFormed h → (w : Waiting) (page : List Card) → AllByRecursion (λ c. IsHeld h.rows c × (waits w c ≡ true)) page → AllByRecursion (λ c. IsOneOf (cards_in h.rows) c × (waits w c ≡ true)) page
moved h formed w [] sound = tt
moved h formed w (c ∷ page) sound = ((held_in h formed c sound.0.0, sound.0.1), moved h formed w page sound.1)

pub page_in : (h : Holding) (w : Waiting) (limit : ℕ) (page : List Card) → IsWellFormed h → IsWaitingPage (IsHeld h.rows) w limit page → IsWaitingPage (IsOneOf (cards_in h.rows)) w limit page
page_in h w limit page formed is = record {
  sound = moved h formed w page is.sound;
  ascends = is.ascends;
  fits = is.fits;
  whole = λ c one waiting. is.whole c (held_from h.rows formed.named c one) waiting;
}

checked_each : (h : Holding) (w : Waiting) (page : List Card) → IsWellFormed h → AllByRecursion (λ c. IsHeld h.rows c × (waits w c ≡ true)) page → AllByRecursion IsCheckedCard page
checked_each h w [] formed sound = tt
checked_each h w (c ∷ page) formed sound = (checked_gets h.rows (card_name c) (rows.Card c) formed.checked (row_of_card _ c sound.0.0), checked_each h w page formed sound.1)

-- and each card of it passes its check
pub checked_cards : (h : Holding) (w : Waiting) (limit : ℕ) (page : List Card) → IsWellFormed h → IsWaitingPage (IsHeld h.rows) w limit page → All IsCheckedCard page
checked_cards h w limit page formed is = All-from_recursion IsCheckedCard page (checked_each h w page formed is.sound)
