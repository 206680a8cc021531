-- What is lawful by the limits is lawful in the words of a collection.
use Rattle.std.proofs.Common.{◌≡◌, ◌≤◌, ◌⊎◌, inl, inr, ⊎_elim, Bool, true, false, ◌&&◌, ◌||◌, cond, IsTrue, List, [], ◌∷◌, length, map, filter, refl, sym, ap, ◌∙◌, true≢false, arith, leb-true, le-leb}
use Rattle.std.specs.List.{AllByRecursion}
use Rattle.std.proofs.lemmas.List.{length-map}
use Rattle.ak_base.specs.Paths.{parts_of}
use Rattle.ak_base.specs.declared.days.Day.{Day}
use Rattle.ak_base.specs.declared.decks.Deck.{Deck}
use Rattle.ak_keep.specs.Collections.{Holding, Rows}
use Rattle.ak_queue.specs.Choices.{count_under, is_lawful_choice}
use Rattle.ak_keep.specs.Lookups.{decks_in}
use Rattle.ak_queue.specs.LawfulSets.{Binds, IsLawfulChoice, new_candidates, new_choice, new_limit}
use Rattle.ak_queue.specs.Limits.{all_limits, is_related, limits_of}
use Rattle.ak_queue.specs.Orders.{NewKey}
use Rattle.ak_queue.specs.Queues.{queue_of_deck}
use Rattle.ak_queue.proofs.Greedy.{choice_lawful, largest}

-- what a deck's limit asks of a set of new cards
abbrev Keeps : Rows → Day → Deck → List NewKey → Deck → Type 0
Keeps held day chosen cards d = Binds chosen d → count_under (parts_of d.name) cards ≤ new_limit held day d

both_true : (a b : Bool) → (a && b) ≡ true → (a ≡ true) × (b ≡ true)
both_true true b h = (refl, h)
both_true false b h = absurd (true≢false (sym h))

neither : (a b : Bool) → (a || b) ≡ false → IsTrue a ⊎ IsTrue b → ⊥
neither true b h some = true≢false h
neither false true h some = true≢false h
neither false false h some = ⊎_elim (λ t. true≢false (sym t)) (λ t. true≢false (sym t)) some

some_true : (a b : Bool) → (a || b) ≡ true → IsTrue a ⊎ IsTrue b
some_true true b h = inl refl
some_true false b h = inr h

-- by the limits of some decks, and by the decks themselves
lawful_by_decks : (held : Rows) (day : Day) (chosen : Deck) (cards : List NewKey) (decks : List Deck) → is_lawful_choice (all_limits held day (parts_of chosen.name) decks) cards ≡ true
    → AllByRecursion (Keeps held day chosen cards) decks
lawful_by_decks held day chosen cards [] h = tt
lawful_by_decks held day chosen cards (d ∷ ds) h =
    elim (is_related (parts_of chosen.name) (parts_of d.name)) as (λ b. is_related (parts_of chosen.name) (parts_of d.name) ≡ b
    → is_lawful_choice (map (limits_of held day) (cond b (d ∷ related) related)) cards ≡ true → AllByRecursion (Keeps held day chosen cards) (d ∷ ds)) [
      | true ↦ λ e law. let both = both_true _ _ law in (λ binds. leb-true (count_under (parts_of d.name) cards) (new_limit held day d) both.0, lawful_by_decks held day chosen cards ds both.1)
      | false ↦ λ e law. (λ binds. absurd (neither _ _ e binds), lawful_by_decks held day chosen cards ds law)
    ] refl h
  where
    related : List Deck
    related = filter (λ (x : Deck). is_related (parts_of chosen.name) (parts_of x.name)) ds

lawful_by_limits : (held : Rows) (day : Day) (chosen : Deck) (cards : List NewKey) (decks : List Deck) → AllByRecursion (Keeps held day chosen cards) decks
    → is_lawful_choice (all_limits held day (parts_of chosen.name) decks) cards ≡ true
lawful_by_limits held day chosen cards [] all = refl
lawful_by_limits held day chosen cards (d ∷ ds) all =
    let rest = lawful_by_limits held day chosen cards ds all.1 in
    elim (is_related (parts_of chosen.name) (parts_of d.name)) as (λ b. is_related (parts_of chosen.name) (parts_of d.name) ≡ b
    → is_lawful_choice (map (limits_of held day) (cond b (d ∷ filter (λ (x : Deck). is_related (parts_of chosen.name) (parts_of x.name)) ds) (filter (λ (x : Deck). is_related (parts_of chosen.name) (parts_of x.name)) ds))) cards ≡ true) [
      | true ↦ λ e. ap (λ v. v && is_lawful_choice (all_limits held day (parts_of chosen.name) ds) cards) (le-leb (count_under (parts_of d.name) cards) (new_limit held day d) (all.0 (some_true _ _ e))) ∙ rest
      | false ↦ λ e. rest
    ] refl

-- the new cards of a queue are a lawful set
pub new_list_lawful : (h : Holding) (day : Day) (deck : Deck) → IsLawfulChoice h.rows day deck (new_choice h day deck)
new_list_lawful h day deck =
    lawful_by_decks h.rows day deck (new_choice h day deck) (decks_in h.rows) (choice_lawful (all_limits h.rows day (parts_of deck.name) (decks_in h.rows)) (new_candidates h day deck))

-- and no lawful set of them is larger
pub no_larger : (h : Holding) (day : Day) (deck : Deck) (picked : NewKey → Bool) → IsLawfulChoice h.rows day deck (filter picked (new_candidates h day deck))
    → length (filter picked (new_candidates h day deck)) ≤ length (queue_of_deck h day deck).new_cards
no_larger h day deck picked lawful =
    let a = largest (all_limits h.rows day (parts_of deck.name) (decks_in h.rows)) (new_candidates h day deck) picked
    (lawful_by_limits h.rows day deck (filter picked (new_candidates h day deck)) (decks_in h.rows) lawful) in
    let b = length-map (new_choice h day deck) (λ (key : NewKey). key.2) in
    omega (arith, a, b)
