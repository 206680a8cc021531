-- What each deck still takes, kept beside the limits, tells which card leaves a choice lawful.
use Rattle.std.proofs.Common.{◌≡◌, ◌≤◌, ◌+◌, ◌-◌, ◌==◌, Bool, true, false, not, ◌&&◌, cond, ℕ, ℤ, nat_le, List, [], ◌∷◌, ◌++◌, map, refl, sym, ap, ap₂, ◌∙◌, true≢false, arith, leb-true, le-leb}
use Rattle.std.proofs.lemmas.Bool.Decides.{nat_tests}
use Rattle.ak_base.specs.Paths.{are_first_parts}
use Rattle.ak_queue.specs.Choices.{count_under, keeps_limit, is_lawful_choice, chosen_after, first_choice}
use Rattle.ak_queue.specs.Orders.{NewKey}
use Rattle.ak_queue.specs.Rooms.{rooms_of, has_room, room_after, less_one}
use Rattle.ak_queue.specs.declared.limits.DeckLimits.{DeckLimits}
use Rattle.std.proofs.lemmas.List.{map_push}
use Rattle.ak_queue.proofs.Greedy.{count-append, none_lawful}
use Rattle.ak_queue.proofs.Nearest.{counted, passed_over}

-- what each deck still takes after some cards
abbrev pub rooms_left : List NewKey → List DeckLimits → List ℕ
rooms_left taken limits = map (λ (l : DeckLimits). l.new_cards - count_under l.parts taken) limits

test_led : (n t more : ℕ) → t ≤ n → more ≡ t + 1 → not (((n - t) == 0) && true) ≡ nat_le more n
test_led n t more fits is = grind (arith, nat_tests)

test_not_led : (n t more : ℕ) → t ≤ n → more ≡ t → not (((n - t) == 0) && false) ≡ nat_le more n
test_not_led n t more fits is =
    elim ((n - t) == 0) as (λ b. not (b && false) ≡ nat_le more n) [
      | true ↦ sym (le-leb more n (omega (arith, fits, is)))
      | false ↦ sym (le-leb more n (omega (arith, fits, is)))
    ]

-- a deck has room for a card exactly if it takes it
one_has_room : (l : DeckLimits) (taken : List NewKey) (card : NewKey) → keeps_limit taken l ≡ true
    → not (((l.new_cards - count_under l.parts taken) == 0) && are_first_parts l.parts card.0) ≡ keeps_limit (taken ++ card ∷ []) l
one_has_room l taken card within =
    let fits = leb-true (count_under l.parts taken) l.new_cards within in
    let both = count-append l.parts taken (card ∷ []) in
    elim (are_first_parts l.parts card.0) as (λ v. are_first_parts l.parts card.0 ≡ v → not (((l.new_cards - count_under l.parts taken) == 0) && v) ≡ keeps_limit (taken ++ card ∷ []) l) [
      | true ↦ λ led. let one = counted l.parts card [] led in test_led l.new_cards (count_under l.parts taken) (count_under l.parts (taken ++ card ∷ [])) fits (omega (arith, both, one))
      | false ↦ λ led. let none = passed_over l.parts card [] led in test_not_led l.new_cards (count_under l.parts taken) (count_under l.parts (taken ++ card ∷ [])) fits (omega (arith, both, none))
    ] refl

both_true : (a b : Bool) → (a && b) ≡ true → (a ≡ true) × (b ≡ true)
both_true true b h = (refl, h)
both_true false b h = absurd (true≢false (sym h))

-- all have room exactly if the card leaves the choice lawful
pub all_have_room : (limits : List DeckLimits) (taken : List NewKey) (card : NewKey) → is_lawful_choice limits taken ≡ true
    → has_room limits (rooms_left taken limits) card.0 ≡ is_lawful_choice limits (taken ++ card ∷ [])
all_have_room [] taken card h = refl
all_have_room (l ∷ ls) taken card h =
    let parts = both_true _ _ h in
    ap₂ (λ a b. a && b) (one_has_room l taken card parts.0) (all_have_room ls taken card parts.1)

-- and what is left then
one_less : (l : DeckLimits) (taken : List NewKey) (card : NewKey) → room_after l (l.new_cards - count_under l.parts taken) card.0 ≡ l.new_cards - count_under l.parts (taken ++ card ∷ [])
one_less l taken card =
    let both = count-append l.parts taken (card ∷ []) in
    elim (are_first_parts l.parts card.0) as (λ v. are_first_parts l.parts card.0 ≡ v → cond v ((l.new_cards - count_under l.parts taken) - 1) (l.new_cards - count_under l.parts taken) ≡ l.new_cards - count_under l.parts (taken ++ card ∷ [])) [
      | true ↦ λ led. let one = counted l.parts card [] led in omega (arith, both, one)
      | false ↦ λ led. let none = passed_over l.parts card [] led in omega (arith, both, none)
    ] refl

pub all_less : (limits : List DeckLimits) (taken : List NewKey) (card : NewKey) → less_one limits (rooms_left taken limits) card.0 ≡ rooms_left (taken ++ card ∷ []) limits
all_less [] taken card = refl
all_less (l ∷ ls) taken card = ap₂ (λ a b. a ∷ b) (one_less l taken card) (all_less ls taken card)

pub none_less : (limits : List DeckLimits) → rooms_of limits ≡ rooms_left [] limits
none_less [] = refl
none_less (l ∷ ls) = ap₂ (λ a b. a ∷ b) (omega arith) (none_less ls)

-- ---- one card after another
-- the cards that were taken, with those that the cards that are left add, are the choice
pub record Chooses (limits : List DeckLimits) (cards rest : List NewKey) (ids : List ℤ) (rooms : List ℕ) : Type 0 where
  pub taken : List NewKey
  pub ids_are : ids ≡ map (λ (card : NewKey). card.2) taken
  pub rooms_are : rooms ≡ rooms_left taken limits
  pub lawful : is_lawful_choice limits taken ≡ true
  pub choice : chosen_after limits taken rest ≡ first_choice limits cards

pub none_chosen : (limits : List DeckLimits) (cards : List NewKey) (ids : List ℤ) (rooms : List ℕ) → ids ≡ [] → rooms ≡ rooms_of limits → Chooses limits cards cards ids rooms
none_chosen limits cards ids rooms none all = record {
  taken = [];
  ids_are = none;
  rooms_are = all ∙ none_less limits;
  lawful = none_lawful limits;
  choice = refl;
}

-- a card for which all have room is taken
pub one_chosen : (limits : List DeckLimits) (cards rest : List NewKey) (card : NewKey) (ids more : List ℤ) (rooms left : List ℕ) → Chooses limits cards (card ∷ rest) ids rooms → has_room limits rooms card.0 ≡ true
    → left ≡ less_one limits rooms card.0 → more ≡ ids ++ card.2 ∷ [] → Chooses limits cards rest more left
one_chosen limits cards rest card ids more rooms left so_far room less step =
    let law : is_lawful_choice limits (so_far.taken ++ card ∷ []) ≡ true = sym (all_have_room limits so_far.taken card so_far.lawful) ∙ sym (ap (λ rs. has_room limits rs card.0) so_far.rooms_are) ∙ room in
    record {
      taken = so_far.taken ++ card ∷ [];
      ids_are = step ∙ ap (λ xs. xs ++ card.2 ∷ []) so_far.ids_are ∙ sym (map_push (λ (c : NewKey). c.2) so_far.taken card);
      rooms_are = less ∙ ap (λ rs. less_one limits rs card.0) so_far.rooms_are ∙ all_less limits so_far.taken card;
      lawful = law;
      choice = sym (ap (λ b. cond b (chosen_after limits (so_far.taken ++ card ∷ []) rest) (chosen_after limits so_far.taken rest)) law) ∙ so_far.choice;
    }

-- and another is not
pub none_more : (limits : List DeckLimits) (cards rest : List NewKey) (card : NewKey) (ids : List ℤ) (rooms : List ℕ) → Chooses limits cards (card ∷ rest) ids rooms → has_room limits rooms card.0 ≡ false
    → Chooses limits cards rest ids rooms
none_more limits cards rest card ids rooms so_far room =
    let law : is_lawful_choice limits (so_far.taken ++ card ∷ []) ≡ false = sym (all_have_room limits so_far.taken card so_far.lawful) ∙ sym (ap (λ rs. has_room limits rs card.0) so_far.rooms_are) ∙ room in
    record {
      taken = so_far.taken;
      ids_are = so_far.ids_are;
      rooms_are = so_far.rooms_are;
      lawful = so_far.lawful;
      choice = sym (ap (λ b. cond b (chosen_after limits (so_far.taken ++ card ∷ []) rest) (chosen_after limits so_far.taken rest)) law) ∙ so_far.choice;
    }

-- all were tested
pub all_chosen : (limits : List DeckLimits) (cards rest : List NewKey) (ids : List ℤ) (rooms : List ℕ) → rest ≡ [] → Chooses limits cards rest ids rooms → ids ≡ map (λ (card : NewKey). card.2) (first_choice limits cards)
all_chosen limits cards rest ids rooms ended so_far =
    so_far.ids_are ∙ ap (λ (cs : List NewKey). map (λ (card : NewKey). card.2) cs) (sym (ap (chosen_after limits so_far.taken) ended) ∙ so_far.choice)
