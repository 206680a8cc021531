-- The first lawful choice is as large as any: a card of another choice can be given up for each that is taken.
use Rattle.std.proofs.Common.{◌≡◌, ◌≤◌, ◌+◌, ◌⊎◌, inl, inr, ⊎_elim, Bool, true, false, ◌&&◌, cond, suc, List, [], ◌∷◌, ◌++◌, length, filter, refl, sym, ap, subst, ◌∙◌, true≢false, arith, append_assoc, append-nil, length-append, leb-true, le-leb}
use Rattle.ak_base.specs.Paths.{are_first_parts}
use Rattle.ak_queue.specs.Choices.{count_under, keeps_limit, is_lawful_choice, chosen_after, first_choice}
use Rattle.ak_queue.specs.Homes.{Parts}
use Rattle.ak_queue.specs.Orders.{NewKey}
use Rattle.ak_queue.specs.declared.limits.DeckLimits.{DeckLimits}
use Rattle.ak_queue.proofs.Nearest.{Nearest, nearest, passed_over, counted}

-- ---- counting
pub count-append : (p : Parts) (xs ys : List NewKey) → count_under p (xs ++ ys) ≡ count_under p xs + count_under p ys
count-append p [] ys = omega arith
count-append p (x ∷ xs) ys =
    elim (are_first_parts p x.0) as (λ v. are_first_parts p x.0 ≡ v → count_under p (x ∷ (xs ++ ys)) ≡ count_under p (x ∷ xs) + count_under p ys) [
      | true ↦ λ e. let a = counted p x (xs ++ ys) e in let b = counted p x xs e in let c = count-append p xs ys in omega (arith, a, b, c)
      | false ↦ λ e. let a = passed_over p x (xs ++ ys) e in let b = passed_over p x xs e in let c = count-append p xs ys in omega (arith, a, b, c)
    ] refl

-- ---- lawful sets
-- where some sets keep each deck's limit, another does
all_keep : (A B C : List NewKey) (limits : List DeckLimits) → ((l : DeckLimits) → keeps_limit A l ≡ true → keeps_limit B l ≡ true → keeps_limit C l ≡ true)
    → is_lawful_choice limits A ≡ true → is_lawful_choice limits B ≡ true → is_lawful_choice limits C ≡ true
all_keep A B C [] each h g = refl
all_keep A B C (l ∷ ls) each h g =
    let a = both_true _ _ h in
    let b = both_true _ _ g in
    ap (λ v. v && is_lawful_choice ls C) (each l a.0 b.0) ∙ all_keep A B C ls each a.1 b.1
  where
    both_true : (a b : Bool) → (a && b) ≡ true → (a ≡ true) × (b ≡ true)
    both_true true b h = (refl, h)
    both_true false b h = absurd (true≢false (sym h))

-- the empty set is lawful
pub none_lawful : (limits : List DeckLimits) → is_lawful_choice limits [] ≡ true
none_lawful [] = refl
none_lawful (l ∷ ls) = ap (λ v. v && is_lawful_choice ls []) (le-leb 0 l.new_cards (omega arith)) ∙ none_lawful ls

-- what comes first of a lawful set is lawful
front_lawful : (limits : List DeckLimits) (xs ys : List NewKey) → is_lawful_choice limits (xs ++ ys) ≡ true → is_lawful_choice limits xs ≡ true
front_lawful limits xs ys h =
    all_keep (xs ++ ys) (xs ++ ys) xs limits
    (λ l a b.
    let most = leb-true (count_under l.parts (xs ++ ys)) l.new_cards a in
    let counts = count-append l.parts xs ys in
    le-leb (count_under l.parts xs) l.new_cards (omega (arith, most, counts)))
    h h

-- ---- one card for another
-- the set in which the nearest card was given up for x keeps a deck's limit
keeps_exchanged : (taken rest : List NewKey) (x : NewKey) (n : Nearest x.0 rest) (l : DeckLimits) → keeps_limit (taken ++ x ∷ []) l ≡ true → keeps_limit (taken ++ rest) l ≡ true
    → keeps_limit ((taken ++ x ∷ []) ++ (n.front ++ n.back)) l ≡ true
keeps_exchanged taken rest x n l with_x with_rest =
    let p = l.parts in
    let one = leb-true (count_under p (taken ++ x ∷ [])) l.new_cards with_x in
    let two = leb-true (count_under p (taken ++ rest)) l.new_cards with_rest in
    let a = count-append p taken (x ∷ []) in
    let b = count-append p taken rest in
    let c = count-append p (taken ++ x ∷ []) (n.front ++ n.back) in
    let d = count-append p n.front n.back in
    let e = count-append p n.front (n.card ∷ n.back) in
    let f : count_under p rest ≡ count_under p (n.front ++ n.card ∷ n.back) = ap (count_under p) n.is in
    le-leb (count_under p ((taken ++ x ∷ []) ++ (n.front ++ n.back))) l.new_cards
    (elim (are_first_parts p n.card.0) as (λ v. are_first_parts p n.card.0 ≡ v → count_under p ((taken ++ x ∷ []) ++ (n.front ++ n.back)) ≤ l.new_cards) [
      | true ↦ λ led.
          let g = counted p n.card n.back led in
          elim (are_first_parts p x.0) as (λ v. are_first_parts p x.0 ≡ v → count_under p ((taken ++ x ∷ []) ++ (n.front ++ n.back)) ≤ l.new_cards) [
            | true ↦ λ above. let h = counted p x [] above in omega (arith, one, two, a, b, c, d, e, f, g, h)
            | false ↦ λ above. let h = passed_over p x [] above in omega (arith, one, two, a, b, c, d, e, f, g, h)
          ] refl
      | false ↦ λ led.
          let g = passed_over p n.card n.back led in
          elim (are_first_parts p x.0) as (λ v. are_first_parts p x.0 ≡ v → count_under p ((taken ++ x ∷ []) ++ (n.front ++ n.back)) ≤ l.new_cards) [
            | true ↦ λ above. let h = n.none p above led in omega (arith, one, two, a, b, c, d, e, f, g, h)
            | false ↦ λ above. let h = passed_over p x [] above in omega (arith, one, two, a, b, c, d, e, f, g, h)
          ] refl
    ] refl)

exchanged : (limits : List DeckLimits) (taken rest : List NewKey) (x : NewKey) (n : Nearest x.0 rest) → is_lawful_choice limits (taken ++ x ∷ []) ≡ true → is_lawful_choice limits (taken ++ rest) ≡ true
    → is_lawful_choice limits ((taken ++ x ∷ []) ++ (n.front ++ n.back)) ≡ true
exchanged limits taken rest x n = all_keep (taken ++ x ∷ []) (taken ++ rest) ((taken ++ x ∷ []) ++ (n.front ++ n.back)) limits (keeps_exchanged taken rest x n)

-- ---- parts of a list
-- the first list is what is left of the second where some are passed over
abbrev IsPart : List NewKey → List NewKey → Type 0
IsPart rest [] = rest ≡ []
IsPart rest (x ∷ xs) = IsPart rest xs ⊎ ((others : List NewKey) × (rest ≡ x ∷ others) × IsPart others xs)

none_part : (xs : List NewKey) → IsPart [] xs
none_part [] = refl
none_part (x ∷ xs) = inl (none_part xs)

filter_part : (p : NewKey → Bool) (xs : List NewKey) → IsPart (filter p xs) xs
filter_part p [] = refl
filter_part p (x ∷ xs) =
    elim (p x) as (λ v. IsPart (cond v (x ∷ filter p xs) (filter p xs)) (x ∷ xs)) [
      | true ↦ inr (filter p xs, refl, filter_part p xs)
      | false ↦ inl (filter_part p xs)
    ]

-- without one card a part is still a part
part_without : (front : List NewKey) (card : NewKey) (back xs : List NewKey) → IsPart (front ++ card ∷ back) xs → IsPart (front ++ back) xs
part_without [] card back [] h = absurd (cc)
part_without (f ∷ front) card back [] h = absurd (cc)
part_without [] card back (x ∷ xs) h =
    ⊎_elim
    (λ part. inl (part_without [] card back xs part))
    (λ (part : (others : List NewKey) × (card ∷ back ≡ x ∷ others) × IsPart others xs).
    let same : part.0 ≡ back = cc in
    inl (subst (λ (r : List NewKey). IsPart r xs) same part.2))
    h
part_without (f ∷ front) card back (x ∷ xs) h =
    ⊎_elim
    (λ part. inl (part_without (f ∷ front) card back xs part))
    (λ (part : (others : List NewKey) × (f ∷ (front ++ card ∷ back) ≡ x ∷ others) × IsPart others xs).
    let same : part.0 ≡ front ++ card ∷ back = cc in
    let first : f ≡ x = cc in
    inr (front ++ back, ap (λ (y : NewKey). y ∷ (front ++ back)) first, part_without front card back xs (subst (λ (r : List NewKey). IsPart r xs) same part.2)))
    h

length-without : (front : List NewKey) (card : NewKey) (back : List NewKey) → length (front ++ card ∷ back) ≡ suc (length (front ++ back))
length-without [] card back = refl
length-without (f ∷ front) card back = let a = length-without front card back in omega (arith, a)

-- ---- the choice
-- what may still be added to cards that were taken is no more than what the choice adds
abbrev IsBest : List DeckLimits → List NewKey → List NewKey → Type 0
IsBest limits taken cards = (rest : List NewKey) → IsPart rest cards → is_lawful_choice limits (taken ++ rest) ≡ true → length taken + length rest ≤ length (chosen_after limits taken cards)

-- if x is taken and some are left, one of them is given up
gives_up : (limits : List DeckLimits) (taken cards : List NewKey) (x r : NewKey) (rs : List NewKey) → IsBest limits (taken ++ x ∷ []) cards → is_lawful_choice limits (taken ++ x ∷ []) ≡ true
    → IsPart (r ∷ rs) cards → is_lawful_choice limits (taken ++ r ∷ rs) ≡ true → length taken + length (r ∷ rs) ≤ length (chosen_after limits (taken ++ x ∷ []) cards)
gives_up limits taken cards x r rs is_best e part lawful =
    let n = nearest x.0 r rs in
    let smaller = part_without n.front n.card n.back cards (subst (λ (s : List NewKey). IsPart s cards) n.is part) in
    let a = is_best (n.front ++ n.back) smaller (exchanged limits taken (r ∷ rs) x n e lawful) in
    let b : length (r ∷ rs) ≡ suc (length (n.front ++ n.back)) = ap length n.is ∙ length-without n.front n.card n.back in
    let c = length-append taken (x ∷ []) in
    omega (arith, a, b, c)

used : (limits : List DeckLimits) (taken cards rest : List NewKey) (x : NewKey) → IsBest limits (taken ++ x ∷ []) cards → is_lawful_choice limits (taken ++ rest) ≡ true
    → (others : List NewKey) × (rest ≡ x ∷ others) × IsPart others cards → length taken + length rest ≤ length (chosen_after limits (taken ++ x ∷ []) cards)
used limits taken cards rest x is_best lawful h =
    let set : taken ++ rest ≡ (taken ++ x ∷ []) ++ h.0 = ap (λ (r : List NewKey). taken ++ r) h.1 ∙ sym (append_assoc taken (x ∷ []) h.0) in
    let a = is_best h.0 h.2 (subst (λ (s : List NewKey). is_lawful_choice limits s ≡ true) set lawful) in
    let b : length rest ≡ suc (length h.0) = ap length h.1 in
    let c = length-append taken (x ∷ []) in
    omega (arith, a, b, c)

skipped : (limits : List DeckLimits) (taken cards : List NewKey) (x : NewKey) → IsBest limits (taken ++ x ∷ []) cards → is_lawful_choice limits (taken ++ x ∷ []) ≡ true
    → (rest : List NewKey) → is_lawful_choice limits (taken ++ rest) ≡ true → IsPart rest cards → length taken + length rest ≤ length (chosen_after limits (taken ++ x ∷ []) cards)
skipped limits taken cards x is_best e [] lawful part =
    let a = is_best [] (none_part cards) (subst (λ (s : List NewKey). is_lawful_choice limits s ≡ true) (sym (append-nil (taken ++ x ∷ []))) e) in
    let c = length-append taken (x ∷ []) in
    omega (arith, a, c)
skipped limits taken cards x is_best e (r ∷ rs) lawful part = gives_up limits taken cards x r rs is_best e part lawful

barred : {P : Type 0} (limits : List DeckLimits) (taken cards rest : List NewKey) (x : NewKey) → is_lawful_choice limits (taken ++ x ∷ []) ≡ false → is_lawful_choice limits (taken ++ rest) ≡ true
    → (others : List NewKey) × (rest ≡ x ∷ others) × IsPart others cards → P
barred limits taken cards rest x e lawful h =
    let set : taken ++ rest ≡ (taken ++ x ∷ []) ++ h.0 = ap (λ (r : List NewKey). taken ++ r) h.1 ∙ sym (append_assoc taken (x ∷ []) h.0) in
    absurd (true≢false (sym (front_lawful limits (taken ++ x ∷ []) h.0 (subst (λ (s : List NewKey). is_lawful_choice limits s ≡ true) set lawful)) ∙ e))

best : (limits : List DeckLimits) (taken cards : List NewKey) → IsBest limits taken cards
best limits taken [] rest part lawful = let a : length rest ≡ 0 = ap length part in omega (arith, a)
best limits taken (x ∷ cards) rest part lawful =
    elim (is_lawful_choice limits (taken ++ x ∷ [])) as (λ v. is_lawful_choice limits (taken ++ x ∷ []) ≡ v → length taken + length rest ≤ length (cond v (chosen_after limits (taken ++ x ∷ []) cards) (chosen_after limits taken cards))) [
      | true ↦ λ e. ⊎_elim (λ later. skipped limits taken cards x (best limits (taken ++ x ∷ []) cards) e rest lawful later) (λ h. used limits taken cards rest x (best limits (taken ++ x ∷ []) cards) lawful h) part
      | false ↦ λ e. ⊎_elim (λ later. best limits taken cards rest later lawful) (λ h. barred limits taken cards rest x e lawful h) part
    ] refl

-- no lawful set of the cards is larger
pub largest : (limits : List DeckLimits) (cards : List NewKey) (picked : NewKey → Bool) → is_lawful_choice limits (filter picked cards) ≡ true → length (filter picked cards) ≤ length (first_choice limits cards)
largest limits cards picked lawful = let a = best limits [] cards (filter picked cards) (filter_part picked cards) lawful in omega (arith, a)

stays_lawful : (limits : List DeckLimits) (taken cards : List NewKey) → is_lawful_choice limits taken ≡ true → is_lawful_choice limits (chosen_after limits taken cards) ≡ true
stays_lawful limits taken [] h = h
stays_lawful limits taken (x ∷ cards) h =
    elim (is_lawful_choice limits (taken ++ x ∷ [])) as (λ v. is_lawful_choice limits (taken ++ x ∷ []) ≡ v → is_lawful_choice limits (cond v (chosen_after limits (taken ++ x ∷ []) cards) (chosen_after limits taken cards)) ≡ true) [
      | true ↦ λ e. stays_lawful limits (taken ++ x ∷ []) cards e
      | false ↦ λ e. stays_lawful limits taken cards h
    ] refl

-- the choice is lawful
pub choice_lawful : (limits : List DeckLimits) (cards : List NewKey) → is_lawful_choice limits (first_choice limits cards) ≡ true
choice_lawful limits cards = stays_lawful limits [] cards (none_lawful limits)
