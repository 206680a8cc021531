-- The choice takes each card in its turn.
use Rattle.std.proofs.Common.{◌≡◌, true, false, cond, List, [], ◌∷◌, ◌++◌, refl}
use Rattle.ak_queue.specs.Choices.{is_lawful_choice, chosen_after, first_choice, with_next}
use Rattle.ak_queue.specs.Orders.{NewKey}
use Rattle.ak_queue.specs.declared.limits.DeckLimits.{DeckLimits}

after_more : (limits : List DeckLimits) (taken before : List NewKey) (card : NewKey) → chosen_after limits taken (before ++ card ∷ []) ≡ with_next limits (chosen_after limits taken before) card
after_more limits taken [] card = refl
after_more limits taken (x ∷ before) card =
    elim (is_lawful_choice limits (taken ++ x ∷ [])) as (λ b. cond b (chosen_after limits (taken ++ x ∷ []) (before ++ card ∷ [])) (chosen_after limits taken (before ++ card ∷ []))
    ≡ with_next limits (cond b (chosen_after limits (taken ++ x ∷ []) before) (chosen_after limits taken before)) card) [
      | true ↦ after_more limits (taken ++ x ∷ []) before card
      | false ↦ after_more limits taken before card
    ]

pub in_turn : (limits : List DeckLimits) (before : List NewKey) (card : NewKey) → first_choice limits (before ++ card ∷ []) ≡ with_next limits (first_choice limits before) card
in_turn limits before card = after_more limits [] before card
