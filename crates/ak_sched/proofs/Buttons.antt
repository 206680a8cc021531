-- The order of the buttons.
use Rattle.std.proofs.Common.{◌≡◌, ℕ, ℤ, pos, ◌+◌, ◌<◌, ◌<ℤ◌, min, max, ◌⊎◌, inl, inr, sym, subst, ap, ◌∙◌, arith}
use Rattle.std.proofs.lemmas.Int.{ints}
use Rattle.std.proofs.lemmas.Bool.{cases_lt}
use Rattle.ak_base.specs.OptionGroups.{IsCheckedOptions, options_faults}
use Rattle.ak_base.specs.declared.cards.Card.{Card}
use Rattle.ak_base.specs.declared.days.Day.{Day}
use Rattle.ak_base.specs.declared.option_groups.Options.{Options}
use Rattle.ak_sched.specs.Counts.{clamped_to_zero}
use Rattle.ak_sched.specs.Intervals.{IsHard, IsGood, IsEasy, limited}
use Rattle.ak_sched.specs.Transitions.{IsTransition}
use Rattle.ak_sched.specs.Answers.{button_of, kind_of, IsAnswer}
use Rattle.ak_sched.specs.declared.answers.Answered.{Answered}
use Rattle.ak_sched.specs.declared.card_states.Kind.{Kind}
use Rattle.ak_sched.specs.declared.card_states.Kind.TheVariants.{Review}
use Rattle.ak_sched.specs.declared.card_states.CardState.{CardState}
use Rattle.ak_sched.specs.declared.card_states.Outcome.{Outcome}
use Rattle.ak_sched.proofs.Numbers.{pos_clamped}
use Rattle.ak_sched.proofs.Checks.{options_in_range}
use Rattle.ak_sched.proofs.Faults.{checked_ok}
use Rattle.ak_sched.proofs.Unique.{one_hard, one_good, one_state}

above_or_most : (most fuzz below days : ℕ) → days ≡ min most (max fuzz (below + 1)) → (below < days) ⊎ (days ≡ most)
above_or_most most fuzz below days e = elim (cases_lt below most) [ inl l ↦ inl (omega arith) | inr l ↦ inr (omega arith) ]

good_over_hard : (o : Options) (word : ℕ) (s : CardState) (i j : ℕ) → IsHard o word s i → IsGood o word s j → (i < j) ⊎ (j ≡ clamped_to_zero o.max_ivl)
good_over_hard o word s i j h g =
    let same = one_hard o word s i g.hard h g.is_hard in
    above_or_most (clamped_to_zero o.max_ivl) _ i j (g.days_are ∙ ap (λ d. limited o word d g.raw) (sym same))

easy_over_good : (o : Options) (word : ℕ) (s : CardState) (i j : ℕ) → IsGood o word s i → IsEasy o word s j → (i < j) ⊎ (j ≡ clamped_to_zero o.max_ivl)
easy_over_good o word s i j h g =
    let same = one_good o word s i g.good h g.is_good in
    above_or_most (clamped_to_zero o.max_ivl) _ i j (g.days_are ∙ ap (λ d. limited o word d g.raw) (sym same))

-- the days as the column has them
as_columns : (o : Options) (i j : ℕ) (low high : ℤ) → IsCheckedOptions o → low ≡ pos i → high ≡ pos j → (i < j) ⊎ (j ≡ clamped_to_zero o.max_ivl) → (low <ℤ high) ⊎ (high ≡ o.max_ivl)
as_columns o i j low high good is are (inl less) = inl (omega (arith, ints))
as_columns o i j low high good is are (inr most) = inr (are ∙ ap pos most ∙ pos_clamped o.max_ivl (options_in_range o (checked_ok (options_faults o) good)).max_sign)

-- the state of a review card is one of a review
transition_of_review : (c : Card) (o : Options) (button : ℕ) (day : Day) (word taken : ℕ) (id : ℤ) (new : Card) (told : Answered) (h : IsAnswer c o button day word taken id new told) → c.kind ≡ pos 2 → IsTransition Review (button_of button) o day word h.state h.outcome
transition_of_review c o button day word taken id new told h review =
    let kind : h.state.kind ≡ Review = h.is_state.kind ∙ ap kind_of review in
    let P : Kind → Type 0 = λ k. IsTransition k (button_of button) o day word h.state h.outcome in
    subst P kind h.transition

pub good_above_hard :
    (c : Card) (o : Options) (day : Day) (word taken longer : ℕ) (id next : ℤ) (new other : Card) (told again : Answered) →
    IsCheckedOptions o → c.kind ≡ pos 2 →
    IsAnswer c o 2 day word taken id new told → IsAnswer c o 3 day word longer next other again →
    (new.ivl <ℤ other.ivl) ⊎ (other.ivl ≡ o.max_ivl)
good_above_hard c o day word taken longer id next new other told again good review h k =
    let same = one_state c o day h.state k.state h.is_state k.is_state in
    let first = transition_of_review c o 2 day word taken id new told h review in
    let second = transition_of_review c o 3 day word longer next other again k review in
    let P : CardState → Type 0 = λ s. IsHard o word s first.days in
    as_columns o first.days second.days new.ivl other.ivl good
    (ap (λ (x : Card). x.ivl) h.card ∙ ap (λ (x : Outcome). pos x.ivl) first.is)
    (ap (λ (x : Card). x.ivl) k.card ∙ ap (λ (x : Outcome). pos x.ivl) second.is)
    (good_over_hard o word k.state first.days second.days (subst P same first.are) second.are)

pub easy_above_good :
    (c : Card) (o : Options) (day : Day) (word taken longer : ℕ) (id next : ℤ) (new other : Card) (told again : Answered) →
    IsCheckedOptions o → c.kind ≡ pos 2 →
    IsAnswer c o 3 day word taken id new told → IsAnswer c o 4 day word longer next other again →
    (new.ivl <ℤ other.ivl) ⊎ (other.ivl ≡ o.max_ivl)
easy_above_good c o day word taken longer id next new other told again good review h k =
    let same = one_state c o day h.state k.state h.is_state k.is_state in
    let first = transition_of_review c o 3 day word taken id new told h review in
    let second = transition_of_review c o 4 day word longer next other again k review in
    let P : CardState → Type 0 = λ s. IsGood o word s first.days in
    as_columns o first.days second.days new.ivl other.ivl good
    (ap (λ (x : Card). x.ivl) h.card ∙ ap (λ (x : Outcome). pos x.ivl) first.is)
    (ap (λ (x : Card). x.ivl) k.card ∙ ap (λ (x : Outcome). pos x.ivl) second.is)
    (easy_over_good o word k.state first.days second.days (subst P same first.are) second.are)
