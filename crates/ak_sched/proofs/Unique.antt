-- There is one answer.
use Rattle.std.proofs.Common.{◌≡◌, ◌≢◌, ℕ, zero, suc, ℤ, pos, negsuc, ◌<◌, ◌≤◌, min, ◌⊎◌, inl, inr, ◌↔◌, false, IsTrue, List, [], ◌∷◌, refl, sym, subst, ap, ◌∙◌, arith}
use Rattle.std.proofs.lemmas.Bool.{cases_lt, cases_Bool}
use Rattle.std.proofs.lemmas.Bool.Decides.{same_from_decides}
use Rattle.ak_base.specs.declared.cards.Card.{Card}
use Rattle.ak_base.specs.declared.days.Day.{Day}
use Rattle.ak_base.specs.declared.option_groups.Options.{Options}
use Rattle.ak_sched.specs.Steps.{IsStepsToday, IsLeft}
use Rattle.ak_sched.specs.Intervals.{IsWhole, IsHard, IsGood, IsEasy, limited}
use Rattle.ak_sched.specs.Transitions.{steps_left, IsRestart, IsStep, IsLapse, IsReviewed, IsTransition}
use Rattle.ak_sched.specs.Answers.{button_of, card_after, review_after, IsCardState, IsAnswer}
use Rattle.ak_sched.specs.declared.answers.Answered.{Answered}
use Rattle.ak_sched.specs.declared.card_states.Kind.{Kind}
use Rattle.ak_sched.specs.declared.card_states.Kind.TheVariants.{Learning, Relearning, Review}
use Rattle.ak_sched.specs.declared.card_states.Button.{Button}
use Rattle.ak_sched.specs.declared.card_states.Button.TheVariants.{Again, Hard, Good, Easy}
use Rattle.ak_sched.specs.declared.card_states.CardState.{CardState}
use Rattle.ak_sched.specs.declared.card_states.Outcome.{Outcome}

fits_or_one : (i j s b : ℕ) → 1 ≤ i → (j ≡ 1) ⊎ (s ≤ b) → (i < j → b < s) → j ≤ i
fits_or_one i j s b one (inl e) over = omega arith
fits_or_one i j s b one (inr fits) over = elim (cases_lt i j) [ inl l ↦ let o : b < s = over l in omega arith | inr l ↦ l ]

-- the most that fit are the most that fit
not_more : (ds : List ℕ) (seconds left i j : ℕ) → IsStepsToday ds seconds left i → IsStepsToday ds seconds left j → j ≤ i
not_more ds seconds left i j h k = fits_or_one i j _ seconds h.one k.fits (λ l. h.most j l k.all)

one_today : (ds : List ℕ) (seconds left i j : ℕ) → IsStepsToday ds seconds left i → IsStepsToday ds seconds left j → i ≡ j
one_today ds seconds left i j h k =
    let down = not_more ds seconds left i j h k in
    let up = not_more ds seconds left j i k h in
    omega arith

one_left : (ds : List ℕ) (seconds steps i j : ℕ) → IsLeft ds seconds steps i → IsLeft ds seconds steps j → i ≡ j
one_left ds seconds steps i j h k =
    let same = one_today ds seconds steps h.today k.today h.fits k.fits in
    omega (arith, h.packed, k.packed)

one_of_millions : (product i j : ℕ) → IsWhole product 1_000_000 i → IsWhole product 1_000_000 j → i ≡ j
one_of_millions product i j h k =
    let same : h.whole ≡ k.whole = omega (arith, h.reached, h.next, k.reached, k.next) in
    h.cut ∙ ap (λ n. min n 1_000_000_000) same ∙ sym k.cut

one_of_milliards : (product i j : ℕ) → IsWhole product 1_000_000_000 i → IsWhole product 1_000_000_000 j → i ≡ j
one_of_milliards product i j h k =
    let same : h.whole ≡ k.whole = omega (arith, h.reached, h.next, k.reached, k.next) in
    h.cut ∙ ap (λ n. min n 1_000_000_000) same ∙ sym k.cut

pub one_hard : (o : Options) (word : ℕ) (s : CardState) (i j : ℕ) → IsHard o word s i → IsHard o word s j → i ≡ j
one_hard o word s i j h k =
    let same = one_of_millions _ h.raw k.raw h.whole k.whole in
    h.days_are ∙ ap (limited o word _) same ∙ sym k.days_are

pub one_good : (o : Options) (word : ℕ) (s : CardState) (i j : ℕ) → IsGood o word s i → IsGood o word s j → i ≡ j
one_good o word s i j h k =
    let below = one_hard o word s h.hard k.hard h.is_hard k.is_hard in
    let same = one_of_millions _ h.raw k.raw h.whole k.whole in
    h.days_are ∙ ap (λ d. limited o word d h.raw) below ∙ ap (limited o word k.hard) same ∙ sym k.days_are

one_easy : (o : Options) (word : ℕ) (s : CardState) (i j : ℕ) → IsEasy o word s i → IsEasy o word s j → i ≡ j
one_easy o word s i j h k =
    let below = one_good o word s h.good k.good h.is_good k.is_good in
    let same = one_of_milliards _ h.raw k.raw h.whole k.whole in
    h.days_are ∙ ap (λ d. limited o word d h.raw) below ∙ ap (limited o word k.good) same ∙ sym k.days_are

one_restart : (ds : List ℕ) (seconds : ℕ) (s : CardState) (days : ℕ) (a b : Outcome) → IsRestart ds seconds s days a → IsRestart ds seconds s days b → a ≡ b
one_restart ds seconds s days a b h k =
    let same = one_left ds seconds _ h.left k.left h.all k.all in
    let one = h.is in
    let two = k.is in
    cc

one_step : (ds : List ℕ) (seconds : ℕ) (s : CardState) (a b : Outcome) → IsStep ds seconds s a → IsStep ds seconds s b → a ≡ b
one_step ds seconds s a b h k =
    let same = one_left ds seconds _ h.left k.left h.less k.less in
    let one = h.is in
    let two = k.is in
    cc

one_reviewed : (s : CardState) (IsDays : ℕ → Type 0) (factor : ℕ) (a b : Outcome) → ((i j : ℕ) → IsDays i → IsDays j → i ≡ j) → IsReviewed s IsDays factor a → IsReviewed s IsDays factor b → a ≡ b
one_reviewed s IsDays factor a b unique h k =
    let same = unique h.days k.days h.are k.are in
    let one = h.is in
    let two = k.is in
    cc

lapse_steps_are : (o : Options) (day : Day) (s : CardState) (a b : Outcome) → IsLapse o day s a → IsLapse o day s b → a.leech ≡ b.leech → a.suspended ≡ false → b.suspended ≡ false → (steps : List ℤ) → o.lapse_steps ≡ steps → a ≡ b
lapse_steps_are o day s a b h k leech ha kb [] none =
    let one = h.without_steps ha none in
    let two = k.without_steps kb none in
    cc
lapse_steps_are o day s a b h k leech ha kb (step ∷ steps) some =
    let there : o.lapse_steps ≢ [] = λ none. cc in
    let one = h.with_steps ha there in
    let two = k.with_steps kb there in
    let left = one_left _ _ _ a.left b.left one.0 two.0 in
    let first = one.1 in
    let second = two.1 in
    cc

one_lapse : (o : Options) (day : Day) (s : CardState) (a b : Outcome) → IsLapse o day s a → IsLapse o day s b → a ≡ b
one_lapse o day s a b h k =
    let leech = same_from_decides a.leech b.leech h.leech k.leech in
    let acts : IsTrue b.suspended ↔ (IsTrue a.leech × (o.leech_action ≡ pos 0)) = rw (leech) k.suspended in
    let suspended = same_from_decides a.suspended b.suspended h.suspended acts in
    elim (cases_Bool a.suspended) [
      | inl e ↦
          let one = h.when_suspended e in
          let two = k.when_suspended (sym suspended ∙ e) in
          cc
      | inr e ↦ lapse_steps_are o day s a b h k leech e (sym suspended ∙ e) o.lapse_steps refl
    ]

-- a step is the last one, or it is not
one_good_transition : (ds : List ℕ) (seconds : ℕ) (s : CardState) (last a b : Outcome) → (1 < steps_left s → IsStep ds seconds s a) × (steps_left s ≤ 1 → a ≡ last) → (1 < steps_left s → IsStep ds seconds s b) × (steps_left s ≤ 1 → b ≡ last) → a ≡ b
one_good_transition ds seconds s last a b h k = elim (cases_lt 1 (steps_left s)) [
  | inl l ↦ one_step ds seconds s a b (h.0 l) (k.0 l)
  | inr l ↦ h.1 l ∙ sym (k.1 l)
]

one_transition : (kind : Kind) (button : Button) (o : Options) (day : Day) (word : ℕ) (s : CardState) (a b : Outcome) → IsTransition kind button o day word s a → IsTransition kind button o day word s b → a ≡ b
one_transition Learning Again o day word s a b h k = one_restart _ _ _ _ a b h k
one_transition Relearning Again o day word s a b h k = one_restart _ _ _ _ a b h k
one_transition Learning Hard o day word s a b h k = h ∙ sym k
one_transition Relearning Hard o day word s a b h k = h ∙ sym k
one_transition Learning Good o day word s a b h k = one_good_transition _ _ s _ a b h k
one_transition Relearning Good o day word s a b h k = one_good_transition _ _ s _ a b h k
one_transition Learning Easy o day word s a b h k = h ∙ sym k
one_transition Relearning Easy o day word s a b h k = h ∙ sym k
one_transition Review Again o day word s a b h k = one_lapse o day s a b h k
one_transition Review Hard o day word s a b h k = one_reviewed s (IsHard o word s) _ a b (one_hard o word s) h k
one_transition Review Good o day word s a b h k = one_reviewed s (IsGood o word s) _ a b (one_good o word s) h k
one_transition Review Easy o day word s a b h k = one_reviewed s (IsEasy o word s) _ a b (one_easy o word s) h k

left_is : (c : Card) (o : Options) (day : Day) (s t : CardState) → IsCardState c o day s → IsCardState c o day t → (kind : ℤ) → c.kind ≡ kind → s.left ≡ t.left
left_is c o day s t h k (pos zero) new = one_left _ _ _ s.left t.left (h.new new) (k.new new)
left_is c o day s t h k (pos (suc n)) old =
    let begun : c.kind ≢ pos 0 = λ new. cc in
    h.begun begun ∙ sym (k.begun begun)
left_is c o day s t h k (negsuc n) old =
    let begun : c.kind ≢ pos 0 = λ new. cc in
    h.begun begun ∙ sym (k.begun begun)

same_state : (s t : CardState) → s.kind ≡ t.kind → s.left ≡ t.left → s.ivl ≡ t.ivl → s.factor ≡ t.factor → s.lapses ≡ t.lapses → s.late ≡ t.late → s ≡ t
same_state s t kind left ivl factor lapses late =
    let e : record { kind = s.kind; left = s.left; ivl = s.ivl; factor = s.factor; lapses = s.lapses; late = s.late } ≡ record { kind = t.kind; left = t.left; ivl = t.ivl; factor = t.factor; lapses = t.lapses; late = t.late } = cc in
    e

pub one_state : (c : Card) (o : Options) (day : Day) (s t : CardState) → IsCardState c o day s → IsCardState c o day t → s ≡ t
one_state c o day s t h k =
    same_state s t (h.kind ∙ sym k.kind) (left_is c o day s t h k c.kind refl) (h.ivl ∙ sym k.ivl) (h.factor ∙ sym k.factor) (h.lapses ∙ sym k.lapses) (h.late ∙ sym k.late)

same_answered : (a b : Answered) → a.review ≡ b.review → a.leech ≡ b.leech → a ≡ b
same_answered a b review leech =
    let e : record { review = a.review; leech = a.leech } ≡ record { review = b.review; leech = b.leech } = cc in
    e

pub one_answer :
    (c : Card) (o : Options) (button : ℕ) (day : Day) (word taken : ℕ) (id : ℤ) (new other : Card) (told again : Answered) →
    IsAnswer c o button day word taken id new told → IsAnswer c o button day word taken id other again →
    (new ≡ other) × (told ≡ again)
one_answer c o button day word taken id new other told again h k =
    let state = one_state c o day h.state k.state h.is_state k.is_state in
    let P : CardState → Type 0 = λ s. IsTransition s.kind (button_of button) o day word s k.outcome in
    let outcome = one_transition h.state.kind (button_of button) o day word h.state h.outcome k.outcome h.transition (subst P (sym state) k.transition) in
    let card = h.card ∙ ap (card_after c day word) outcome ∙ sym k.card in
    let row = ap (λ (s : CardState). review_after id c.id button o taken s h.outcome) state ∙ ap (review_after id c.id button o taken k.state) outcome in
    let leech : told.leech ≡ again.leech = h.leech ∙ ap (λ (x : Outcome). x.leech) outcome ∙ sym k.leech in
    (card, same_answered told again (h.review ∙ row ∙ sym k.review) leech)
