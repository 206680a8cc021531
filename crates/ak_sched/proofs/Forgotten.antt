-- The three ways in which a card is forgotten at its review.
use Rattle.std.proofs.Common.{◌≡◌, ◌≢◌, ℕ, pos, ◌↔◌, Bool, true, false, IsTrue, [], length, Some, None, refl, sym, subst}
use Rattle.ak_base.specs.declared.option_groups.Options.{Options}
use Rattle.ak_base.specs.declared.days.Day.{Day}
use Rattle.ak_sched.specs.Counts.{clamped_to_zero, next_count}
use Rattle.ak_sched.specs.Steps.{delays, delay_at, IsLeft}
use Rattle.ak_sched.specs.Leeches.{IsLeech}
use Rattle.ak_sched.specs.Transitions.{seconds_left_today, forgotten, IsLapse}
use Rattle.ak_sched.specs.declared.card_states.Kind.TheVariants.{Relearning, Review}
use Rattle.ak_sched.specs.declared.card_states.CardState.{CardState}
use Rattle.ak_sched.specs.declared.card_states.Outcome.{Outcome}

-- what the test for a leech and the options' action say
pub record Judged (o : Options) (s : CardState) (leech suspended : Bool) : Type 0 where
  pub met : IsTrue leech ↔ IsLeech (next_count s.lapses) (clamped_to_zero o.leech_fails)
  pub acts : IsTrue suspended ↔ (IsTrue leech × (o.leech_action ≡ pos 0))

pub lapse_suspended :
    (o : Options) (day : Day) (s : CardState) (out : Outcome) (leech suspended : Bool) →
    Judged o s leech suspended → suspended ≡ true →
    out ≡ forgotten o s Review 0 leech true None → IsLapse o day s out
lapse_suspended o day s out leech suspended judged acts is =
    let P : Outcome → Type 0 = λ x. IsLapse o day s x in
    subst P (sym is) (record {
      leech = judged.met;
      suspended = (λ _. judged.acts.0 acts, λ _. refl);
      when_suspended = λ _. refl;
      without_steps = λ e. cc;
      with_steps = λ e. cc;
    })

pub lapse_without_steps :
    (o : Options) (day : Day) (s : CardState) (out : Outcome) (leech suspended : Bool) →
    Judged o s leech suspended → suspended ≡ false → o.lapse_steps ≡ [] →
    out ≡ forgotten o s Review 0 leech false None → IsLapse o day s out
lapse_without_steps o day s out leech suspended judged stays none is =
    let P : Outcome → Type 0 = λ x. IsLapse o day s x in
    subst P (sym is) (record {
      leech = judged.met;
      suspended = (λ e. cc, λ h. let e : suspended ≡ true = judged.acts.1 h in cc);
      when_suspended = λ e. cc;
      without_steps = λ _ _. refl;
      with_steps = λ _ some. absurd (some none);
    })

pub lapse_with_steps :
    (o : Options) (day : Day) (s : CardState) (out : Outcome) (leech suspended : Bool) (left : ℕ) →
    Judged o s leech suspended → suspended ≡ false → o.lapse_steps ≢ [] →
    IsLeft (delays o.lapse_steps) (seconds_left_today day) (length (delays o.lapse_steps)) left →
    out ≡ forgotten o s Relearning left leech false (Some (delay_at (delays o.lapse_steps) (length (delays o.lapse_steps)))) →
    IsLapse o day s out
lapse_with_steps o day s out leech suspended left judged stays some all is =
    let P : Outcome → Type 0 = λ x. IsLapse o day s x in
    subst P (sym is) (record {
      leech = judged.met;
      suspended = (λ e. cc, λ h. let e : suspended ≡ true = judged.acts.1 h in cc);
      when_suspended = λ e. cc;
      without_steps = λ _ none. absurd (some none);
      with_steps = λ _ _. (all, refl);
    })
