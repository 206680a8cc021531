use Rattle.std.proofs.Common.{◌≡◌, ◌≤ℤ◌, ◌⊎◌, pos, rules, refl, sym, subst, ap, ◌∙◌}
use Rattle.ak_base.specs.Columns.{id_fault}
use Rattle.ak_base.specs.Cards.{IsCheckedCard, card_faults}
use Rattle.ak_base.specs.OptionGroups.{options_faults}
use Rattle.ak_base.specs.Reviews.{review_faults}
use Rattle.ak_base.specs.declared.cards.Card.{Card}
use Rattle.ak_sched.proofs.Checks.{columns_in_range, options_in_range, row_is_good, card_is_good, card_id_is_good, factor_kept}
use Rattle.ak_sched.proofs.Faults.{checked_ok, ok_checked}
use Rattle.ak_sched.proofs.Unique.{one_answer}
use Rattle.ak_sched.specs.Answers.{IsSameButSchedule, card_after}
use Rattle.ak_sched.proofs.answers.answer.Goals as goal

pub state_of-state-requires-clause-card : goal.state_of-state-requires-clause-card
state_of-state-requires-clause-card c = columns_in_range _ (checked_ok (card_faults c.args.card.now) c.requires.card)

pub state_of-state-requires-clause-options : goal.state_of-state-requires-clause-options
state_of-state-requires-clause-options c = options_in_range _ (checked_ok (options_faults c.args.options.now) c.requires.options)

pub transition-outcome-requires-clause-options : goal.transition-outcome-requires-clause-options
transition-outcome-requires-clause-options c = options_in_range _ (checked_ok (options_faults c.args.options.now) c.requires.options)

pub log_row-requires-clause-options : goal.log_row-requires-clause-options
log_row-requires-clause-options c = options_in_range _ (checked_ok (options_faults c.args.options.now) c.requires.options)

answered : goal.returns-clause-answer
answered c = record {
  state = c.state_of-state.result;
  outcome = c.transition-outcome.result;
  is_state = c.state_of-state.ensures.value;
  transition = rw c.button_of.ensures at c.transition-outcome.ensures.value;
  card = c.apply_outcome.ensures;
  review = search rules;
  leech = search rules;
}

pub returns-clause-answer : goal.returns-clause-answer
returns-clause-answer c = answered c

pub returns-clause-only : goal.returns-clause-only
returns-clause-only c = λ other told h. one_answer _ _ _ _ _ _ _ _ _ _ _ (answered c) h

pub returns-clause-card : goal.returns-clause-card
returns-clause-card c =
    let P : Card → Type 0 = λ x. IsCheckedCard x in
    subst P (sym c.apply_outcome.ensures) (ok_checked (card_faults (card_after c.args.card.now c.args.day c.args.word c.transition-outcome.result)) (card_is_good _ _ _ _ _ (checked_ok (card_faults c.args.card.now) c.requires.card) c.requires.day c.transition-outcome.ensures.made))

pub returns-clause-review : goal.returns-clause-review
returns-clause-review c = λ id.
    let same : c.log_row.result.id ≡ c.args.review_id = search rules in
    let same_card : c.log_row.result.cid ≡ c.args.card.now.id = search rules in
    ok_checked (review_faults c.log_row.result) (row_is_good c.log_row.result c.log_row.ensures.logged (ap id_fault same ∙ id) (ap id_fault same_card ∙ card_id_is_good _ (checked_ok (card_faults c.args.card.now) c.requires.card)))

pub returns-clause-factor : goal.returns-clause-factor
returns-clause-factor c =
    let P : Card → Type 0 = λ x. (pos 1_300 ≤ℤ x.factor) ⊎ (x.factor ≡ c.args.card.now.factor) in
    subst P (sym c.apply_outcome.ensures) (factor_kept _ c.state_of-state.result c.transition-outcome.result (columns_in_range _ (checked_ok (card_faults c.args.card.now) c.requires.card)) c.state_of-state.ensures.value.factor c.transition-outcome.ensures.made.factor_low)

pub returns-clause-others : goal.returns-clause-others
returns-clause-others c =
    let P : Card → Type 0 = λ x. IsSameButSchedule c.args.card.now x in
    subst P (sym c.apply_outcome.ensures) (record {
      id = refl;
      nid = refl;
      did = refl;
      ord = refl;
      stamp = refl;
      usn = refl;
      odue = refl;
      odid = refl;
      flags = refl;
      extra = refl;
    })

pub returns-clause-row : goal.returns-clause-row
returns-clause-row c = record { id = search rules; cid = search rules; usn = search rules }
