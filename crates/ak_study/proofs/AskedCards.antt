-- What an answer reads before it makes anything, and why it is refused then.
use Rattle.std.specs.Prelude.{◌≡◌, ℤ, false, Some, None, Ok, Err}
use Rattle.std.proofs.Common.{inl, inr, sym, subst, ◌∙◌}
use Rattle.std.specs.Option.{option_map}
use Rattle.ak_base.specs.Days.{IsDayOf}
use Rattle.ak_base.specs.declared.cards.Card.{Card}
use Rattle.ak_base.specs.declared.days.Day.{Day}
use Rattle.ak_base.specs.declared.names.Table.TheVariants as tables
use Rattle.ak_edit.specs.Refusals.{AnswersBy}
use Rattle.ak_edit.specs.declared.desk_faults.DeskFault.{DeskFault}
use Rattle.ak_edit.specs.declared.desk_faults.DeskFault.TheVariants as faults
use Rattle.ak_edit_calls.specs.Calls.{RefusesAbsent}
use Rattle.ak_keep.specs.Collections.{Collection}
use Rattle.ak_keep.specs.Lookups.{card_at}
use Rattle.ak_merge.specs.Holdings.{name_in, row_under}
use Rattle.ak_sched.specs.Answers.{can_answer}
use Rattle.ak_study.proofs.DayLaws.{card_on_begun}
use Rattle.ak_study.proofs.DayStartRules.{day_is_one}
use Rattle.ak_study.specs.Answers.{RefusesAsked, RefusesCard}
use Rattle.ak_study.specs.Asking.{IsReviewName, RefusesBegun}
use Rattle.ak_study.specs.DayStarts.{OnDay, card_begun, is_new_day}
use Rattle.ak_study.specs.declared.day_starts.Begun.{Begun}

-- of a collection: its day has begun
pub record BeginsDay (at : ℤ) (c : Collection) (begun : Begun) : Type 0 where
  pub day : IsDayOf c.head.crt at begun.day
  pub starts : begun.starts ≡ is_new_day begun.day c.head.conf

-- ---- the tests
module _ (at id : ℤ) (c : Collection) (begun : Begun) (begins : BeginsDay at c begun) where
  to_day : (fault : DeskFault)
      → (card : Card) × (option_map (card_begun begun) (card_at c.rows id) ≡ Some card) × (can_answer card ≡ false) × (fault ≡ faults.NotAnswerable card.queue) → OnDay at c (RefusesCard id c) fault
  to_day fault is = (begun.day, begins.day, (is.0, card_on_begun begun c id begins.starts ∙ is.1, is.2, is.3))

  of_day : (fault : DeskFault) → OnDay at c (RefusesCard id c) fault
      → (card : Card) × (option_map (card_begun begun) (card_at c.rows id) ≡ Some card) × (can_answer card ≡ false) × (fault ≡ faults.NotAnswerable card.queue)
  of_day fault is =
      let here : RefusesCard id c begun.day fault = subst (λ (d : Day). RefusesCard id c d fault) (day_is_one c.head.crt at is.0 begun.day is.1 begins.day) is.2 in
      (here.0, sym (card_on_begun begun c id begins.starts) ∙ here.1, here.2, here.3)

  pub refused_card : (X Y : Type 0) (fault : DeskFault) → AnswersBy {T = X} (RefusesBegun begun id c.rows) (Err fault) → AnswersBy {T = Y} (RefusesAsked at id c) (Err fault)
  refused_card X Y fault answers = record {
    accepted = tt;
    refused = elim answers.refused [
      | inl outside ↦ inl outside
      | inr tests ↦ elim tests [ inl absent ↦ inr (inl absent) | inr cannot ↦ inr (inr (cannot.0, inl (to_day fault cannot.1))) ]
    ];
  }

  pub refused_review : (X Y : Type 0) (value : X) (fault : DeskFault) → AnswersBy (RefusesBegun begun id c.rows) (Ok value) → IsReviewName at c.rows None → fault ≡ faults.IdEnd
      → AnswersBy {T = Y} (RefusesAsked at id c) (Err fault)
  refused_review X Y value fault answers none is = record {
    accepted = tt;
    refused =
        let present : (any : DeskFault) → RefusesAbsent (row_under c) (name_in tables.Card id) any → ⊥ = λ any absent. answers.accepted any (inl absent) in
        inr (inr (present, inr ((λ any cannot. answers.accepted any (inr (present, of_day any cannot))), (none, is))));
  }

  pub asked_accepted : {T : Type 0} {U : Type 0} (value : T) (other : U) → AnswersBy (RefusesBegun begun id c.rows) (Ok value) → (IsReviewName at c.rows None → ⊥) → AnswersBy (RefusesAsked at id c) (Ok other)
  asked_accepted value other answers some = record {
    accepted = λ fault tests. elim tests [
      | inl absent ↦ answers.accepted fault (inl absent)
      | inr others ↦ elim others.1 [ inl cannot ↦ answers.accepted fault (inr (others.0, of_day fault cannot)) | inr ended ↦ some ended.1.0 ]
    ];
    refused = tt;
  }
