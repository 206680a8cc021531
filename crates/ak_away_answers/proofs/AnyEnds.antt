-- The answer of any card: how it ends.
use Rattle.std.specs.Prelude.{◌≡◌, ◌⊎◌, ◌||◌, ℤ, Bool, true, false, List, [], ◌∷◌, Option, Some, None, Result, IfErr, IfOk, OnErr, Ok, Err}
use Rattle.std.proofs.Common.{refl, sym, ap, subst, ◌∙◌, inl, inr}
use Rattle.std.specs.Option.{option_map_or}
use Rattle.ak_away_answers.specs.Answering.{EndsSentHome, IsAskedIfAway, IsAskedOn}
use Rattle.ak_away_answers.specs.AwayAnswers.{EndsAnswer, EndsAnyAnswer, EndsEarly, IsRefusedAsWas, can_answer_away}
use Rattle.ak_away_answers.specs.EarlyAnswers.{is_early}
use Rattle.ak_away_answers.specs.EarlyEdits.{IsHeldAsked}
use Rattle.ak_away_answers.specs.declared.early_answers.Asked.{Asked}
use Rattle.ak_base.specs.Days.{IsDayOf}
use Rattle.ak_base.specs.declared.cards.Card.{Card}
use Rattle.ak_edit.specs.Ends.{RefusesStamp}
use Rattle.ak_edit.specs.Refusals.{AnswersBy, IsEndFault, IsFromOutside}
use Rattle.ak_edit.specs.declared.desk_faults.DeskFault.{DeskFault}
use Rattle.ak_edit.specs.declared.desk_faults.DeskFault.TheVariants as faults
use Rattle.ak_edit_calls.proofs.Telling.{where_held-both, where_held-map, where_rows_held, where_told-both}
use Rattle.ak_edit_calls.specs.NewNames.{IsIdFault}
use Rattle.ak_filtered.proofs.Buildings.{day_held}
use Rattle.ak_filtered.proofs.Told.{held_always, held_pair, through}
use Rattle.ak_filtered.specs.Building.{IsDayRead}
use Rattle.ak_filtered.specs.HomeDecks.{is_away, is_away_at, is_some_away, sending_home}
use Rattle.ak_filtered.specs.HomeGoings.{EndsSending, SendsSome}
use Rattle.ak_keep.proofs.Told.{where_told-map}
use Rattle.ak_keep.specs.Collections.{Collection, Holding, Rows}
use Rattle.ak_keep.specs.Keepers.{Keeping, WhereHeld, WhereTold}
use Rattle.ak_keep.specs.Lookups.{card_at}
use Rattle.ak_merge.proofs.EditFacts.{false_true, true_false}
use Rattle.ak_study.specs.Answers.{Answers, IsAnswerFault, IsAnswered, RefusesAnswer}
use Rattle.ak_study.specs.declared.answers.CardAnswer.{CardAnswer}
use Rattle.ak_undo.specs.declared.steps.Step.{Step}

-- ---- from home
-- the answer of a card at home, by what its call promises
plain_answer : (k now : Keeping) (at : ℤ) (given : CardAnswer) (steps left : List Step) (result : Result Card DeskFault) (c : Collection) → IfOk result (IsAnswered at given c k now steps left) → OnErr result (now ≡ k)
    → OnErr result (left ≡ steps) → AnswersBy (RefusesAnswer at given c) result → EndsAnswer at given c k now steps left result
plain_answer k now at given steps left result c done same kept answers = record { done = done; same = same; kept = kept; answers = answers }

-- what is true of each answer
answered_held : (k now : Keeping) (at : ℤ) (given : CardAnswer) (steps left : List Step) (result : Result Card DeskFault) → IfOk result (Answers at given k now steps left)
    → WhereHeld k (λ c. IfOk result (IsAnswered at given c k now steps left))
answered_held k now at given steps left (Ok made) done = done
answered_held k now at given steps left (Err fault) done = held_always k (λ c. IfOk {T = Card} {E = DeskFault} (Err fault) (IsAnswered at given c k now steps left)) (λ c. tt)

pub answer_ends : (k now : Keeping) (at : ℤ) (given : CardAnswer) (steps left : List Step) (result : Result Card DeskFault) → IfOk result (Answers at given k now steps left) → OnErr result (now ≡ k)
    → OnErr result (left ≡ steps) → WhereHeld k (λ c. AnswersBy (RefusesAnswer at given c) result) → WhereHeld k (λ c. EndsAnswer at given c k now steps left result)
answer_ends k now at given steps left result done same kept =
    where_held-both k (λ c. IfOk result (IsAnswered at given c k now steps left)) (λ c. AnswersBy (RefusesAnswer at given c) result) (λ c. EndsAnswer at given c k now steps left result)
    (λ c one other. plain_answer k now at given steps left result c one same kept other) (answered_held k now at given steps left result done)

-- none was away, so the card is not
pub none_from_home : (k mid now : Keeping) (at : ℤ) (given : CardAnswer) (steps between left : List Step) (result : Result Card DeskFault)
    → WhereHeld k (λ c. EndsSending at (given.card ∷ []) c k mid steps between (Ok false)) → WhereHeld k (λ c. EndsSentHome at given c k now steps left result)
none_from_home k mid now at given steps between left result =
    where_held-map k (λ c. EndsSending at (given.card ∷ []) c k mid steps between (Ok false)) (λ c. EndsSentHome at given c k now steps left result)
    (λ c ends some. elim ends [
      | inl none ↦ true_false (sym some ∙ none.none)
      | inr others ↦ elim others [ inl sent ↦ absurd (not_both sent.told) | inr refused ↦ absurd (not_err refused.refused) ]
    ])
  where
    not_both : ◌≡◌ {A = Result Bool DeskFault} (Ok false) (Ok true) → ⊥
    not_both is = cc

    not_err : {fault : DeskFault} → ◌≡◌ {A = Result Bool DeskFault} (Ok false) (Err fault) → ⊥
    not_err is = cc

some_sent : (k mid : Keeping) (at : ℤ) (given : CardAnswer) (steps between : List Step) → WhereHeld k (λ c. EndsSending at (given.card ∷ []) c k mid steps between (Ok true))
    → WhereHeld k (λ c. SendsSome at (given.card ∷ []) c k mid between (Ok true))
some_sent k mid at given steps between =
    where_held-map k (λ c. EndsSending at (given.card ∷ []) c k mid steps between (Ok true)) (λ c. SendsSome at (given.card ∷ []) c k mid between (Ok true))
    (λ c ends. elim ends [
      | inl none ↦ absurd (not_both none.told)
      | inr others ↦ elim others [ inl sent ↦ sent | inr refused ↦ absurd (not_err refused.refused) ]
    ])
  where
    not_both : ◌≡◌ {A = Result Bool DeskFault} (Ok true) (Ok false) → ⊥
    not_both is = cc

    not_err : {fault : DeskFault} → ◌≡◌ {A = Result Bool DeskFault} (Ok true) (Err fault) → ⊥
    not_err is = cc

pub some_from_home : (k mid now : Keeping) (at : ℤ) (given : CardAnswer) (steps between left : List Step) (result : Result Card DeskFault)
    → WhereHeld k (λ c. EndsSending at (given.card ∷ []) c k mid steps between (Ok true)) → WhereHeld mid (λ c. EndsAnswer at given c mid now between left result)
    → WhereHeld k (λ c. EndsSentHome at given c k now steps left result)
some_from_home k mid now at given steps between left result sending =
    through mid (λ c. SendsSome at (given.card ∷ []) c k mid between (Ok true)) (λ c. EndsSentHome at given c k now steps left result) (λ c. EndsAnswer at given c mid now between left result)
    (λ c sent. sent.cleared.after) k.told (λ c sent. ap (λ (l : Keeping). l.told) sent.cleared.held)
    (λ c sent ends _. inr (record {
      between = mid;
      passes = sent.passes;
      home = record { rightly = sent.cleared.rightly; after = sent.cleared.after; edited = sent.cleared.edited; held = sent.cleared.held; list = refl };
      ends = subst (λ (l : List Step). EndsAnswer at given sent.cleared.after mid now l left result) sent.cleared.list ends;
    }))
    (some_sent k mid at given steps between sending)

-- the card could not be sent home
pub refused_from_home : (k : Keeping) (at : ℤ) (given : CardAnswer) (steps : List Step) (fault : DeskFault) → WhereHeld k (λ c. EndsSending at (given.card ∷ []) c k k steps steps (Err fault))
    → WhereHeld k (λ c. EndsSentHome at given c k k steps steps (Err fault))
refused_from_home k at given steps fault =
    where_held-map k (λ c. EndsSending at (given.card ∷ []) c k k steps steps (Err fault)) (λ c. EndsSentHome at given c k k steps steps (Err fault))
    (λ c ends _. elim ends [
      | inl none ↦ absurd (not_ok none.told)
      | inr others ↦ elim others [
        | inl sent ↦ absurd (not_ok sent.told)
        | inr refused ↦ inl (record {
          fault = fault;
          refused = refl;
          tested = elim (subst (λ (f : DeskFault). IsFromOutside f ⊎ ((is_some_away c.rows (given.card ∷ []) ≡ true) × RefusesStamp at c (sending_home (given.card ∷ []) c) f)) (sym (same_fault fault refused.fault refused.refused)) refused.tested) [
            | inl outside ↦ inl outside
            | inr stamp ↦ inr stamp.1
          ];
          same = refl;
          kept = refl;
        })
      ]
    ])
  where
    not_ok : {b : Bool} → ◌≡◌ {A = Result Bool DeskFault} (Err fault) (Ok b) → ⊥
    not_ok is = cc

    same_fault : (one other : DeskFault) → ◌≡◌ {A = Result Bool DeskFault} (Err one) (Err other) → one ≡ other
    same_fault one other is = cc

-- ---- what is asked
-- the card is not held
pub none_asked : (k : Keeping) (at : ℤ) (id : ℤ) (found : Option Card) → found ≡ None → WhereTold k (λ h. found ≡ card_at h.rows id) → WhereTold k (λ h. IsAskedIfAway at id h None)
none_asked k at id found none =
    where_told-map k (λ h. found ≡ card_at h.rows id) (λ h. IsAskedIfAway at id h None) (λ h is. ap (λ (x : Option Card). option_map_or is_away x false) (sym is ∙ none))

-- it is at home
pub home_asked : (k : Keeping) (at : ℤ) (id : ℤ) (found : Option Card) (card : Card) → found ≡ Some card → is_away card ≡ false → WhereTold k (λ h. found ≡ card_at h.rows id)
    → WhereTold k (λ h. IsAskedIfAway at id h None)
home_asked k at id found card some home =
    where_told-map k (λ h. found ≡ card_at h.rows id) (λ h. IsAskedIfAway at id h None) (λ h is. ap (λ (x : Option Card). option_map_or is_away x false) (sym is ∙ some) ∙ home)

-- it is away
pub away_asked : (k : Keeping) (at : ℤ) (id : ℤ) (found : Option Card) (asked : Asked) → found ≡ Some asked.card → is_away asked.card ≡ true → WhereTold k (λ h. found ≡ card_at h.rows id)
    → WhereTold k (λ h. IsDayRead at h asked.day) → WhereTold k (λ h. IsAskedIfAway at id h (Some asked))
away_asked k at id found asked some away =
    where_told-both k (λ h. found ≡ card_at h.rows id) (λ h. IsDayRead at h asked.day) (λ h. IsAskedIfAway at id h (Some asked)) (λ h is day. record { held = sym is ∙ some; away = away; is_day = day })

pub is_held_asked : (k : Keeping) (at : ℤ) (id : ℤ) (asked : Asked) → WhereTold k (IsAskedOn at id asked) → WhereTold k (IsHeldAsked id asked)
is_held_asked k at id asked = where_told-map k (IsAskedOn at id asked) (IsHeldAsked id asked) (λ h is. is.held)

-- ---- the faults
-- those of an early answer are those of an answer
pub early_listed : (id : ℤ) (result : Result Card DeskFault) → IfErr result (λ fault. IsIdFault fault ⊎ IsEndFault fault) → IfErr result (IsAnswerFault id)
early_listed id (Ok card) is = tt
early_listed id (Err fault) (inl (inl outside)) = inr (inl outside)
early_listed id (Err fault) (inl (inr end)) = inl (inr end)
early_listed id (Err fault) (inr end) = inr end

-- ---- the card that is asked for
-- what is known of it, of a collection
record IsAway (at : ℤ) (given : CardAnswer) (asked : Asked) (c : Collection) : Type 0 where
  is_held : card_at c.rows given.card ≡ Some asked.card
  is_off : is_away asked.card ≡ true
  is_day : IsDayOf c.head.crt at asked.day

asked_held : (k : Keeping) (at : ℤ) (given : CardAnswer) (asked : Asked) → WhereTold k (IsAskedOn at given.card asked) → WhereHeld k (IsAway at given asked)
asked_held k at given asked told =
    where_held-both k (λ c. (card_at c.rows given.card ≡ Some asked.card) × (is_away asked.card ≡ true)) (λ c. IsDayOf c.head.crt at asked.day) (IsAway at given asked)
    (λ c one day. record { is_held = one.0; is_off = one.1; is_day = day })
    (where_rows_held k (λ rows. (card_at rows given.card ≡ Some asked.card) × (is_away asked.card ≡ true))
    (where_told-map k (IsAskedOn at given.card asked) (λ h. (card_at h.rows given.card ≡ Some asked.card) × (is_away asked.card ≡ true)) (λ h is. (is.held, is.away)) told))
    (day_held k at asked.day (where_told-map k (IsAskedOn at given.card asked) (λ h. IsDayRead at h asked.day) (λ h is. is.is_day) told))

pub away_refused : (k : Keeping) (at : ℤ) (given : CardAnswer) (asked : Asked) (steps : List Step) → can_answer_away asked.card ≡ false → WhereTold k (IsAskedOn at given.card asked)
    → WhereHeld k (λ c. EndsAnyAnswer at given c k k steps steps (Err (faults.NotAnswerable asked.card.queue)))
away_refused k at given asked steps not told =
    where_held-map k (IsAway at given asked) (λ c. EndsAnyAnswer at given c k k steps steps (Err (faults.NotAnswerable asked.card.queue)))
    (λ c is. inr (inl (asked.card, is.is_held, is.is_off, record { fault = faults.NotAnswerable asked.card.queue; refused = refl; tested = (not, refl); same = refl; kept = refl })))
    (asked_held k at given asked told)

pub away_early : (k now : Keeping) (at : ℤ) (given : CardAnswer) (asked : Asked) (steps left : List Step) (result : Result Card DeskFault) → can_answer_away asked.card ≡ true
    → is_early asked.day given.button asked.card ≡ true → WhereTold k (IsAskedOn at given.card asked) → WhereHeld k (λ c. EndsEarly at given asked.day c k now steps left result)
    → WhereHeld k (λ c. EndsAnyAnswer at given c k now steps left result)
away_early k now at given asked steps left result can early told =
    where_held-both k (IsAway at given asked) (λ c. EndsEarly at given asked.day c k now steps left result) (λ c. EndsAnyAnswer at given c k now steps left result)
    (λ c is ends. inr (inr (inl (asked.card, record { held = is.is_held; away = is.is_off; can = can }, asked.day, is.is_day, inl (early, ends)))))
    (asked_held k at given asked told)

away_there : (held : Rows) (id : ℤ) (card : Card) → card_at held id ≡ Some card → is_away card ≡ true → is_some_away held (id ∷ []) ≡ true
away_there held id card is away = ap (λ b. b || false) (ap (λ (x : Option Card). option_map_or is_away x false) is ∙ away)

pub away_from_home : (k now : Keeping) (at : ℤ) (given : CardAnswer) (asked : Asked) (steps left : List Step) (result : Result Card DeskFault) → can_answer_away asked.card ≡ true
    → is_early asked.day given.button asked.card ≡ false → WhereTold k (IsAskedOn at given.card asked) → WhereHeld k (λ c. EndsSentHome at given c k now steps left result)
    → WhereHeld k (λ c. EndsAnyAnswer at given c k now steps left result)
away_from_home k now at given asked steps left result can late told =
    where_held-both k (IsAway at given asked) (λ c. EndsSentHome at given c k now steps left result) (λ c. EndsAnyAnswer at given c k now steps left result)
    (λ c is ends. inr (inr (inl (
      asked.card,
      record { held = is.is_held; away = is.is_off; can = can },
      asked.day,
      is.is_day,
      inr (late, ends (away_there c.rows given.card asked.card is.is_held is.is_off)),
    ))))
    (asked_held k at given asked told)

pub at_home : (k now : Keeping) (at : ℤ) (given : CardAnswer) (steps left : List Step) (result : Result Card DeskFault) → WhereTold k (λ h. is_away_at h.rows given.card ≡ false)
    → IfOk result (Answers at given k now steps left) → OnErr result (now ≡ k) → OnErr result (left ≡ steps) → WhereHeld k (λ c. AnswersBy (RefusesAnswer at given c) result)
    → WhereHeld k (λ c. EndsAnyAnswer at given c k now steps left result)
at_home k now at given steps left result home done same kept answers =
    where_held-both k (λ c. is_away_at c.rows given.card ≡ false) (λ c. EndsAnswer at given c k now steps left result) (λ c. EndsAnyAnswer at given c k now steps left result)
    (λ c one ends. inr (inr (inr (one, ends)))) (where_rows_held k (λ rows. is_away_at rows given.card ≡ false) home) (answer_ends k now at given steps left result done same kept answers)

pub any_outside : (k : Keeping) (at : ℤ) (given : CardAnswer) (steps : List Step) (fault : DeskFault) → IsFromOutside fault → WhereHeld k (λ c. EndsAnyAnswer at given c k k steps steps (Err fault))
any_outside k at given steps fault outside =
    held_always k (λ c. EndsAnyAnswer at given c k k steps steps (Err fault)) (λ c. inl (record { fault = fault; refused = refl; tested = outside; same = refl; kept = refl }))
