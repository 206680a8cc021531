-- What an answer reads of a keeper, and why it is refused then.
use Rattle.std.specs.Prelude.{◌≡◌, ◌⊎◌, ℤ, true, false, if◌then◌else◌, IfSome, IfOk, IfErr, IsTrue, Option, Some, None, is_some, Result, Ok, Err}
use Rattle.std.proofs.Common.{inl, inr, sym, ap, subst, ◌∙◌, arith}
use Rattle.std.specs.FinMap.{get}
use Rattle.std.specs.Option.{option_map}
use Rattle.std.specs.Result.{IsErrOf}
use Rattle.ak_base.specs.Cards.{IsCheckedCard}
use Rattle.ak_base.specs.Days.{IsDayOf}
use Rattle.ak_faults.specs.Causes.{GoesOn, Health}
use Rattle.ak_base.specs.declared.cards.Card.{Card}
use Rattle.ak_base.specs.declared.heads.Head.{Head}
use Rattle.ak_base.specs.declared.names.Name.{Name}
use Rattle.ak_base.specs.declared.names.Table.{Table}
use Rattle.ak_base.specs.declared.names.Table.TheVariants as tables
use Rattle.ak_edit_calls.proofs.Telling.{where_held-both, where_told-both}
use Rattle.ak_keep.specs.FreeNames.{IsFree, is_used}
use Rattle.ak_edit_calls.proofs.FreeIds.{none_free}
use Rattle.ak_edit_calls.specs.NewNames.{first_name}
use Rattle.ak_edit.specs.Overlays.{Overlay, unchanged}
use Rattle.ak_edit.specs.Refusals.{AnswersBy, DeskCause, IsFromOutside}
use Rattle.ak_edit.specs.declared.desk_faults.DeskFault.{DeskFault}
use Rattle.ak_edit.specs.declared.desk_faults.DeskFault.TheVariants as faults
use Rattle.ak_keep.specs.Collections.{Collection, Rows}
use Rattle.ak_keep.specs.Keepers.{Keeping, WhereHeld, WhereTold}
use Rattle.ak_keep.specs.Lookups.{card_at, options_of_card}
use Rattle.ak_merge.proofs.EditFacts.{false_true, true_false}
use Rattle.ak_merge.specs.Holdings.{name_in}
use Rattle.std.proofs.lemmas.Option.{same_Some}
use Rattle.ak_base.specs.declared.option_groups.Options.{Options}
use Rattle.ak_edit_calls.specs.Calls.{RefusesAbsent}
use Rattle.ak_keep.proofs.Told.{where_told-map}
use Rattle.ak_sched.specs.Answers.{can_answer}
use Rattle.ak_study.proofs.AnswerFaults.{cause_ok}
use Rattle.ak_study.proofs.AnsweredEnds.{held_as, where_held_as}
use Rattle.ak_study.proofs.AskedCards.{BeginsDay, asked_accepted, refused_card, refused_review}
use Rattle.ak_study.specs.Answers.{AreOptionsFor, AreThese, IsCardFault, RefusesAsked, answer_put}
use Rattle.ak_study.specs.Asking.{IsAsked, IsFilled, IsFilledOf, IsPrepared, IsReviewName, RefusesBegun}
use Rattle.ak_study.specs.DayStarts.{HasBegun, card_begun, is_new_day}
use Rattle.ak_study.proofs.PlacedCards.{unbury_keeps}
use Rattle.ak_study.specs.CardPlaces.{unburied}
use Rattle.ak_study.specs.Scheduling.{IsScheduled}
use Rattle.ak_study.specs.declared.answers.Asked.{Asked}
use Rattle.ak_study.specs.declared.answers.CardAnswer.{CardAnswer}
use Rattle.ak_study.specs.declared.answers.Filled.{Filled}
use Rattle.ak_study.specs.declared.answers.Prepared.{Prepared}
use Rattle.ak_study.specs.declared.day_starts.Begun.{Begun}

-- ---- the free id
review_named : (at : ℤ) (held : Rows) (free : Option Name) (id : ℤ) → IsTrue (is_some free) → IfSome free (λ name. id ≡ name.id) → IsReviewName at held free → IsReviewName at held (Some (name_in tables.Review id))
review_named at held None id some is there = false_true some
review_named at held (Some name) id some is there =
    let same : name ≡ name_in tables.Review id =
    ap (λ (t : Table). name_in t name.id) there.table ∙ ap (name_in tables.Review) (sym is) in
    subst (λ (n : Name). IsFree (is_used (get held)) (first_name tables.Review at) n) same there

some_free : (at : ℤ) (held : Rows) (free : Option Name) → IsTrue (is_some free) → IsReviewName at held free → IsReviewName at held None → ⊥
some_free at held None some there none = false_true some
some_free at held (Some name) some there none = none_free (is_used (get held)) (first_name tables.Review at) name there none

-- ---- the card that was asked for
pub asked_told : (k : Keeping) (at id : ℤ) (p : Prepared) (card : Card) (review : ℤ) → IsTrue (is_some p.free) → IfSome p.free (λ name. review ≡ name.id) → WhereTold k (IsPrepared at p)
    → WhereTold k (λ h. option_map (card_begun p.begun) (card_at h.rows id) ≡ Some card) → WhereTold k (IsAsked at id (record { change = p.change; begun = p.begun; card = card; review = review }))
asked_told k at id p card review some is =
    where_told-both k (IsPrepared at p) (λ h. option_map (card_begun p.begun) (card_at h.rows id) ≡ Some card) (IsAsked at id (record { change = p.change; begun = p.begun; card = card; review = review }))
    (λ h prepared found. record { begun = prepared.begun; card = found; review = review_named at h.rows p.free review some is prepared.free })

begins_in : (at : ℤ) (c : Collection) (begun : Begun) (old new : Overlay) → HasBegun at (held_as c) begun old new → BeginsDay at c begun
begins_in at c begun old new is =
    let same : is.head ≡ c.head = sym (same_Some c.head is.head is.is_head) in
    record {
      day = subst (λ (h : Head). IsDayOf h.crt at begun.day) same is.day;
      starts = is.starts ∙ ap (λ (h : Head). is_new_day begun.day h.conf) same;
    }

-- ---- refusals
pub card_refused : (X Y : Type 0) (k : Keeping) (at id : ℤ) (p : Prepared) (fault : DeskFault) → WhereTold k (IsPrepared at p)
    → WhereTold k (λ h. AnswersBy {T = X} (RefusesBegun p.begun id h.rows) (Err fault)) → WhereHeld k (λ c. AnswersBy {T = Y} (RefusesAsked at id c) (Err fault))
card_refused X Y k at id p fault prepared answers =
    where_held-both k (λ c. IsPrepared at p (held_as c)) (λ c. AnswersBy {T = X} (RefusesBegun p.begun id c.rows) (Err fault)) (λ c. AnswersBy {T = Y} (RefusesAsked at id c) (Err fault))
    (λ c is told. refused_card at id c p.begun (begins_in at c p.begun unchanged p.change is.begun) X Y fault told)
    (where_held_as k (IsPrepared at p) prepared) (where_held_as k (λ h. AnswersBy {T = X} (RefusesBegun p.begun id h.rows) (Err fault)) answers)

pub review_refused : (X Y : Type 0) (k : Keeping) (at id : ℤ) (p : Prepared) (value : X) (fault : DeskFault) → p.free ≡ None → fault ≡ faults.IdEnd → WhereTold k (IsPrepared at p)
    → WhereTold k (λ h. AnswersBy (RefusesBegun p.begun id h.rows) (Ok value)) → WhereHeld k (λ c. AnswersBy {T = Y} (RefusesAsked at id c) (Err fault))
review_refused X Y k at id p value fault none is prepared answers =
    where_held-both k (λ c. IsPrepared at p (held_as c)) (λ c. AnswersBy (RefusesBegun p.begun id c.rows) (Ok value)) (λ c. AnswersBy {T = Y} (RefusesAsked at id c) (Err fault))
    (λ c there told. refused_review at id c p.begun (begins_in at c p.begun unchanged p.change there.begun) X Y value fault told (subst (IsReviewName at c.rows) none there.free) is)
    (where_held_as k (IsPrepared at p) prepared) (where_held_as k (λ h. AnswersBy (RefusesBegun p.begun id h.rows) (Ok value)) answers)

pub ask_accepted : (X Y : Type 0) (k : Keeping) (at id : ℤ) (p : Prepared) (value : X) (other : Y) → IsTrue (is_some p.free) → WhereTold k (IsPrepared at p)
    → WhereTold k (λ h. AnswersBy (RefusesBegun p.begun id h.rows) (Ok value)) → WhereHeld k (λ c. AnswersBy (RefusesAsked at id c) (Ok other))
ask_accepted X Y k at id p value other some prepared answers =
    where_held-both k (λ c. IsPrepared at p (held_as c)) (λ c. AnswersBy (RefusesBegun p.begun id c.rows) (Ok value)) (λ c. AnswersBy (RefusesAsked at id c) (Ok other))
    (λ c there told. asked_accepted at id c p.begun (begins_in at c p.begun unchanged p.change there.begun) value other told (some_free at c.rows p.free some there.free))
    (where_held_as k (IsPrepared at p) prepared) (where_held_as k (λ h. AnswersBy (RefusesBegun p.begun id h.rows) (Ok value)) answers)

-- ---- the edit
pub filled_told : (k : Keeping) (asked : Asked) (given : CardAnswer) (filled : Filled) → filled.begun ≡ asked.begun → filled.answering.was ≡ asked.card → filled.answering.answered.review.id ≡ asked.review
    → IsScheduled given asked.begun.day filled.answering → WhereTold k (λ h. AreOptionsFor h.rows asked.card filled.answering.options)
    → WhereTold k (λ h. filled.change ≡ answer_put asked.begun.day h.rows filled.answering asked.change) → WhereTold k (IsFilledOf asked given filled)
filled_told k asked given filled begun was id scheduled =
    where_told-both k (λ h. AreOptionsFor h.rows asked.card filled.answering.options) (λ h. filled.change ≡ answer_put asked.begun.day h.rows filled.answering asked.change) (IsFilledOf asked given filled)
    (λ h options changes. record { begun = begun; was = was; options = options; id = id; scheduled = scheduled; changes = changes })

pub fill_told : (k : Keeping) (at : ℤ) (given : CardAnswer) (asked : Asked) (filled : Filled) → WhereTold k (IsAsked at given.card asked) → WhereTold k (IsFilledOf asked given filled) → WhereTold k (IsFilled at given filled)
fill_told k at given asked filled =
    where_told-both k (IsAsked at given.card asked) (IsFilledOf asked given filled) (IsFilled at given filled) (λ h one two. record { asked = asked; is_asked = one; is_filled = two })

-- ---- the options
pub options_told : (k : Keeping) (card : Card) (found : Option Options) (options : Options) → AreThese found options → WhereTold k (λ h. found ≡ options_of_card h.rows card) → WhereTold k (λ h. AreOptionsFor h.rows card options)
options_told k card found options these =
    where_told-map k (λ h. found ≡ options_of_card h.rows card) (λ h. AreOptionsFor h.rows card options) (λ h is. subst (λ (o : Option Options). AreThese o options) is these)

-- ---- a card that can be answered, or can't
pub cannot_told : (X Y : Type 0) (k : Keeping) (begun : Begun) (id : ℤ) (held : Card) (value : X) (fault : DeskFault) → can_answer (card_begun begun held) ≡ false → fault ≡ faults.NotAnswerable (card_begun begun held).queue
    → WhereTold k (λ h. card_at h.rows id ≡ Some held) → WhereTold k (λ h. AnswersBy (RefusesAbsent (get h.rows) (name_in tables.Card id)) (Ok value))
    → WhereTold k (λ h. AnswersBy {T = Y} (RefusesBegun begun id h.rows) (Err fault))
cannot_told X Y k begun id held value fault cannot is =
    where_told-both k (λ h. card_at h.rows id ≡ Some held) (λ h. AnswersBy (RefusesAbsent (get h.rows) (name_in tables.Card id)) (Ok value)) (λ h. AnswersBy {T = Y} (RefusesBegun begun id h.rows) (Err fault))
    (λ h there present. record { accepted = tt; refused = inr (inr (present.accepted, (card_begun begun held, ap (option_map (card_begun begun)) there, cannot, is))) })

pub can_told : (X Y : Type 0) (k : Keeping) (begun : Begun) (id : ℤ) (held : Card) (value : X) (other : Y) → IsTrue (can_answer (card_begun begun held))
    → WhereTold k (λ h. card_at h.rows id ≡ Some held) → WhereTold k (λ h. AnswersBy (RefusesAbsent (get h.rows) (name_in tables.Card id)) (Ok value))
    → WhereTold k (λ h. AnswersBy (RefusesBegun begun id h.rows) (Ok other))
can_told X Y k begun id held value other can =
    where_told-both k (λ h. card_at h.rows id ≡ Some held) (λ h. AnswersBy (RefusesAbsent (get h.rows) (name_in tables.Card id)) (Ok value)) (λ h. AnswersBy (RefusesBegun begun id h.rows) (Ok other))
    (λ h there present. record {
      accepted = λ fault tests. elim tests [
        | inl absent ↦ present.accepted fault absent
        | inr cannot ↦ true_false (sym can ∙ ap can_answer (same_Some (card_begun begun held) cannot.1.0 (sym (ap (option_map (card_begun begun)) there) ∙ cannot.1.1)) ∙ cannot.1.2)
      ];
      refused = tt;
    })

-- ---- what the test of a card answers
pub tested_told : (X : Type 0) (k : Keeping) (begun : Begun) (id : ℤ) (held : Card) (value : X) (r : Result Card DeskFault)
    → IfOk r (λ made. (made ≡ card_begun begun held) × IsTrue (can_answer (card_begun begun held)))
    → IfErr r (λ fault. (can_answer (card_begun begun held) ≡ false) × (fault ≡ faults.NotAnswerable (card_begun begun held).queue))
    → WhereTold k (λ h. card_at h.rows id ≡ Some held) → WhereTold k (λ h. AnswersBy (RefusesAbsent (get h.rows) (name_in tables.Card id)) (Ok value))
    → WhereTold k (λ h. AnswersBy (RefusesBegun begun id h.rows) r)
tested_told X k begun id held value (Ok made) can cannot = can_told X Card k begun id held value made can.1
tested_told X k begun id held value (Err fault) can cannot = cannot_told X Card k begun id held value fault cannot.0 cannot.1

pub begun_told : (k : Keeping) (begun : Begun) (id : ℤ) (held : Card) (r : Result Card DeskFault) → IfOk r (λ made. (made ≡ card_begun begun held) × IsTrue (can_answer (card_begun begun held)))
    → WhereTold k (λ h. card_at h.rows id ≡ Some held) → IfOk r (λ card. WhereTold k (λ h. option_map (card_begun begun) (card_at h.rows id) ≡ Some card))
begun_told k begun id held (Ok made) can there =
    where_told-map k (λ h. card_at h.rows id ≡ Some held) (λ h. option_map (card_begun begun) (card_at h.rows id) ≡ Some made)
    (λ h is. ap (option_map (card_begun begun)) is ∙ ap (λ (card : Card). Some card) (sym can.0)) there
begun_told k begun id held (Err fault) can there = tt

abbrev fails : DeskFault → Result Card DeskFault
fails fault = Err fault

same_fault : (x y : DeskFault) → fails x ≡ fails y → x ≡ y
same_fault x y is = ap (λ (r : Result Card DeskFault). elim r as (λ _. DeskFault) [ Ok card ↦ y | Err e ↦ e ]) is

begun_keeps : (begun : Begun) (held : Card) → IsCheckedCard held → IsCheckedCard (card_begun begun held)
begun_keeps begun held checked = elim begun.starts as (λ b. IsCheckedCard (if b then unburied held else held)) [ true ↦ unbury_keeps.checked held checked | false ↦ checked ]

pub begun_checked : (begun : Begun) (held : Card) (r : Result Card DeskFault) → IfOk r (λ made. (made ≡ card_begun begun held) × IsTrue (can_answer (card_begun begun held))) → IsCheckedCard held → IfOk r IsCheckedCard
begun_checked begun held (Ok made) can checked = subst IsCheckedCard (sym can.0) (begun_keeps begun held checked)
begun_checked begun held (Err fault) can checked = tt

-- a card that can't be answered is no failure
pub caused_by_card : (a b : Health) (begun : Begun) (held : Card) (r : Result Card DeskFault) → GoesOn a b
    → IfErr r (λ fault. (can_answer (card_begun begun held) ≡ false) × (fault ≡ faults.NotAnswerable (card_begun begun held).queue)) → DeskCause a b r
caused_by_card a b begun held (Ok made) goes cannot = cause_ok made goes
caused_by_card a b begun held (Err fault) goes cannot = record {
  goes = goes;
  failed = λ is. absurd (not_failed fault cannot.1 is);
  unfailed = λ _ is. not_failed fault cannot.1 is;
}
  where
    not_failed : (f : DeskFault) → f ≡ faults.NotAnswerable (card_begun begun held).queue → IsErrOf (fails f) faults.Failed → ⊥
    not_failed f is failed = let clash : faults.NotAnswerable (card_begun begun held).queue ≡ faults.Failed = sym is ∙ same_fault f faults.Failed failed in absurd (grind (arith, clash))

-- a card that passed the test can be answered
pub can_of : (begun : Begun) (held : Card) (r : Result Card DeskFault) → IfOk r (λ made. (made ≡ card_begun begun held) × IsTrue (can_answer (card_begun begun held))) → IfOk r (λ card. IsTrue (can_answer card))
can_of begun held (Ok made) can = subst (λ (card : Card). IsTrue (can_answer card)) (sym can.0) can.1
can_of begun held (Err fault) can = tt

-- a card that did not pass is told as one that can't
pub cannot_listed : (id : ℤ) (begun : Begun) (held : Card) (r : Result Card DeskFault) → IfErr r (λ fault. (can_answer (card_begun begun held) ≡ false) × (fault ≡ faults.NotAnswerable (card_begun begun held).queue))
    → IfErr r (λ fault. IsFromOutside fault ⊎ IsCardFault id fault)
cannot_listed id begun held (Ok made) cannot = tt
cannot_listed id begun held (Err fault) cannot = inr (inr ((card_begun begun held).queue, cannot.1))
