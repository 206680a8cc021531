-- An early answer: how it ends.
use Rattle.std.specs.Prelude.{◌≡◌, ◌⊎◌, ℤ, Bool, true, false, cond, if◌then◌else◌, List, [], Option, Some, None, Result, Ok, Err}
use Rattle.std.proofs.Common.{refl, sym, ap, subst, ◌∙◌, inl, inr}
use Rattle.std.proofs.lemmas.Option.{same_Some}
use Rattle.std.specs.FinMap.{get}
use Rattle.std.specs.Ordering.{eq_by_cmp}
use Rattle.ak_away_answers.specs.AwayAnswers.{EndsEarly}
use Rattle.ak_away_answers.specs.EarlyAnswers.{IsEarly, early_edit, review_early}
use Rattle.ak_away_answers.specs.EarlyEdits.{IsHeldAsked, IsMadeEarly, card_made, early_over}
use Rattle.ak_away_answers.specs.declared.early_answers.Asked.{Asked}
use Rattle.ak_away_answers.specs.declared.early_answers.Early.{Early}
use Rattle.ak_base.specs.Cards.{IsCheckedCard}
use Rattle.ak_base.specs.Names.{name_cmp}
use Rattle.ak_base.specs.Reviews.{IsCheckedReview}
use Rattle.ak_base.specs.Rows.{IsChecked, name_of}
use Rattle.ak_base.specs.declared.cards.Card.{Card}
use Rattle.ak_base.specs.declared.names.Name.{Name}
use Rattle.ak_base.specs.declared.names.Table.TheVariants as tables
use Rattle.ak_base.specs.declared.option_groups.Options.{Options}
use Rattle.ak_base.specs.declared.reviews.Review.{Review}
use Rattle.ak_base.specs.declared.rows.Row.{Row}
use Rattle.ak_base.specs.declared.rows.Row.TheVariants as rows
use Rattle.ak_edit.proofs.Building.{nothing_asked, put_asked}
use Rattle.ak_edit.specs.Ends.{AnswersEnd, IsHeldRightly, RefusesEnd, RefusesRow, RefusesStamp}
use Rattle.ak_edit.specs.Overlays.{Overlay, edit_of, put_over, unchanged}
use Rattle.ak_edit.specs.Refusals.{AnswersBy, IsFromOutside}
use Rattle.ak_edit.specs.declared.desk_faults.DeskFault.{DeskFault}
use Rattle.ak_edit_calls.proofs.Answering.{never_first}
use Rattle.ak_edit_calls.proofs.CheckedEdits.{checked_edits_pass}
use Rattle.ak_edit_calls.proofs.Telling.{where_held-both, where_held-map, where_rows_held, where_told-both}
use Rattle.ak_edit_calls.specs.NewNames.{IsNewName, RefusesId, first_name}
use Rattle.ak_filtered.proofs.Told.{held_always, held_pair}
use Rattle.ak_filtered.specs.ClearedEdits.{ClearedBy, IsCleared}
use Rattle.ak_filtered.specs.HomeDecks.{DeckFlags, filtered_at, flags_of, gone_home}
use Rattle.ak_filtered.specs.declared.held_decks.HeldDecks.{HeldDecks}
use Rattle.ak_keep.specs.Collections.{Collection, Rows}
use Rattle.ak_keep.specs.FreeNames.{IsFirstFree, is_used}
use Rattle.ak_keep.specs.Keepers.{Keeping, WhereHeld, WhereTold}
use Rattle.ak_keep.specs.Lookups.{card_at}
use Rattle.ak_merge.specs.EditBuilding.{unedited, with_row}
use Rattle.ak_merge.specs.Edits.{Edit}
use Rattle.ak_merge.specs.Holdings.{name_in, row_under}
use Rattle.ak_study.specs.Answers.{AreOptionsFor}
use Rattle.ak_study.specs.declared.answers.CardAnswer.{CardAnswer}
use Rattle.ak_undo.specs.declared.steps.Step.{Step}

-- ---- before anything is made
pub early_outside : (k : Keeping) (at : ℤ) (given : CardAnswer) (asked : Asked) (steps : List Step) (fault : DeskFault) → IsFromOutside fault → WhereHeld k (λ c. EndsEarly at given asked.day c k k steps steps (Err fault))
early_outside k at given asked steps fault outside =
    held_always k (λ c. EndsEarly at given asked.day c k k steps steps (Err fault)) (λ c. record { done = tt; same = refl; kept = refl; accepted = tt; refused = inl outside })

pub early_no_id : (k : Keeping) (at : ℤ) (given : CardAnswer) (asked : Asked) (steps : List Step) (fault : DeskFault) → WhereTold k (λ h. AnswersBy {T = Name} (RefusesId at tables.Review (get h.rows)) (Err fault))
    → WhereHeld k (λ c. EndsEarly at given asked.day c k k steps steps (Err fault))
early_no_id k at given asked steps fault told =
    where_held-map k (λ c. AnswersBy {T = Name} (RefusesId at tables.Review (row_under c)) (Err fault)) (λ c. EndsEarly at given asked.day c k k steps steps (Err fault))
    (λ c answers. record {
      done = tt;
      same = refl;
      kept = refl;
      accepted = tt;
      refused = elim answers.refused [ inl outside ↦ inl outside | inr is ↦ inr (inl is) ];
    })
    (where_rows_held k (λ rows. AnswersBy {T = Name} (RefusesId at tables.Review (get rows)) (Err fault)) told)

-- ---- what is made
-- what an early answer puts, made of what was read
pub made_told : (k : Keeping) (id : ℤ) (given : CardAnswer) (asked : Asked) (decks : HeldDecks) (home : Card) (options : Options) (early : Early) → home ≡ gone_home (flags_of decks) asked.card
    → early.made ≡ card_made options asked given.button home → early.review ≡ review_early id given options asked.day asked.card → WhereTold k (λ h. flags_of decks ≡ filtered_at h.rows)
    → WhereTold k (λ h. AreOptionsFor h.rows home options) → WhereTold k (λ h. IsMadeEarly id given asked h.rows early)
made_told k id given asked decks home options early at_home made review =
    where_told-both k (λ h. flags_of decks ≡ filtered_at h.rows) (λ h. AreOptionsFor h.rows home options) (λ h. IsMadeEarly id given asked h.rows early)
    (λ h flags own.
    let is : home ≡ gone_home (filtered_at h.rows) asked.card = at_home ∙ ap (λ (f : DeckFlags). gone_home f asked.card) flags in
    record {
      options = options;
      are_options = subst (λ (c : Card). AreOptionsFor h.rows c options) is own;
      card = made ∙ ap (card_made options asked given.button) is;
      is_review = review;
    })

-- ---- what is known before the end
pub record IsReady (at : ℤ) (given : CardAnswer) (asked : Asked) (name : Name) (early : Early) (c : Collection) : Type 0 where
  pub rightly : IsHeldRightly c
  pub held : card_at c.rows given.card ≡ Some asked.card
  pub new : IsNewName at tables.Review (row_under c) name
  pub passes : AnswersBy {T = Name} (RefusesId at tables.Review (row_under c)) (Ok name)
  pub made : IsMadeEarly name.id given asked c.rows early

pub ready : (k : Keeping) (at : ℤ) (given : CardAnswer) (asked : Asked) (name : Name) (early : Early) → WhereHeld k IsHeldRightly → WhereTold k (IsHeldAsked given.card asked)
    → WhereTold k (λ h. IsNewName at tables.Review (get h.rows) name) → WhereTold k (λ h. AnswersBy {T = Name} (RefusesId at tables.Review (get h.rows)) (Ok name))
    → WhereTold k (λ h. IsMadeEarly name.id given asked h.rows early) → WhereHeld k (IsReady at given asked name early)
ready k at given asked name early rightly held new passes made =
    let first = held_pair k IsHeldRightly (λ c. card_at c.rows given.card ≡ Some asked.card) rightly (where_rows_held k (λ rows. card_at rows given.card ≡ Some asked.card) held) in
    let second = held_pair k (λ c. IsNewName at tables.Review (row_under c) name) (λ c. AnswersBy {T = Name} (RefusesId at tables.Review (row_under c)) (Ok name))
    (where_rows_held k (λ rows. IsNewName at tables.Review (get rows) name) new) (where_rows_held k (λ rows. AnswersBy {T = Name} (RefusesId at tables.Review (get rows)) (Ok name)) passes) in
    where_held-both k (λ c. IsHeldRightly c × (card_at c.rows given.card ≡ Some asked.card))
    (λ c. (IsNewName at tables.Review (row_under c) name × AnswersBy {T = Name} (RefusesId at tables.Review (row_under c)) (Ok name)) × IsMadeEarly name.id given asked c.rows early)
    (IsReady at given asked name early)
    (λ c one other. record { rightly = one.0; held = one.1; new = other.0.0; passes = other.0.1; made = other.1 }) first
    (held_pair k (λ c. IsNewName at tables.Review (row_under c) name × AnswersBy {T = Name} (RefusesId at tables.Review (row_under c)) (Ok name)) (λ c. IsMadeEarly name.id given asked c.rows early) second
    (where_rows_held k (λ rows. IsMadeEarly name.id given asked rows early) made))

-- the answer is one by the rules
early_is : (at : ℤ) (given : CardAnswer) (asked : Asked) (name : Name) (early : Early) (c : Collection) → name.table ≡ tables.Review → IsReady at given asked name early c
    → IsEarly at given asked.day c early.made early.review
early_is at given asked name early c table is =
    let id : early.review.id ≡ name.id = ap (λ (r : Review). r.id) is.made.is_review in
    let same : name ≡ name_in tables.Review early.review.id = ap (λ t. name_in t name.id) table ∙ ap (name_in tables.Review) (sym id) in
    record {
      was = asked.card;
      is_held = is.held;
      options = is.made.options;
      are_options = is.made.are_options;
      free = subst (λ (n : Name). IsFirstFree (is_used (row_under c)) (first_name tables.Review at) (Some n)) same is.new;
      card = is.made.card;
      is_review = subst (λ (n : ℤ). early.review ≡ review_early n given is.made.options asked.day asked.card) (sym id) is.made.is_review;
    }

-- ---- the edit
edit_is : (early : Early) (o : Overlay) (c : Collection) → o ≡ early_over early unchanged → edit_of o c ≡ early_edit early.made early.review c
edit_is early o c is =
    ap (λ (p : Overlay). edit_of p c) is
    ∙ put_asked c (put_over (rows.Card early.made) unchanged) (rows.Review early.review)
    ∙ ap (with_row (rows.Review early.review)) (put_asked c unchanged (rows.Card early.made) ∙ ap (with_row (rows.Card early.made)) (nothing_asked c))

-- a row that stands anew passes its check
put_checked : (row put : Row) (name : Name) (x : Option Row) → IsChecked put → ((r : Row) → x ≡ Some r → IsChecked r)
    → (if eq_by_cmp name_cmp name (name_of put) then Some put else x) ≡ Some row → IsChecked row
put_checked row put name x checked others is =
    elim (eq_by_cmp name_cmp name (name_of put)) as (λ b. (if b then Some put else x) ≡ Some row → IsChecked row) [
      | true ↦ λ is. subst IsChecked (same_Some put row is) checked
      | false ↦ λ is. others row is
    ] is

rows_pass : (early : Early) (c : Collection) (fault : DeskFault) → IsHeldRightly c → IsCheckedCard early.made → IsCheckedReview early.review → RefusesRow c (early_edit early.made early.review c) fault → ⊥
rows_pass early c fault rightly card review =
    checked_edits_pass c (early_edit early.made early.review c) fault (λ name row is.
    put_checked row (rows.Review early.review) name (if eq_by_cmp name_cmp name (name_of (rows.Card early.made)) then Some (rows.Card early.made) else row_under c name) review
    (λ r there. put_checked r (rows.Card early.made) name (row_under c name) card (rightly.checked name) there) is)

stamps_answer : (at : ℤ) (early : Early) (o : Overlay) (c : Collection) (result : Result (Unit {0}) DeskFault) → o ≡ early_over early unchanged → IsHeldRightly c → IsCheckedCard early.made
    → IsCheckedReview early.review → AnswersBy (RefusesEnd at c (edit_of o c)) result → AnswersBy (RefusesStamp at c (early_edit early.made early.review c)) result
stamps_answer at early o c result over rightly card review answers =
    never_first (RefusesRow c (early_edit early.made early.review c)) (RefusesStamp at c (early_edit early.made early.review c)) result (λ fault. rows_pass early c fault rightly card review)
    (subst (λ (e : Edit). AnswersBy (RefusesEnd at c e) result) (edit_is early o c over) answers)

-- ---- the end
pub early_done : (k now : Keeping) (at : ℤ) (given : CardAnswer) (asked : Asked) (name : Name) (early : Early) (o : Overlay) (steps left : List Step) (value : Unit {0}) → name.table ≡ tables.Review
    → o ≡ early_over early unchanged → IsCheckedCard early.made → IsCheckedReview early.review → WhereHeld k (IsReady at given asked name early) → ClearedBy at o k now left → AnswersEnd at o k (Ok value)
    → WhereHeld k (λ c. EndsEarly at given asked.day c k now steps left (Ok early.made))
early_done k now at given asked name early o steps left value table over card review is cleared answers =
    where_held-both k (IsReady at given asked name early)
    (λ c. IsCleared at c (edit_of o c) k now left × AnswersBy {T = Unit {0}} (RefusesEnd at c (edit_of o c)) (Ok value))
    (λ c. EndsEarly at given asked.day c k now steps left (Ok early.made))
    (λ c one both. record {
      done = record {
        review = early.review;
        is_early = early_is at given asked name early c table one;
        passes = (stamps_answer at early o c (Ok value) over one.rightly card review both.1).accepted;
        cleared = subst (λ (e : Edit). IsCleared at c e k now left) (edit_is early o c over) both.0;
      };
      same = tt;
      kept = tt;
      accepted = one.passes.accepted;
      refused = tt;
    }) is
    (held_pair k (λ c. IsCleared at c (edit_of o c) k now left) (λ c. AnswersBy {T = Unit {0}} (RefusesEnd at c (edit_of o c)) (Ok value)) cleared answers)

pub early_refused : (k : Keeping) (at : ℤ) (given : CardAnswer) (asked : Asked) (name : Name) (early : Early) (o : Overlay) (steps : List Step) (fault : DeskFault) → name.table ≡ tables.Review
    → o ≡ early_over early unchanged → IsCheckedCard early.made → IsCheckedReview early.review → WhereHeld k (IsReady at given asked name early) → AnswersEnd {T = Unit {0}} at o k (Err fault)
    → WhereHeld k (λ c. EndsEarly at given asked.day c k k steps steps (Err fault))
early_refused k at given asked name early o steps fault table over card review is answers =
    where_held-both k (IsReady at given asked name early) (λ c. AnswersBy {T = Unit {0}} (RefusesEnd at c (edit_of o c)) (Err fault)) (λ c. EndsEarly at given asked.day c k k steps steps (Err fault))
    (λ c one answer. record {
      done = tt;
      same = refl;
      kept = refl;
      accepted = tt;
      refused = elim (stamps_answer at early o c (Err fault) over one.rightly card review answer).refused [
        | inl outside ↦ inl outside
        | inr refuses ↦ inr (inr (one.passes.accepted, (early.made, early.review, early_is at given asked name early c table one, refuses)))
      ];
    }) is answers
