-- The end of an answer: what it leaves, and why it is refused.
use Rattle.std.specs.Prelude.{◌≡◌, ℤ, pos, negsuc, Bool, true, false, if◌then◌else◌, IfSome, List, Option, Some, None, Ok, Err, option_and_then}
use Rattle.std.proofs.Common.{inl, inr, refl, sym, ap, subst, ◌∙◌}
use Rattle.std.proofs.lemmas.Option.{none-some, same_Some}
use Rattle.std.specs.Option.{option_map}
use Rattle.ak_base.proofs.SameRows.{fields_exactly}
use Rattle.ak_base.specs.Contents.{same_but_stamp_and_usn}
use Rattle.ak_base.specs.Days.{IsDayOf}
use Rattle.ak_base.specs.OptionGroups.{AreOpeningOptions}
use Rattle.ak_base.specs.declared.cards.Card.{Card}
use Rattle.ak_base.specs.declared.days.Day.{Day}
use Rattle.ak_base.specs.declared.heads.Head.{Head}
use Rattle.ak_base.specs.declared.names.Name.{Name}
use Rattle.ak_base.specs.declared.names.Table.TheVariants as tables
use Rattle.ak_base.specs.declared.option_groups.Options.{Options}
use Rattle.ak_base.specs.declared.rows.Row.{Row}
use Rattle.ak_base.specs.declared.rows.Row.TheVariants as rows
use Rattle.ak_edit_calls.proofs.Answering.{passed_first, refused_first}
use Rattle.ak_edit_calls.proofs.Telling.{where_held-both, where_held-map}
use Rattle.ak_edit.specs.Ends.{AnswersEnd, FinishedBy, IsFinished, IsHeldRightly, RefusesEnd}
use Rattle.ak_edit_calls.proofs.FreeIds.{free_once}
use Rattle.ak_edit_calls.specs.NewNames.{first_name}
use Rattle.ak_edit.specs.Overlays.{Overlay, edit_of, row_over, unchanged}
use Rattle.ak_edit.specs.Refusals.{AnswersBy}
use Rattle.ak_edit.specs.declared.desk_faults.DeskFault.{DeskFault}
use Rattle.ak_keep.proofs.Told.{where_told-map}
use Rattle.ak_keep.specs.Collections.{Collection, Holding, collection_of}
use Rattle.ak_keep.specs.Keepers.{Keeping, WhereHeld, WhereTold}
use Rattle.ak_keep.specs.Lookups.{as_card, card_at, options_of_card}
use Rattle.ak_merge.specs.Edits.{Edit}
use Rattle.ak_keep.specs.FreeNames.{is_used}
use Rattle.ak_merge.specs.Holdings.{name_in, row_under}
use Rattle.ak_sched.specs.Answers.{IsAnswer}
use Rattle.ak_sched.specs.declared.answers.Answered.{Answered}
use Rattle.ak_study.proofs.AnsweredRows.{answer_asked}
use Rattle.ak_study.proofs.AskedCards.{BeginsDay}
use Rattle.ak_study.proofs.BegunDays.{begun_under}
use Rattle.ak_study.proofs.DayLaws.{card_on_begun}
use Rattle.ak_study.proofs.DayStartRules.{day_is_one}
use Rattle.ak_study.specs.Answers.{Answers, AreOptionsFor, AreThese, IsAnswered, IsAnswering, RefusesAnswer, RefusesAsked, RefusesMade, answer_edit, answer_put}
use Rattle.ak_study.specs.Asking.{IsAsked, IsFilled, IsOnly, IsReviewName}
use Rattle.ak_study.specs.CardPlaces.{lies_buried, restored, unburied}
use Rattle.ak_study.specs.DayStarts.{OnDay, begun_over, card_begun, is_new_day, unburied_row}
use Rattle.ak_study.specs.Scheduling.{IsOnlyScheduled}
use Rattle.ak_study.specs.declared.answerings.Answering.{Answering}
use Rattle.ak_study.specs.declared.answers.Asked.{Asked}
use Rattle.ak_study.specs.declared.answers.CardAnswer.{CardAnswer}
use Rattle.ak_study.specs.declared.answers.Filled.{Filled}
use Rattle.ak_study.specs.declared.day_starts.Begun.{Begun}
use Rattle.ak_undo.specs.declared.steps.Step.{Step}

-- ---- the options are one
group_in : Row → Options → Options
group_in (rows.Options o) other = o
group_in (rows.Note note) other = other
group_in (rows.Card card) other = other
group_in (rows.Review review) other = other
group_in (rows.NoteType note_type) other = other
group_in (rows.Deck deck) other = other
group_in (rows.Grave grave) other = other

opening_same : (s : ℤ) (o p : Options) → AreOpeningOptions s o → AreOpeningOptions s p → same_but_stamp_and_usn (rows.Options o) (rows.Options p) ≡ true
opening_same s o p a b =
    rw (a.id, a.name, a.max_taken, a.new_steps, a.grad_ivl, a.easy_ivl, a.initial_factor, a.new_per_day, a.new_bury, a.rev_per_day, a.ease4, a.ivl_fct, a.max_ivl, a.hard_factor, a.rev_bury, a.lapse_steps, a.mult, a.min_int, a.leech_fails, a.leech_action, a.rest)
    (rw (b.id, b.name, b.max_taken, b.new_steps, b.grad_ivl, b.easy_ivl, b.initial_factor, b.new_per_day, b.new_bury, b.rev_per_day, b.ease4, b.ivl_fct, b.max_ivl, b.hard_factor, b.rev_bury, b.lapse_steps, b.mult, b.min_int, b.leech_fails, b.leech_action, b.rest) refl)

stamped_same : (s : ℤ) (o : Options) → AreOpeningOptions s o → record o { stamp = s; usn = negsuc 0 } ≡ o
stamped_same s o is =
    ap (λ (x : ℤ). let made : Options = record o { stamp = x; usn = negsuc 0 } in made) (sym is.stamp)
    ∙ ap (λ (x : ℤ). let made : Options = record o { usn = x } in made) (sym is.usn)

opening_one : (s : ℤ) (o p : Options) → AreOpeningOptions s o → AreOpeningOptions s p → o ≡ p
unfolding group_in
opening_one s o p a b =
    sym (stamped_same s o a)
    ∙ ap (λ (row : Row). group_in row o) ((fields_exactly (rows.Options o) (rows.Options p) s (negsuc 0)).0 (opening_same s o p a b))
    ∙ stamped_same s p b

these_one : (own : Option Options) (o p : Options) → AreThese own o → AreThese own p → o ≡ p
these_one None o p a b = opening_one (pos 0) o p a b
these_one (Some own) o p a b = a ∙ sym b

-- ---- the answering is one
module _ (at : ℤ) (given : CardAnswer) (c : Collection) (day : Day) (a : Answering) (is_day : IsDayOf c.head.crt at day) (is_answering : IsAnswering at day given c a) (only : IsOnlyScheduled given day a) where
  answering_one : (b : Answering) → IsAnswering at day given c b → a ≡ b
  answering_one b also =
      let was : a.was ≡ b.was = same_Some a.was b.was (sym is_answering.card ∙ also.card) in
      let options : a.options ≡ b.options = these_one (options_of_card c.rows a.was) a.options b.options is_answering.options (subst (λ (w : Card). AreOptionsFor c.rows w b.options) (sym was) also.options) in
      let id : a.answered.review.id ≡ b.answered.review.id =
      ap (λ (n : Name). n.id)
      (free_once (is_used (row_under c)) (first_name tables.Review at) (name_in tables.Review a.answered.review.id) (name_in tables.Review b.answered.review.id) is_answering.review also.review) in
      let scheduled : IsAnswer a.was a.options given.button day given.word given.taken a.answered.review.id b.made b.answered =
      subst (λ (w : Card). IsAnswer w a.options given.button day given.word given.taken a.answered.review.id b.made b.answered) (sym was)
      (subst (λ (o : Options). IsAnswer b.was o given.button day given.word given.taken a.answered.review.id b.made b.answered) (sym options)
      (subst (λ (i : ℤ). IsAnswer b.was b.options given.button day given.word given.taken i b.made b.answered) (sym id) also.scheduled)) in
      let both = only b.made b.answered scheduled in
      ap (λ (w : Card). let x : Answering = record { was = w; options = a.options; made = a.made; answered = a.answered } in x) was
      ∙ ap (λ (o : Options). let x : Answering = record { was = b.was; options = o; made = a.made; answered = a.answered } in x) options
      ∙ ap (λ (m : Card). let x : Answering = record { was = b.was; options = b.options; made = m; answered = a.answered } in x) both.0
      ∙ ap (λ (t : Answered). let x : Answering = record { was = b.was; options = b.options; made = b.made; answered = t } in x) both.1

  made_refused : (fault : DeskFault) → OnDay at c (RefusesMade at given c) fault → RefusesEnd at c (answer_edit day a c) fault
  made_refused fault is =
      let here : RefusesMade at given c day fault = subst (λ (d : Day). RefusesMade at given c d fault) (day_is_one c.head.crt at is.0 day is.1 is_day) is.2 in
      subst (λ (b : Answering). RefusesEnd at c (answer_edit day b c) fault) (sym (answering_one here.0 here.1)) here.2

  pub made_accepted : {T : Type 0} {U : Type 0} (value : T) (other : U) → AnswersBy (RefusesEnd at c (answer_edit day a c)) (Ok value) → AnswersBy (OnDay at c (RefusesMade at given c)) (Ok other)
  made_accepted value other answers = record { accepted = λ fault is. answers.accepted fault (made_refused fault is); refused = tt }

  pub made_failed : (X Y : Type 0) (fault : DeskFault) → AnswersBy {T = X} (RefusesEnd at c (answer_edit day a c)) (Err fault) → AnswersBy {T = Y} (OnDay at c (RefusesMade at given c)) (Err fault)
  made_failed X Y fault answers = record {
    accepted = tt;
    refused = elim answers.refused [ inl outside ↦ inl outside | inr is ↦ inr (day, is_day, (a, is_answering, is)) ];
  }

-- ---- what was filled
card_mapped : (f : Card → Card) (y : Option Row) (w : Card) → option_map f (option_and_then as_card y) ≡ Some w → (card : Card) × (y ≡ Some (rows.Card card)) × (f card ≡ w)
card_mapped f None w is = absurd (none-some w is)
card_mapped f (Some (rows.Card card)) w is = (card, refl, same_Some (f card) w is)
card_mapped f (Some (rows.Note note)) w is = absurd (none-some w is)
card_mapped f (Some (rows.Review review)) w is = absurd (none-some w is)
card_mapped f (Some (rows.NoteType note_type)) w is = absurd (none-some w is)
card_mapped f (Some (rows.Deck deck)) w is = absurd (none-some w is)
card_mapped f (Some (rows.Options options)) w is = absurd (none-some w is)
card_mapped f (Some (rows.Grave grave)) w is = absurd (none-some w is)

begun_id : (starts : Bool) (card : Card) → (if starts then unburied card else card).id ≡ card.id
begun_id false card = refl
begun_id true card = elim (lies_buried card) as (λ b. (if b then restored card else card).id ≡ card.id) [ true ↦ refl | false ↦ refl ]

begun_row : (starts : Bool) (card : Card) → (if starts then option_map unburied_row (Some (rows.Card card)) else Some (rows.Card card)) ≡ Some (rows.Card (if starts then unburied card else card))
begun_row false card = refl
begun_row true card = refl

-- the card stands as the day has begun
begun_there : (begun : Begun) (c : Collection) (id : ℤ) (was : Card) → IsHeldRightly c → option_map (card_begun begun) (card_at c.rows id) ≡ Some was
    → row_over (begun_over begun c.rows c.head.conf unchanged) (row_under c) (name_in tables.Card was.id) ≡ Some (rows.Card was)
begun_there begun c id was rightly is =
    let found = card_mapped (card_begun begun) (row_under c (name_in tables.Card id)) was is in
    let bears : name_in tables.Card found.0.id ≡ name_in tables.Card id = rightly.named (name_in tables.Card id) (rows.Card found.0) found.1 in
    let same : name_in tables.Card was.id ≡ name_in tables.Card id = ap (λ (card : Card). name_in tables.Card card.id) (sym found.2) ∙ ap (name_in tables.Card) (begun_id begun.starts found.0) ∙ bears in
    begun_under begun c.rows c.head.conf (name_in tables.Card was.id) rightly.named rightly.checked
    ∙ ap (λ (y : Option Row). if begun.starts then option_map unburied_row y else y) (ap (row_under c) same ∙ found.1)
    ∙ begun_row begun.starts found.0 ∙ ap (λ (card : Card). Some (rows.Card card)) found.2

-- what is known of a filled edit of a collection
pub record IsFilledIn (at : ℤ) (given : CardAnswer) (filled : Filled) (c : Collection) : Type 0 where
  pub day : Day
  pub is_day : IsDayOf c.head.crt at day
  pub is_answering : IsAnswering at day given c filled.answering
  pub only : IsOnlyScheduled given day filled.answering
  pub edit : edit_of filled.change c ≡ answer_edit day filled.answering c

abbrev pub held_as : Collection → Holding
held_as c = record { rows = c.rows; head = Some c.head }

pub begins_of : (at : ℤ) (id : ℤ) (asked : Asked) (c : Collection) → IsAsked at id asked (held_as c) → BeginsDay at c asked.begun
begins_of at id asked c is =
    let same : is.begun.head ≡ c.head = sym (same_Some c.head is.begun.head is.begun.is_head) in
    record {
      day = subst (λ (h : Head). IsDayOf h.crt at asked.begun.day) same is.begun.day;
      starts = is.begun.starts ∙ ap (λ (h : Head). is_new_day asked.begun.day h.conf) same;
    }

filled_in : (at : ℤ) (given : CardAnswer) (filled : Filled) (c : Collection) → IsHeldRightly c → IsOnly given filled → IsFilled at given filled (held_as c) → IsFilledIn at given filled c
filled_in at given filled c rightly only is =
    let asked : Asked = is.asked in
    let a : Answering = filled.answering in
    let begins : BeginsDay at c asked.begun = begins_of at given.card asked c is.is_asked in
    let same : is.is_asked.begun.head ≡ c.head = sym (same_Some c.head is.is_asked.begun.head is.is_asked.begun.is_head) in
    let card : option_map (card_begun asked.begun) (card_at c.rows given.card) ≡ Some a.was = is.is_asked.card ∙ ap (λ (w : Card). Some w) (sym is.is_filled.was) in
    let begun : asked.change ≡ begun_over asked.begun c.rows c.head.conf unchanged = is.is_asked.begun.changes ∙ ap (λ (h : Head). begun_over asked.begun c.rows h.conf unchanged) same in
    record {
      day = asked.begun.day;
      is_day = begins.day;
      is_answering = record {
        card = card_on_begun asked.begun c given.card begins.starts ∙ card;
        options = subst (λ (w : Card). AreOptionsFor c.rows w a.options) (sym is.is_filled.was) is.is_filled.options;
        review = subst (λ (i : ℤ). IsReviewName at c.rows (Some (name_in tables.Review i))) (sym is.is_filled.id) is.is_asked.review;
        scheduled = is.is_filled.scheduled;
      };
      only = subst (λ (b : Begun). IsOnlyScheduled given b.day a) is.is_filled.begun only.only;
      edit =
          ap (λ (o : Overlay). edit_of o c) (is.is_filled.changes ∙ ap (answer_put asked.begun.day c.rows a) begun)
          ∙ answer_asked asked.begun c a rightly.named rightly.checked only.same.id begins.starts (begun_there asked.begun c given.card a.was rightly card);
    }

-- ---- upon a keeper
held_of : (P : Holding → Type 0) (h : Holding) → P h → IfSome (collection_of h) (λ c. P (held_as c))
held_of P h is =
    elim h.head as (λ (o : Option Head). P (record { rows = h.rows; head = o }) → IfSome (collection_of (record { rows = h.rows; head = o })) (λ c. P (held_as c))) [ None ↦ λ _. tt | Some head ↦ λ there. there ] is

-- what is true of all that is told is true of the collection
pub where_held_as : (k : Keeping) (P : Holding → Type 0) → WhereTold k P → WhereHeld k (λ c. P (held_as c))
where_held_as k P = where_told-map k P (λ h. IfSome (collection_of h) (λ c. P (held_as c))) (held_of P)

where_filled : (k : Keeping) (at : ℤ) (given : CardAnswer) (filled : Filled) → WhereTold k (IsFilled at given filled) → IsOnly given filled → WhereHeld k IsHeldRightly → WhereHeld k (IsFilledIn at given filled)
where_filled k at given filled told only rightly =
    where_held-both k IsHeldRightly (λ c. IsFilled at given filled (held_as c)) (IsFilledIn at given filled) (λ c right is. filled_in at given filled c right only is) rightly (where_held_as k (IsFilled at given filled) told)

-- the answer was done
pub answer_done : (k now : Keeping) (at : ℤ) (given : CardAnswer) (filled : Filled) (steps left : List Step) → WhereTold k (IsFilled at given filled) → IsOnly given filled → WhereHeld k IsHeldRightly
    → FinishedBy at filled.change k now steps left → Answers at given k now steps left filled.answering.made
answer_done k now at given filled steps left told only rightly finished =
    where_held-both k (IsFilledIn at given filled) (λ c. IsFinished at c (edit_of filled.change c) k now steps left) (λ c. IsAnswered at given c k now steps left filled.answering.made)
    (λ c is done. record {
      day = is.day;
      is_day = is.is_day;
      answering = filled.answering;
      is_answering = is.is_answering;
      card = refl;
      finished = subst (λ (e : Edit). IsFinished at c e k now steps left) is.edit done;
    }) (where_filled k at given filled told only rightly) finished

-- its answers
pub answer_accepted : {T : Type 0} {U : Type 0} (k : Keeping) (at : ℤ) (given : CardAnswer) (filled : Filled) (value : T) (other : U) → WhereTold k (IsFilled at given filled) → IsOnly given filled → WhereHeld k IsHeldRightly
    → WhereHeld k (λ c. AnswersBy (RefusesAsked at given.card c) (Ok filled)) → AnswersEnd at filled.change k (Ok value) → WhereHeld k (λ c. AnswersBy (RefusesAnswer at given c) (Ok other))
answer_accepted k at given filled value other told only rightly asked answers =
    where_held-both k (IsFilledIn at given filled) (λ c. AnswersBy (RefusesAsked at given.card c) (Ok filled) × AnswersBy (RefusesEnd at c (edit_of filled.change c)) (Ok value))
    (λ c. AnswersBy (RefusesAnswer at given c) (Ok other))
    (λ c is both.
    passed_first (RefusesAsked at given.card c) (OnDay at c (RefusesMade at given c)) filled (Ok other) both.0
    (made_accepted at given c is.day filled.answering is.is_day is.is_answering is.only value other (subst (λ (e : Edit). AnswersBy (RefusesEnd at c e) (Ok value)) is.edit both.1)))
    (where_filled k at given filled told only rightly)
    (where_held-both k (λ c. AnswersBy (RefusesAsked at given.card c) (Ok filled)) (λ c. AnswersBy (RefusesEnd at c (edit_of filled.change c)) (Ok value))
    (λ c. AnswersBy (RefusesAsked at given.card c) (Ok filled) × AnswersBy (RefusesEnd at c (edit_of filled.change c)) (Ok value)) (λ c one two. (one, two)) asked answers)

pub answer_failed : (X Y : Type 0) (k : Keeping) (at : ℤ) (given : CardAnswer) (filled : Filled) (fault : DeskFault) → WhereTold k (IsFilled at given filled) → IsOnly given filled → WhereHeld k IsHeldRightly
    → WhereHeld k (λ c. AnswersBy (RefusesAsked at given.card c) (Ok filled)) → AnswersEnd {T = X} at filled.change k (Err fault) → WhereHeld k (λ c. AnswersBy {T = Y} (RefusesAnswer at given c) (Err fault))
answer_failed X Y k at given filled fault told only rightly asked answers =
    where_held-both k (IsFilledIn at given filled) (λ c. AnswersBy (RefusesAsked at given.card c) (Ok filled) × AnswersBy {T = X} (RefusesEnd at c (edit_of filled.change c)) (Err fault))
    (λ c. AnswersBy {T = Y} (RefusesAnswer at given c) (Err fault))
    (λ c is both.
    passed_first (RefusesAsked at given.card c) (OnDay at c (RefusesMade at given c)) filled (Err fault) both.0
    (made_failed at given c is.day filled.answering is.is_day is.is_answering is.only X Y fault (subst (λ (e : Edit). AnswersBy {T = X} (RefusesEnd at c e) (Err fault)) is.edit both.1)))
    (where_filled k at given filled told only rightly)
    (where_held-both k (λ c. AnswersBy (RefusesAsked at given.card c) (Ok filled)) (λ c. AnswersBy {T = X} (RefusesEnd at c (edit_of filled.change c)) (Err fault))
    (λ c. AnswersBy (RefusesAsked at given.card c) (Ok filled) × AnswersBy {T = X} (RefusesEnd at c (edit_of filled.change c)) (Err fault)) (λ c one two. (one, two)) asked answers)

-- a refusal before anything is made is one of the answer
pub ask_failed : (X Y : Type 0) (k : Keeping) (at : ℤ) (given : CardAnswer) (fault : DeskFault) → WhereHeld k (λ c. AnswersBy {T = X} (RefusesAsked at given.card c) (Err fault))
    → WhereHeld k (λ c. AnswersBy {T = Y} (RefusesAnswer at given c) (Err fault))
ask_failed X Y k at given fault =
    where_held-map k (λ c. AnswersBy {T = X} (RefusesAsked at given.card c) (Err fault)) (λ c. AnswersBy {T = Y} (RefusesAnswer at given c) (Err fault))
    (λ c failed. refused_first {T = X} {U = Y} (RefusesAsked at given.card c) (OnDay at c (RefusesMade at given c)) fault failed)
