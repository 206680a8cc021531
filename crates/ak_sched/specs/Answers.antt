-- What an answer makes of a card, and its row of the review log.
use Rattle.std.specs.Prelude.{◌≡◌, ◌≢◌, ℕ, ℤ, pos, negsuc, ◌+◌, ◌-◌, ◌*◌, ◌/◌, ◌%◌, ◌+ℤ◌, ◌-ℤ◌, neg_ℤ, min, max, Bool, ◌&&◌, ◌||◌, if◌then◌else◌, nat_eq, nat_le, nat_lt, Option, Some, None}
use Rattle.std.specs.Ordering.{int_eq}
use Rattle.ak_base.specs.declared.cards.Card.{Card}
use Rattle.ak_base.specs.declared.days.Day.{Day}
use Rattle.ak_base.specs.declared.option_groups.Options.{Options}
use Rattle.ak_base.specs.declared.reviews.Review.{Review as LogRow}
use Rattle.ak_sched.specs.Counts.{clamped_to_zero, next_count}
use Rattle.ak_sched.specs.Steps.{delays, delay_at, HasAllLeft}
use Rattle.ak_sched.specs.Transitions.{seconds_left_today, steps_left, IsTransition}
use Rattle.ak_sched.specs.declared.answers.Answered.{Answered}
use Rattle.ak_sched.specs.declared.card_states.Kind.{Kind}
use Rattle.ak_sched.specs.declared.card_states.Kind.TheVariants.{Learning, Relearning, Review}
use Rattle.ak_sched.specs.declared.card_states.Button.{Button}
use Rattle.ak_sched.specs.declared.card_states.Button.TheVariants.{Again, Hard, Good, Easy}
use Rattle.ak_sched.specs.declared.card_states.CardState.{CardState}
use Rattle.ak_sched.specs.declared.card_states.Outcome.{Outcome}

-- a card can be answered if it is in its own deck, and in a queue that the scheduler gives its kind
abbrev pub can_answer : Card → Bool
can_answer c =
    int_eq c.odid (pos 0)
    && (int_eq c.queue (pos 0) && int_eq c.kind (pos 0)
    || int_eq c.queue (pos 1) && (int_eq c.kind (pos 1) || int_eq c.kind (pos 3))
    || int_eq c.queue (pos 3) && (int_eq c.kind (pos 1) || int_eq c.kind (pos 3))
    || int_eq c.queue (pos 2) && int_eq c.kind (pos 2))

-- the buttons are numbered from 1
abbrev pub button_of : ℕ → Button
button_of n = if nat_le n 1 then Again else if nat_eq n 2 then Hard else if nat_eq n 3 then Good else Easy

-- a new card becomes one that is learned
abbrev pub kind_of : ℤ → Kind
kind_of kind = if int_eq kind (pos 2) then Review else if int_eq kind (pos 3) then Relearning else Learning

-- what the answer reads of a card: a new card has all steps left
pub record IsCardState (c : Card) (o : Options) (day : Day) (s : CardState) : Type 0 where
  pub kind : s.kind ≡ kind_of c.kind
  pub new : c.kind ≡ pos 0 → HasAllLeft o.new_steps (seconds_left_today day) s.left
  pub begun : c.kind ≢ pos 0 → s.left ≡ clamped_to_zero c.left
  pub ivl : s.ivl ≡ clamped_to_zero c.ivl
  pub factor : s.factor ≡ clamped_to_zero c.factor
  pub lapses : s.lapses ≡ clamped_to_zero c.lapses
  pub late : s.late ≡ clamped_to_zero (day.number -ℤ c.due)

-- the second at which a delay ends
abbrev pub end_of : Day → ℕ → ℕ
end_of day delay = clamped_to_zero day.now + delay

-- the seconds by which a word of chance puts a step off: at most a quarter of its delay, and under five minutes
abbrev pub put_off : ℕ → ℕ → ℕ
put_off delay word = word % max 1 (min 300 (delay / 4))

-- a step that ends today is in queue 1, one that ends later in queue 3
abbrev pub step_queue : Day → ℕ → ℤ
step_queue day delay = if nat_lt (end_of day delay) (clamped_to_zero day.cutoff) then pos 1 else pos 3

-- a step that ends today is due at a second of today, one that ends later at a day
abbrev pub step_due : Day → ℕ → ℕ → ℤ
step_due day word delay =
    if nat_lt (end_of day delay) (clamped_to_zero day.cutoff)
    then pos (min (clamped_to_zero day.cutoff - 1) (end_of day delay + put_off delay word))
    else day.number +ℤ pos ((end_of day delay - clamped_to_zero day.cutoff) / 86_400 + 1)

-- the queue after the answer
abbrev pub queue_after : Day → Bool → Option ℕ → ℤ
queue_after day suspended (Some delay) = step_queue day delay
queue_after day suspended None = if suspended then negsuc 0 else pos 2

-- when the card is due: for a step, or after its days
abbrev pub due_after : Day → ℕ → ℕ → Option ℕ → ℤ
due_after day word days (Some delay) = step_due day word delay
due_after day word days None = day.number +ℤ pos days

-- the column `type`
abbrev pub kind_code : Kind → ℤ
kind_code Learning = pos 1
kind_code Review = pos 2
kind_code Relearning = pos 3

-- the card after the answer: the columns that the scheduler keeps; the others stay
abbrev pub card_after : Card → Day → ℕ → Outcome → Card
card_after c day word out = record c {
  kind = kind_code out.kind;
  queue = queue_after day out.suspended out.delay;
  due = due_after day word out.ivl out.delay;
  ivl = pos out.ivl;
  factor = pos out.factor;
  reps = pos (next_count (clamped_to_zero c.reps));
  lapses = pos out.lapses;
  left = pos out.left;
}

-- the kinds of the review log
abbrev pub log_kind : Kind → ℤ
log_kind Learning = pos 0
log_kind Review = pos 1
log_kind Relearning = pos 2

-- days, or minus the seconds of a delay
abbrev pub logged : ℕ → Option ℕ → ℤ
logged days (Some delay) = neg_ℤ (pos delay)
logged days None = pos days

-- the interval before the answer
abbrev pub logged_before : Options → CardState → Kind → ℤ
logged_before o s Review = pos s.ivl
logged_before o s Learning = neg_ℤ (pos (delay_at (delays o.new_steps) (steps_left s)))
logged_before o s Relearning = neg_ℤ (pos (delay_at (delays o.lapse_steps) (steps_left s)))

-- the row of the review log; it was not sent yet, and the time of the answer counts up to the options' limit
abbrev pub review_after : ℤ → ℤ → ℕ → Options → ℕ → CardState → Outcome → LogRow
review_after id cid button o taken s out = record {
  id = id;
  cid = cid;
  usn = negsuc 0;
  ease = pos button;
  ivl = logged out.ivl out.delay;
  last_ivl = logged_before o s s.kind;
  factor = pos out.factor;
  time = pos (min taken (1_000 * clamped_to_zero o.max_taken));
  kind = log_kind s.kind;
}

-- an answer: the card, the options, the button, the day, the word of chance, the milliseconds that it took and the
-- review's id give the new card, its review and whether it is a leech
pub record IsAnswer (c : Card) (o : Options) (button : ℕ) (day : Day) (word : ℕ) (taken : ℕ) (review_id : ℤ) (new : Card) (answered : Answered) : Type 0 where
  pub state : CardState
  pub outcome : Outcome
  pub is_state : IsCardState c o day state
  pub transition : IsTransition state.kind (button_of button) o day word state outcome
  pub card : new ≡ card_after c day word outcome
  pub review : answered.review ≡ review_after review_id c.id button o taken state outcome
  pub leech : answered.leech ≡ outcome.leech

-- all columns stay but kind, queue, due, ivl, factor, reps, lapses and left
pub record IsSameButSchedule (c : Card) (new : Card) : Type 0 where
  pub id : new.id ≡ c.id
  pub nid : new.nid ≡ c.nid
  pub did : new.did ≡ c.did
  pub ord : new.ord ≡ c.ord
  pub stamp : new.stamp ≡ c.stamp
  pub usn : new.usn ≡ c.usn
  pub odue : new.odue ≡ c.odue
  pub odid : new.odid ≡ c.odid
  pub flags : new.flags ≡ c.flags
  pub extra : new.extra ≡ c.extra

-- a row of the review log with this id, of this card, which was not sent yet
pub record IsRowOf (card_id : ℤ) (row_id : ℤ) (row : LogRow) : Type 0 where
  pub id : row.id ≡ row_id
  pub cid : row.cid ≡ card_id
  pub usn : row.usn ≡ negsuc 0

-- no other answer is one
abbrev pub IsOnlyAnswer : Card → Options → ℕ → Day → ℕ → ℕ → ℤ → Card → Answered → Type 0
IsOnlyAnswer c o button day word taken review_id new answered =
    (other : Card) (told : Answered) → IsAnswer c o button day word taken review_id other told → (new ≡ other) × (answered ≡ told)
