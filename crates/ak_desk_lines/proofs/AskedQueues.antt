-- How a line ends that starts the day and asks for the queue of a deck.
use Rattle.std.specs.Prelude.{◌≡◌, ◌⊎◌, ℤ, Bool, true, false, Option, Some, None, IfSome, Result, Ok, Err, IfErr, IfOk}
use Rattle.std.specs.Option.{option_map}
use Rattle.std.proofs.Common.{inl, inr, sym, ap, subst, ◌∙◌}
use Rattle.std.proofs.lemmas.Bool.{false≢true}
use Rattle.std.proofs.lemmas.Option.{none-some}
use Rattle.ak_base.specs.Days.{IsDayOf}
use Rattle.ak_base.specs.declared.days.Day.{Day}
use Rattle.ak_base.specs.declared.decks.Deck.{Deck}
use Rattle.ak_base.specs.declared.heads.Head.{Head}
use Rattle.ak_base.specs.declared.names.Name.{Name}
use Rattle.ak_base.specs.declared.names.Table.TheVariants as tables
use Rattle.ak_edit_calls.proofs.Answering.{refused_first}
use Rattle.ak_edit_calls.proofs.Telling.{where_held-map}
use Rattle.ak_desk_lines.proofs.EndedLines.{held_at, same_state}
use Rattle.ak_desk_lines.proofs.StartedDecks.{started_deck}
use Rattle.ak_desk_lines.specs.Accepted.{AsksOnDay, Does, IsOnDay, answer_with, of_queue, of_queue_fault}
use Rattle.ak_desk_lines.specs.DeskStates.{DeskState}
use Rattle.ak_desk_lines.specs.Refused.{IsAskingFault, MayRefuse, RefusesAsking, RefusesNoDeck}
use Rattle.ak_desk_lines.specs.LineEnds.{AnswersLine, EndsLine, HasAnswerForm, IsLeft, IsLeftAsking, KeepsIfReading}
use Rattle.ak_desk_lines.specs.declared.turns.Turn.{Turn}
use Rattle.ak_edit.proofs.Finishing.{told_at, where_held}
use Rattle.ak_edit.specs.Refusals.{AnswersBy, IsEndFault, IsFromOutside, Refusal}
use Rattle.ak_edit.specs.declared.desk_faults.DeskFault.{DeskFault}
use Rattle.ak_edit.specs.declared.desk_faults.DeskFault.TheVariants as faults
use Rattle.ak_keep.specs.Collections.{Collection, Holding}
use Rattle.ak_keep.proofs.Told.{where_told-map}
use Rattle.ak_keep.specs.Keepers.{Keeping, WhereHeld, WhereTold, changed}
use Rattle.ak_keep.specs.Lookups.{deck_at}
use Rattle.ak_keep.specs.Marks as marks
use Rattle.ak_keep.specs.Marks.{WithMark}
use Rattle.ak_desk_language.specs.declared.desk_lines.DeskLine.{DeskLine}
use Rattle.ak_merge.specs.Holdings.{name_in}
use Rattle.ak_queue.specs.Nexts.{mixing_in, next_in, next_of}
use Rattle.ak_queue.specs.Queues.{counts_in, counts_of, queue_of, queue_of_deck}
use Rattle.ak_queue.specs.declared.day_queues.Counts.{Counts}
use Rattle.ak_queue.specs.declared.faults.QueueFault.{QueueFault}
use Rattle.ak_queue.specs.declared.faults.QueueFault.TheVariants as queues
use Rattle.ak_queue.specs.declared.nexts.Progress.{Progress}
use Rattle.ak_study.specs.DayStarts.{HasStarted, RefusesStart, StartsDay}
use Rattle.ak_desk_texts.specs.declared.answers.DeskAnswer.{DeskAnswer}

-- ---- a queue is that of a deck that is held
no_queue : (h : Holding) (day : Day) (deck : ℤ) → deck_at h.rows deck ≡ None → queue_of h day deck ≡ None
no_queue h day deck none = ap (λ (o : Option Deck). option_map (queue_of_deck h day) o) none

pub next_held : (h : Holding) (p : Progress) (deck : ℤ) (card : Option ℤ) → next_in h p deck ≡ Some card → deck_at h.rows deck ≡ None → ⊥
next_held h p deck card is none = none-some card (sym (ap (option_map (next_of (mixing_in h.head) p.done)) (no_queue h p.day deck none)) ∙ is)

pub counts_held : (h : Holding) (day : Day) (deck : ℤ) (counts : Counts) → counts_in h day deck ≡ Some counts → deck_at h.rows deck ≡ None → ⊥
counts_held h day deck counts is none = none-some counts (sym (ap (option_map counts_of) (no_queue h day deck none)) ∙ is)

-- ---- where a collection is told
-- the day of a moment, for the collection that is held
day_at : (k : Keeping) (at : ℤ) (day : Day) (w : WithMark Holding) (head : Head) → k.told ≡ Some w → w.current.head ≡ Some head
    → WhereTold k (λ h. IfSome h.head (λ head. IsDayOf head.crt at day)) → IsDayOf head.crt at day
day_at k at day w head told is on =
    subst (λ (o : Option Head). IfSome o (λ head. IsDayOf head.crt at day)) is (told_at k (λ h. IfSome h.head (λ head. IsDayOf head.crt at day)) w told on)

-- what is told after a change of what was told
abbrev told_now : (was now : Keeping) (w : WithMark Holding) (step : Holding → Holding) → was.told ≡ Some w → now ≡ changed step was
    → (v : WithMark Holding) × (now.told ≡ Some v)
told_now was now w step told is =
    (marks.changed step w, ap (λ (k : Keeping). k.told) is ∙ ap (option_map (marks.changed step)) told)

-- the deck that is held after the start of a day was held before, in what is told
deck_before : (at deck : ℤ) (c : Collection) (was now : DeskState) (w : WithMark Holding) (P : Holding → Type 0) (started : HasStarted at c was.keeping now.keeping was.steps now.steps)
    → was.keeping.told ≡ Some w → WhereTold now.keeping P → (h : Holding) × P h × (deck_at h.rows deck ≡ deck_at c.rows deck)
deck_before at deck c was now w P started told is =
    let here = told_now was.keeping now.keeping w (λ _. record { rows = started.finished.after.rows; head = Some started.finished.after.head }) told started.finished.held in
    (record { rows = started.finished.after.rows; head = Some started.finished.after.head }, told_at now.keeping P here.0 here.1 is, started_deck at deck c was.keeping now.keeping was.steps now.steps started)

-- the later one of the tests of such a line: the deck is not held
no_deck_there : (deck : ℤ) (c : Collection) (first : Refusal) (fault : DeskFault) → ((any : DeskFault) → first any → ⊥) × RefusesNoDeck deck c fault → deck_at c.rows deck ≡ None
no_deck_there deck c first fault (passes, missing) = missing.0

-- ---- how the line ends
-- the line is accepted
asked_line : (line : DeskLine) (t : Turn) (deck : ℤ) (was now : DeskState) (day : Day) (answer : DeskAnswer) (Asks : Holding → Type 0) (Tells : Holding → Day → DeskAnswer → Type 0)
    → ((c : Collection) → AsksOnDay t.at c was now answer Tells → Does line t c was now answer)
    → ((c : Collection) → AnswersBy (RefusesAsking t.at deck c) (Ok answer) → AnswersLine line t c was.steps (Ok answer))
    → ((h : Holding) → Asks h → Tells h day answer)
    → ((h : Holding) → Asks h → deck_at h.rows deck ≡ None → ⊥)
    → KeepsIfReading line was now → HasAnswerForm line answer
    → IsOnDay t.at was.keeping day → StartsDay t.at was.keeping now.keeping was.steps now.steps
    → WhereHeld was.keeping (λ c. AnswersBy (RefusesStart t.at c) (Ok day))
    → WhereTold now.keeping Asks → now.keeping.headed ≡ was.keeping.headed
    → EndsLine line t was now (Ok answer)
asked_line line t deck was now day answer Asks Tells does answers tells deck_held reads form on started passes told stays = record {
  does =
      where_held was.keeping (λ c. Does line t c was now answer)
      (λ w head is_told is_head. does (record { rows = w.current.rows; head = head }) (
        held_at was.keeping (λ c. HasStarted t.at c was.keeping now.keeping was.steps now.steps) w head is_told is_head started,
        where_told-map now.keeping Asks (λ h. (d : Day) × IsDayOf head.crt t.at d × Tells h d answer)
            (λ h asks. (day, day_at was.keeping t.at day w head is_told is_head on, tells h asks)) told,
      ));
  answers =
      where_held was.keeping (λ c. AnswersLine line t c was.steps (Ok answer))
      (λ w head is_told is_head.
      let starts = held_at was.keeping (λ c. HasStarted t.at c was.keeping now.keeping was.steps now.steps) w head is_told is_head started in
      let here = deck_before t.at deck (record { rows = w.current.rows; head = head }) was now w Asks starts is_told told in
      answers (record { rows = w.current.rows; head = head }) (record {
        accepted = λ fault either. elim either [
          | inl refused ↦ (held_at was.keeping (λ c. AnswersBy (RefusesStart t.at c) (Ok day)) w head is_told is_head passes).accepted fault refused
          | inr missing ↦ deck_held here.0 here.1 (here.2 ∙ (no_deck_there deck (record { rows = w.current.rows; head = head }) (RefusesStart t.at (record { rows = w.current.rows; head = head })) fault missing))
        ];
        refused = tt;
      }));
  left = tt;
  listed = tt;
  reads = reads;
  form = form;
  stays = stays;
}

-- whether a fault is the end of a stamp
abbrev is_stamp_end : DeskFault → Bool
is_stamp_end faults.StampEnd = true
is_stamp_end fault = false

-- whether a fault is for a row that is not held
abbrev is_no_such : DeskFault → Bool
is_no_such (faults.NoSuch name) = true
is_no_such fault = false

-- no fault of the end of an edit is for a row that is not held
end_misses_none : (fault : DeskFault) (name : Name) → IsEndFault fault → fault ≡ faults.NoSuch name → ⊥
end_misses_none fault name (inl (inl failed)) is = false≢true (sym (ap is_no_such failed) ∙ ap is_no_such is)
end_misses_none fault name (inl (inr memory)) is = false≢true (sym (ap is_no_such memory) ∙ ap is_no_such is)
end_misses_none fault name (inr (inl row)) is = false≢true (sym (ap is_no_such row.1) ∙ ap is_no_such is)
end_misses_none fault name (inr (inr stamp)) is = false≢true (sym (ap is_no_such stamp) ∙ ap is_no_such is)

-- neither what comes from outside nor a deck that is missed is the end of a stamp
not_stamp_end : (deck : ℤ) (fault : DeskFault) (P : Type 0) → IsFromOutside fault ⊎ (P × (fault ≡ faults.NoSuch (name_in tables.Deck deck))) → fault ≡ faults.StampEnd → ⊥
not_stamp_end deck fault P (inl (inl failed)) is = false≢true (sym (ap is_stamp_end failed) ∙ ap is_stamp_end is)
not_stamp_end deck fault P (inl (inr memory)) is = false≢true (sym (ap is_stamp_end memory) ∙ ap is_stamp_end is)
not_stamp_end deck fault P (inr missing) is = false≢true (sym (ap is_stamp_end missing.1) ∙ ap is_stamp_end is)

-- the day does not start
pub unstarted_line : (line : DeskLine) (t : Turn) (deck : ℤ) (was now : DeskState) (fault : DeskFault)
    → ((c : Collection) → AnswersBy {T = DeskAnswer} (RefusesAsking t.at deck c) (Err fault) → AnswersLine line t c was.steps (Err fault))
    → (IsLeftAsking t deck fault was now → IsLeft line t fault was now) → (IsAskingFault deck fault → MayRefuse line t fault)
    → WhereHeld was.keeping (λ c. AnswersBy {T = Day} (RefusesStart t.at c) (Err fault)) → IsEndFault fault
    → now.keeping ≡ was.keeping → now.steps ≡ was.steps → EndsLine line t was now (Err fault)
unstarted_line line t deck was now fault told left may answers listed held steps = record {
  does = tt;
  answers =
      where_held-map was.keeping (λ c. AnswersBy {T = Day} (RefusesStart t.at c) (Err fault)) (λ c. AnswersLine line t c was.steps (Err fault))
      (λ c by. told c (refused_first (RefusesStart t.at c) (RefusesNoDeck deck c) fault by)) answers;
  left = left (record {
    unstarted = λ _. same_state was now held steps;
    started = λ missed. absurd (end_misses_none fault (name_in tables.Deck deck) listed missed);
    either = λ _. inl (same_state was now held steps);
  });
  listed = may (inr listed);
  reads = tt;
  form = tt;
  stays = ap (λ (k : Keeping). k.headed) held;
}

-- a fault of a queue may refuse the line
asking_fault : (deck : ℤ) (fault : DeskFault) (P : Type 0) → IsFromOutside fault ⊎ (P × (fault ≡ faults.NoSuch (name_in tables.Deck deck))) → IsAskingFault deck fault
asking_fault deck fault P (inl outside) = inr (inl outside)
asking_fault deck fault P (inr missing) = inl missing.1

-- why the queue of a deck is refused after the start of a day, by the tests of the line
asking_tests : (at deck : ℤ) (c : Collection) (was now : DeskState) (w : WithMark Holding) (day : Day) (fault : DeskFault) (started : HasStarted at c was.keeping now.keeping was.steps now.steps)
    → was.keeping.told ≡ Some w → AnswersBy (RefusesStart at c) (Ok day)
    → IsFromOutside fault ⊎ (WhereTold now.keeping (λ h. deck_at h.rows deck ≡ None) × (fault ≡ faults.NoSuch (name_in tables.Deck deck)))
    → AnswersBy {T = DeskAnswer} (RefusesAsking at deck c) (Err fault)
asking_tests at deck c was now w day fault started told passes (inl outside) = record { accepted = tt; refused = inl outside }
asking_tests at deck c was now w day fault started told passes (inr missing) =
    let here = deck_before at deck c was now w (λ h. deck_at h.rows deck ≡ None) started told missing.0 in
    record { accepted = tt; refused = inr (inr (passes.accepted, (sym here.2 ∙ here.1, missing.1))) }

-- the day starts, and there is no queue
unasked_line : (line : DeskLine) (t : Turn) (deck : ℤ) (was now : DeskState) (day : Day) (fault : DeskFault)
    → ((c : Collection) → AnswersBy {T = DeskAnswer} (RefusesAsking t.at deck c) (Err fault) → AnswersLine line t c was.steps (Err fault))
    → (IsLeftAsking t deck fault was now → IsLeft line t fault was now) → (IsAskingFault deck fault → MayRefuse line t fault)
    → StartsDay t.at was.keeping now.keeping was.steps now.steps
    → WhereHeld was.keeping (λ c. AnswersBy (RefusesStart t.at c) (Ok day))
    → IsFromOutside fault ⊎ (WhereTold now.keeping (λ h. deck_at h.rows deck ≡ None) × (fault ≡ faults.NoSuch (name_in tables.Deck deck)))
    → now.keeping.headed ≡ was.keeping.headed → EndsLine line t was now (Err fault)
unasked_line line t deck was now day fault told left may started passes why stays = record {
  does = tt;
  answers =
      where_held was.keeping (λ c. AnswersLine line t c was.steps (Err fault))
      (λ w head is_told is_head. told (record { rows = w.current.rows; head = head })
      (asking_tests t.at deck (record { rows = w.current.rows; head = head }) was now w day fault
      (held_at was.keeping (λ c. HasStarted t.at c was.keeping now.keeping was.steps now.steps) w head is_told is_head started) is_told
      (held_at was.keeping (λ c. AnswersBy (RefusesStart t.at c) (Ok day)) w head is_told is_head passes) why));
  left = left (record {
    unstarted = λ stamp. absurd (not_stamp_end deck fault (WhereTold now.keeping (λ h. deck_at h.rows deck ≡ None)) why stamp);
    started = λ _. started;
    either = λ _. inr started;
  });
  listed = may (asking_fault deck fault (WhereTold now.keeping (λ h. deck_at h.rows deck ≡ None)) why);
  reads = tt;
  form = tt;
  stays = stays;
}

-- a queue is refused from outside, or because its deck is not held
queue_refused : (k : Keeping) (deck : ℤ) (fault : QueueFault)
    → (fault ≡ queues.NoDeck deck → WhereTold k (λ h. deck_at h.rows deck ≡ None))
    → (fault ≡ queues.NoDeck deck) ⊎ ((fault ≡ queues.Failed) ⊎ (fault ≡ queues.Memory))
    → IsFromOutside (of_queue_fault fault) ⊎ (WhereTold k (λ h. deck_at h.rows deck ≡ None) × (of_queue_fault fault ≡ faults.NoSuch (name_in tables.Deck deck)))
queue_refused k deck fault missed (inl is) = inr (missed is, ap of_queue_fault is)
queue_refused k deck fault missed (inr (inl failed)) = inl (inl (ap of_queue_fault failed))
queue_refused k deck fault missed (inr (inr memory)) = inl (inr (ap of_queue_fault memory))

-- the day starts, and the line is answered as the queue is
started_line : {T : Type 0} (line : DeskLine) (t : Turn) (deck : ℤ) (was now : DeskState) (day : Day) (asked : Result T QueueFault) (answer : T → DeskAnswer)
    (Asks : T → Holding → Type 0) (Tells : Holding → Day → DeskAnswer → Type 0)
    → ((c : Collection) (told : DeskAnswer) → AsksOnDay t.at c was now told Tells → Does line t c was now told)
    → ((c : Collection) (result : Result DeskAnswer DeskFault) → AnswersBy (RefusesAsking t.at deck c) result → AnswersLine line t c was.steps result)
    → ((fault : DeskFault) → IsLeftAsking t deck fault was now → IsLeft line t fault was now) → ((fault : DeskFault) → IsAskingFault deck fault → MayRefuse line t fault)
    → KeepsIfReading line was now → ((value : T) → HasAnswerForm line (answer value))
    → ((value : T) (h : Holding) → Asks value h → Tells h day (answer value))
    → ((value : T) (h : Holding) → Asks value h → deck_at h.rows deck ≡ None → ⊥)
    → IsOnDay t.at was.keeping day → StartsDay t.at was.keeping now.keeping was.steps now.steps
    → WhereHeld was.keeping (λ c. AnswersBy (RefusesStart t.at c) (Ok day)) → now.keeping.headed ≡ was.keeping.headed
    → IfOk asked (λ value. WhereTold now.keeping (Asks value))
    → IfErr asked (λ fault. fault ≡ queues.NoDeck deck → WhereTold now.keeping (λ h. deck_at h.rows deck ≡ None))
    → IfErr asked (λ fault. (fault ≡ queues.NoDeck deck) ⊎ ((fault ≡ queues.Failed) ⊎ (fault ≡ queues.Memory)))
    → EndsLine line t was now (answer_with answer (of_queue asked))
started_line line t deck was now day (Ok value) answer Asks Tells does answers left may reads form tells deck_held on started passes stays told missed others =
    asked_line line t deck was now day (answer value) (Asks value) Tells (λ c. does c (answer value)) (λ c. answers c (Ok (answer value))) (tells value) (deck_held value)
    reads (form value) on started passes told stays
started_line line t deck was now day (Err fault) answer Asks Tells does answers left may reads form tells deck_held on started passes stays told missed others =
    unasked_line line t deck was now day (of_queue_fault fault) (λ c. answers c (Err (of_queue_fault fault))) (left (of_queue_fault fault)) (may (of_queue_fault fault)) started passes
    (queue_refused now.keeping deck fault missed others) stays

-- the same of a queue that is asked for after the day's start, and leaves all as that left it
pub queue_line : {T : Type 0} (line : DeskLine) (t : Turn) (deck : ℤ) (was mid now : DeskState) (day : Day) (asked : Result T QueueFault) (answer : T → DeskAnswer)
    (Asks : T → Holding → Type 0) (Tells : Holding → Day → DeskAnswer → Type 0)
    → ((c : Collection) (told : DeskAnswer) → AsksOnDay t.at c was now told Tells → Does line t c was now told)
    → ((c : Collection) (result : Result DeskAnswer DeskFault) → AnswersBy (RefusesAsking t.at deck c) result → AnswersLine line t c was.steps result)
    → ((fault : DeskFault) → IsLeftAsking t deck fault was now → IsLeft line t fault was now) → ((fault : DeskFault) → IsAskingFault deck fault → MayRefuse line t fault)
    → KeepsIfReading line was now → ((value : T) → HasAnswerForm line (answer value))
    → ((value : T) (h : Holding) → Asks value h → Tells h day (answer value))
    → ((value : T) (h : Holding) → Asks value h → deck_at h.rows deck ≡ None → ⊥)
    → IsOnDay t.at was.keeping day → StartsDay t.at was.keeping mid.keeping was.steps mid.steps
    → WhereHeld was.keeping (λ c. AnswersBy (RefusesStart t.at c) (Ok day)) → mid.keeping.headed ≡ was.keeping.headed
    → now.keeping ≡ mid.keeping → now.steps ≡ mid.steps
    → IfOk asked (λ value. WhereTold mid.keeping (Asks value))
    → IfErr asked (λ fault. fault ≡ queues.NoDeck deck → WhereTold mid.keeping (λ h. deck_at h.rows deck ≡ None))
    → IfErr asked (λ fault. (fault ≡ queues.NoDeck deck) ⊎ ((fault ≡ queues.Failed) ⊎ (fault ≡ queues.Memory)))
    → EndsLine line t was now (answer_with answer (of_queue asked))
queue_line line t deck was mid now day asked answer Asks Tells does answers left may reads form tells deck_held on started passes stays held steps told missed others =
    let here : mid ≡ now = sym (same_state mid now held steps) in
    started_line line t deck was now day asked answer Asks Tells does answers left may reads form tells deck_held on
    (subst (λ (p : DeskState). StartsDay t.at was.keeping p.keeping was.steps p.steps) here started) passes
    (subst (λ (p : DeskState). p.keeping.headed ≡ was.keeping.headed) here stays)
    (subst (λ (p : DeskState). IfOk asked (λ value. WhereTold p.keeping (Asks value))) here told)
    (subst (λ (p : DeskState). IfErr asked (λ fault. fault ≡ queues.NoDeck deck → WhereTold p.keeping (λ h. deck_at h.rows deck ≡ None))) here missed)
    others
