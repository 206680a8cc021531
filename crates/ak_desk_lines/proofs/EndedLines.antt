-- How a line ends by the call that it makes.
use Rattle.std.specs.Prelude.{◌≡◌, Option, Some, IfSome, Result, Ok, Err, IfErr, IfOk, OnOk, OnErr, List}
use Rattle.std.specs.Option.{option_map}
use Rattle.std.proofs.Common.{inl, ap, subst, ◌∙◌}
use Rattle.ak_base.specs.declared.heads.Head.{Head}
use Rattle.ak_edit_calls.proofs.Telling.{where_held-both, where_held-map}
use Rattle.ak_edit_calls.specs.Calls.{EndsEdit}
use Rattle.ak_desk_lines.specs.Accepted.{Does, answer_with, done_answer}
use Rattle.ak_desk_lines.specs.DeskStates.{Edits, DeskState}
use Rattle.ak_desk_lines.specs.LineEnds.{AnswersLine, EndsLine, HasAnswerForm, IsLeft, KeepsIfReading}
use Rattle.ak_desk_lines.specs.Refused.{MayRefuse, RefusesNever}
use Rattle.ak_desk_lines.specs.declared.turns.Turn.{Turn}
use Rattle.ak_edit.proofs.Finishing.{told_at, where_held}
use Rattle.ak_edit.specs.Refusals.{AnswersBy, DeskCause, IsFromOutside, Refusal}
use Rattle.ak_edit.specs.declared.desk_faults.DeskFault.{DeskFault}
use Rattle.ak_faults.specs.Causes.{Health}
use Rattle.ak_keep.specs.Collections.{Collection, Holding, collection_of}
use Rattle.ak_keep.specs.Keepers.{Keeping, WhereHeld, WhereTold}
use Rattle.ak_keep.specs.Marks.{WithMark}
use Rattle.ak_desk_language.specs.declared.desk_lines.DeskLine.{DeskLine}
use Rattle.ak_merge.specs.Edits.{Edit}
use Rattle.ak_edit_calls.proofs.Taking.{cause_too, err_too, ok_too}
use Rattle.ak_desk_texts.specs.declared.answers.DeskAnswer.{DeskAnswer}
use Rattle.ak_desk_texts.specs.declared.answers.DeskAnswer.TheVariants as answers
use Rattle.ak_undo.specs.declared.steps.Step.{Step}

-- two places with the same parts are the same
pub same_state : (was now : DeskState) → now.keeping ≡ was.keeping → now.steps ≡ was.steps → now ≡ was
same_state was now held steps =
    ap (λ (k : Keeping). record { keeping = k; steps = now.steps }) held
    ∙ ap (λ (s : List Step). record { keeping = was.keeping; steps = s }) steps

-- what is true where a collection is told is true of this one
pub held_at : (k : Keeping) (P : Collection → Type 0) (w : WithMark Holding) (head : Head) → k.told ≡ Some w → w.current.head ≡ Some head
    → WhereHeld k P → P (record { rows = w.current.rows; head = head })
held_at k P w head told is held =
    subst (λ (o : Option Head). IfSome (option_map (λ (head : Head). record { rows = w.current.rows; head = head }) o) P) is
    (told_at k (λ h. IfSome (collection_of h) P) w told held)

-- a line whose call was accepted
pub accepted_line : (T : Type 0) (line : DeskLine) (t : Turn) (was now : DeskState) (value : T) (answer : DeskAnswer) (IsDone : Collection → Type 0) (tests : Collection → Refusal)
    → ((c : Collection) → IsDone c → Does line t c was now answer)
    → ((c : Collection) → AnswersBy (tests c) (Ok answer) → AnswersLine line t c was.steps (Ok answer))
    → KeepsIfReading line was now → HasAnswerForm line answer
    → WhereHeld was.keeping IsDone → WhereHeld was.keeping (λ c. AnswersBy (tests c) (Ok value))
    → now.keeping.headed ≡ was.keeping.headed → EndsLine line t was now (Ok answer)
accepted_line T line t was now value answer IsDone tests does told reads form done answers stays = record {
  does = where_held-map was.keeping IsDone (λ c. Does line t c was now answer) does done;
  answers =
      where_held-map was.keeping (λ c. AnswersBy (tests c) (Ok value)) (λ c. AnswersLine line t c was.steps (Ok answer))
      (λ c by. told c (ok_too (tests c) value answer by)) answers;
  left = tt;
  listed = tt;
  reads = reads;
  form = form;
  stays = stays;
}

-- a line whose call was refused and left all as it was
pub refused_line : (T : Type 0) (line : DeskLine) (t : Turn) (was now : DeskState) (fault : DeskFault) (tests : Collection → Refusal)
    → ((c : Collection) → AnswersBy {T = DeskAnswer} (tests c) (Err fault) → AnswersLine line t c was.steps (Err fault))
    → (now ≡ was → IsLeft line t fault was now) → MayRefuse line t fault
    → WhereHeld was.keeping (λ c. AnswersBy {T = T} (tests c) (Err fault))
    → now.keeping ≡ was.keeping → now.steps ≡ was.steps → EndsLine line t was now (Err fault)
refused_line T line t was now fault tests told left listed answers held steps = record {
  does = tt;
  answers =
      where_held-map was.keeping (λ c. AnswersBy {T = T} (tests c) (Err fault)) (λ c. AnswersLine line t c was.steps (Err fault))
      (λ c by. told c (err_too (tests c) fault by)) answers;
  left = left (same_state was now held steps);
  listed = listed;
  reads = tt;
  form = tt;
  stays = ap (λ (k : Keeping). k.headed) held;
}

-- a line that is answered as its call is
pub call_line : (T : Type 0) (line : DeskLine) (t : Turn) (was now : DeskState) (made : Result T DeskFault) (answer : T → DeskAnswer) (IsDone : T → Collection → Type 0) (tests : Collection → Refusal)
    → ((value : T) (c : Collection) → IsDone value c → Does line t c was now (answer value))
    → ((c : Collection) (result : Result DeskAnswer DeskFault) → AnswersBy (tests c) result → AnswersLine line t c was.steps result)
    → ((fault : DeskFault) → now ≡ was → IsLeft line t fault was now)
    → KeepsIfReading line was now → ((value : T) → HasAnswerForm line (answer value)) → IfErr made (MayRefuse line t)
    → IfOk made (λ value. WhereHeld was.keeping (IsDone value)) → WhereHeld was.keeping (λ c. AnswersBy (tests c) made)
    → OnErr made (now.keeping ≡ was.keeping) → OnErr made (now.steps ≡ was.steps) → now.keeping.headed ≡ was.keeping.headed
    → EndsLine line t was now (answer_with answer made)
call_line T line t was now (Ok value) answer IsDone tests does told left reads form listed done answers held steps stays =
    accepted_line T line t was now value (answer value) (IsDone value) tests (does value) (λ c. told c (Ok (answer value))) reads (form value) done answers stays
call_line T line t was now (Err fault) answer IsDone tests does told left reads form listed done answers held steps stays =
    refused_line T line t was now fault tests (λ c. told c (Err fault)) (left fault) listed answers held steps

-- two things that are true of what was done
pub both_done : (T : Type 0) (k : Keeping) (made : Result T DeskFault) (P Q : T → Collection → Type 0)
    → IfOk made (λ value. WhereHeld k (P value)) → IfOk made (λ value. WhereHeld k (Q value)) → IfOk made (λ value. WhereHeld k (λ c. P value c × Q value c))
both_done T k (Ok value) P Q one other = where_held-both k (P value) (Q value) (λ c. P value c × Q value c) (λ c p q. (p, q)) one other
both_done T k (Err fault) P Q one other = tt

-- what is true of an acceptance that gives nothing
pub done_by : (k : Keeping) (P : Collection → Type 0) (made : Result (Unit {0}) DeskFault) → OnOk made (WhereHeld k P) → IfOk made (λ _. WhereHeld k P)
done_by k P (Ok value) done = done
done_by k P (Err fault) done = tt

-- a line that does an edit and tells no more
pub edit_line : (line : DeskLine) (t : Turn) (was now : DeskState) (rule : Collection → Edit) (tests : Collection → Refusal) (made : Result (Unit {0}) DeskFault)
    → ((c : Collection) → Edits t.at rule c was now → Does line t c was now answers.Done)
    → ((c : Collection) (result : Result DeskAnswer DeskFault) → AnswersBy (tests c) result → AnswersLine line t c was.steps result)
    → ((fault : DeskFault) → now ≡ was → IsLeft line t fault was now)
    → KeepsIfReading line was now → HasAnswerForm line answers.Done → IfErr made (MayRefuse line t)
    → EndsEdit t.at rule tests was.keeping now.keeping was.steps now.steps made → EndsLine line t was now (answer_with done_answer made)
edit_line line t was now rule tests made does told left reads form listed ended =
    call_line (Unit {0}) line t was now made done_answer (λ _ c. Edits t.at rule c was now) tests (λ _ c. does c) told left
    reads (λ _. form) listed
    (done_by was.keeping (λ c. Edits t.at rule c was now) made ended.done) ended.answers ended.same ended.kept ended.stays

-- a line is refused for the cause of its call
pub answered_cause : {T : Type 0} (answer : T → DeskAnswer) (made : Result T DeskFault) (before now : Health) → DeskCause before now made → DeskCause before now (answer_with answer made)
answered_cause answer (Ok value) before now cause = record { goes = cause.goes; failed = λ is. cc; unfailed = λ _ is. cc }
answered_cause answer (Err fault) before now cause = cause_too before now fault cause

-- ---- lines that only read
-- what is true anyway is true of a refusal
whatever : {T : Type 0} {P : Type 0} (made : Result T DeskFault) → P → OnErr made P
whatever (Ok value) is = tt
whatever (Err fault) is = is

-- a read is refused from outside alone
outside_only : {T : Type 0} (made : Result T DeskFault) → IfErr made IsFromOutside → AnswersBy RefusesNever made
outside_only (Ok value) listed = record { accepted = λ fault none. none; refused = tt }
outside_only (Err fault) listed = record { accepted = tt; refused = inl listed }

-- what a read is answered, of the collection that was held
read_of_held : {T : Type 0} (k : Keeping) (made : Result T DeskFault) (Is : T → Holding → Type 0) (IsIn : T → Collection → Type 0)
    → ((value : T) (h : Holding) (head : Head) → h.head ≡ Some head → Is value h → IsIn value (record { rows = h.rows; head = head }))
    → IfOk made (λ value. WhereTold k (Is value)) → IfOk made (λ value. WhereHeld k (IsIn value))
read_of_held k (Ok value) Is IsIn step told =
    where_held k (IsIn value) (λ w head is_told is_head. step value w.current head is_head (told_at k (Is value) w is_told told))
read_of_held k (Err fault) Is IsIn step told = tt

-- a line that is answered as its read is
pub read_line : {T : Type 0} (line : DeskLine) (t : Turn) (was now : DeskState) (made : Result T DeskFault) (answer : T → DeskAnswer)
    (Is : T → Holding → Type 0) (IsIn : T → Collection → Type 0)
    → ((value : T) (h : Holding) (head : Head) → h.head ≡ Some head → Is value h → IsIn value (record { rows = h.rows; head = head }))
    → ((value : T) (c : Collection) → IsIn value c → Does line t c was now (answer value))
    → ((c : Collection) (result : Result DeskAnswer DeskFault) → AnswersBy RefusesNever result → AnswersLine line t c was.steps result)
    → ((fault : DeskFault) → now ≡ was → IsLeft line t fault was now)
    → (now ≡ was → KeepsIfReading line was now) → ((value : T) → HasAnswerForm line (answer value))
    → IfErr made (MayRefuse line t) → IfOk made (λ value. WhereTold was.keeping (Is value)) → IfErr made IsFromOutside
    → now.keeping ≡ was.keeping → now.steps ≡ was.steps
    → EndsLine line t was now (answer_with answer made)
read_line {T} line t was now made answer Is IsIn step does answers left reads form listed told outside held steps =
    call_line T line t was now made answer IsIn (λ c. RefusesNever) does answers left (reads (same_state was now held steps)) form listed
    (read_of_held was.keeping made Is IsIn step told)
    (where_held was.keeping (λ c. AnswersBy RefusesNever made) (λ w head _ _. outside_only made outside))
    (whatever made held) (whatever made steps) (ap (λ (k : Keeping). k.headed) held)
