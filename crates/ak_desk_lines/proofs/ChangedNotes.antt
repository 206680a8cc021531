-- How a line ends that edits the note that is held.
use Rattle.std.specs.Prelude.{◌≡◌, ◌⊎◌, ℤ, Option, Some, None, Result, Ok, Err, IfErr, OnErr, OnOk}
use Rattle.std.proofs.Common.{inl, inr, sym, subst}
use Rattle.ak_base.specs.declared.names.Table.TheVariants as tables
use Rattle.ak_base.specs.declared.notes.Note.{Note}
use Rattle.ak_edit_calls.specs.Calls.{IsMissingFault}
use Rattle.ak_edit_calls.proofs.Answering.{on_ok-map}
use Rattle.ak_desk_lines.proofs.EndedLines.{call_line, done_by, held_at}
use Rattle.ak_desk_lines.specs.Accepted.{Does, ChangesNote, IsChangeOf, answer_with, done_answer}
use Rattle.ak_desk_lines.specs.LineEnds.{AnswersLine, EndsLine, HasAnswerForm, IsLeft, KeepsIfReading}
use Rattle.ak_desk_lines.specs.DeskStates.{DeskState}
use Rattle.ak_desk_lines.specs.Refused.{IsChangeFaultOf, MayRefuse, RefusesChangedNote}
use Rattle.ak_desk_lines.specs.declared.turns.Turn.{Turn}
use Rattle.ak_edit.proofs.Finishing.{told_at, where_held}
use Rattle.ak_edit.specs.Refusals.{AnswersBy}
use Rattle.ak_edit.specs.declared.desk_faults.DeskFault.{DeskFault}
use Rattle.ak_edit.specs.declared.desk_faults.DeskFault.TheVariants as faults
use Rattle.ak_keep.specs.Collections.{Collection}
use Rattle.ak_keep.specs.Keepers.{Keeping, WhereHeld}
use Rattle.ak_keep.specs.Lookups.{note_at}
use Rattle.ak_desk_language.specs.declared.desk_lines.DeskLine.{DeskLine}
use Rattle.ak_merge.specs.Holdings.{name_in}
use Rattle.ak_notes.specs.MadeNotes.{IsMakingFault, IsMissingIn, NeedsHeld}
use Rattle.ak_notes.specs.NoteEdits.{DoesEditNote, IsNoteEditFault, IsNoteEdited, RefusesNoteEdit}
use Rattle.ak_notes.specs.declared.note_edits.NoteEdit.{NoteEdit}
use Rattle.ak_desk_texts.specs.declared.answers.DeskAnswer.{DeskAnswer}
use Rattle.ak_desk_texts.specs.declared.answers.DeskAnswer.TheVariants as answers

-- a note that is not held is a refusal by the tests of the line
pub missing_note : (at note : ℤ) (change : Note → NoteEdit) (k : Keeping) (fault : DeskFault)
    → IsMissingIn k (λ rows. note_at rows note) (name_in tables.Note note) fault
    → WhereHeld k (λ c. AnswersBy {T = Unit {0}} (RefusesChangedNote at note change c) (Err fault))
missing_note at note change k fault (inl outside) =
    where_held k (λ c. AnswersBy {T = Unit {0}} (RefusesChangedNote at note change c) (Err fault)) (λ w head _ _. record { accepted = tt; refused = inl outside })
missing_note at note change k fault (inr missing) =
    where_held k (λ c. AnswersBy {T = Unit {0}} (RefusesChangedNote at note change c) (Err fault))
    (λ w head told _. record {
      accepted = tt;
      refused =
          inr (subst (λ (o : Option Note). NeedsHeld o (name_in tables.Note note) (λ held. RefusesNoteEdit at (change held) (record { rows = w.current.rows; head = head })) fault)
          (sym (told_at k (λ h. note_at h.rows note ≡ None) w told missing.0)) missing.1);
    })

-- what the note's edit may be refused by, if the edit is of this note
pub changed_listed : (note : ℤ) (given : NoteEdit) (made : Result (Unit {0}) DeskFault) → given.note ≡ note
    → IfErr made (IsNoteEditFault given) → IfErr made (IsChangeFaultOf note)
changed_listed note given (Ok value) is listed = tt
changed_listed note given (Err fault) is listed =
    subst (λ (id : ℤ). (fault ≡ faults.NoSuch (name_in tables.Note id)) ⊎ IsMissingFault tables.NoteType fault ⊎ IsMakingFault fault) is listed

-- what is missed may refuse the line
pub missing_listed : (k : Keeping) (note : ℤ) (fault : DeskFault) → IsMissingIn k (λ rows. note_at rows note) (name_in tables.Note note) fault → IsChangeFaultOf note fault
missing_listed k note fault (inl (inl failed)) = inr (inr (subst IsMakingFault (sym failed) tt))
missing_listed k note fault (inl (inr memory)) = inr (inr (subst IsMakingFault (sym memory) tt))
missing_listed k note fault (inr missing) = inl missing.1

-- the tests of the change that was made are those of the line
changed_answers : (at note : ℤ) (change : Note → NoteEdit) (k : Keeping) (given : NoteEdit) (made : Result (Unit {0}) DeskFault)
    → IsChangeOf k note change given → WhereHeld k (λ c. AnswersBy (RefusesNoteEdit at given c) made)
    → WhereHeld k (λ c. AnswersBy (RefusesChangedNote at note change c) made)
changed_answers at note change k given made is answers =
    where_held k (λ c. AnswersBy (RefusesChangedNote at note change c) made)
    (λ w head told is_head.
    let there = told_at k (λ h. (held : Note) × (note_at h.rows note ≡ Some held) × (given ≡ change held)) w told is in
    subst (λ (o : Option Note). AnswersBy (NeedsHeld o (name_in tables.Note note) (λ held. RefusesNoteEdit at (change held) (record { rows = w.current.rows; head = head }))) made)
    (sym there.1)
    (subst (λ (e : NoteEdit). AnswersBy (RefusesNoteEdit at e (record { rows = w.current.rows; head = head })) made) there.2
    (held_at k (λ c. AnswersBy (RefusesNoteEdit at given c) made) w head told is_head answers)))

-- the edit of the change that was made is that of the line
changed_edits : (at note : ℤ) (change : Note → NoteEdit) (was now : DeskState) (given : NoteEdit)
    → IsChangeOf was.keeping note change given → DoesEditNote at given was.keeping now.keeping was.steps now.steps
    → WhereHeld was.keeping (λ c. ChangesNote at note change c was now)
changed_edits at note change was now given is done =
    where_held was.keeping (λ c. ChangesNote at note change c was now)
    (λ w head told is_head.
    let there = told_at was.keeping (λ h. (held : Note) × (note_at h.rows note ≡ Some held) × (given ≡ change held)) w told is in (
      there.0,
      there.1,
      subst (λ (e : NoteEdit). IsNoteEdited at e (record { rows = w.current.rows; head = head }) was.keeping now.keeping was.steps now.steps) there.2
          (held_at was.keeping (λ c. IsNoteEdited at given c was.keeping now.keeping was.steps now.steps) w head told is_head done),
    ))

-- a line that changes the note as the keeper holds it
line_at : (line : DeskLine) (t : Turn) (note : ℤ) (change : Note → NoteEdit) (was now : DeskState) (given : NoteEdit) (made : Result (Unit {0}) DeskFault)
    → ((c : Collection) → ChangesNote t.at note change c was now → Does line t c was now answers.Done)
    → ((c : Collection) (result : Result DeskAnswer DeskFault) → AnswersBy (RefusesChangedNote t.at note change c) result → AnswersLine line t c was.steps result)
    → ((fault : DeskFault) → now ≡ was → IsLeft line t fault was now)
    → KeepsIfReading line was now → HasAnswerForm line answers.Done → IfErr made (MayRefuse line t)
    → IsChangeOf was.keeping note change given
    → OnOk made (DoesEditNote t.at given was.keeping now.keeping was.steps now.steps)
    → WhereHeld was.keeping (λ c. AnswersBy (RefusesNoteEdit t.at given c) made)
    → OnErr made (now.keeping ≡ was.keeping) → OnErr made (now.steps ≡ was.steps) → now.keeping.headed ≡ was.keeping.headed
    → EndsLine line t was now (answer_with done_answer made)
line_at line t note change was now given made does told left reads form listed is done answers held steps stays =
    call_line (Unit {0}) line t was now made done_answer (λ _ c. ChangesNote t.at note change c was now) (RefusesChangedNote t.at note change) (λ _ c. does c) told left
    reads (λ _. form) listed
    (done_by was.keeping (λ c. ChangesNote t.at note change c was now) made
    (on_ok-map made (DoesEditNote t.at given was.keeping now.keeping was.steps now.steps) (WhereHeld was.keeping (λ c. ChangesNote t.at note change c was now))
    (changed_edits t.at note change was now given is) done))
    (changed_answers t.at note change was.keeping given made is answers) held steps stays

-- the same, if the keeper was read before the edit
pub changed_line : (line : DeskLine) (t : Turn) (note : ℤ) (change : Note → NoteEdit) (was now : DeskState) (mid : Keeping) (given : NoteEdit) (made : Result (Unit {0}) DeskFault)
    → ((c : Collection) → ChangesNote t.at note change c was now → Does line t c was now answers.Done)
    → ((c : Collection) (result : Result DeskAnswer DeskFault) → AnswersBy (RefusesChangedNote t.at note change c) result → AnswersLine line t c was.steps result)
    → ((fault : DeskFault) → now ≡ was → IsLeft line t fault was now)
    → KeepsIfReading line was now → HasAnswerForm line answers.Done → IfErr made (MayRefuse line t)
    → IsChangeOf was.keeping note change given → mid ≡ was.keeping
    → OnOk made (DoesEditNote t.at given mid now.keeping was.steps now.steps)
    → WhereHeld mid (λ c. AnswersBy (RefusesNoteEdit t.at given c) made)
    → OnErr made (now.keeping ≡ mid) → OnErr made (now.steps ≡ was.steps) → now.keeping.headed ≡ mid.headed
    → EndsLine line t was now (answer_with done_answer made)
changed_line line t note change was now mid given made does told left reads form listed is same done answers held steps stays =
    line_at line t note change was now given made does told left reads form listed is
    (subst (λ (k : Keeping). OnOk made (DoesEditNote t.at given k now.keeping was.steps now.steps)) same done)
    (subst (λ (k : Keeping). WhereHeld k (λ c. AnswersBy (RefusesNoteEdit t.at given c) made)) same answers)
    (subst (λ (k : Keeping). OnErr made (now.keeping ≡ k)) same held) steps
    (subst (λ (k : Keeping). now.keeping.headed ≡ k.headed) same stays)
