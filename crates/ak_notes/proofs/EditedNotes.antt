-- A note that is edited: its edit, and when it is refused.
use Rattle.std.specs.Prelude.{◌≡◌, ℤ, List, length, Option, Some, None, IfErr, IfSome, Result, Ok, Err}
use Rattle.std.proofs.Common.{sym, ap, subst, inl, inr, ◌∙◌}
use Rattle.std.proofs.lemmas.Option.{same_Some}
use Rattle.std.specs.FinMap.{get}
use Rattle.ak_base.specs.declared.cards.Card.{Card}
use Rattle.ak_base.specs.declared.heads.Head.{Head}
use Rattle.ak_base.specs.declared.names.Name.{Name}
use Rattle.ak_base.specs.declared.names.Table.TheVariants as tables
use Rattle.ak_base.specs.declared.note_types.NoteType.{NoteType}
use Rattle.ak_base.specs.declared.notes.Note.{Note}
use Rattle.ak_edit_calls.proofs.Answering.{passed_first, refused_first}
use Rattle.ak_edit_calls.proofs.Telling.{where_held-both, where_held-map, where_rows_held, where_told-both}
use Rattle.ak_keep.specs.FreeNames.{is_used}
use Rattle.ak_cardgen.specs.Generation.{AreOrds}
use Rattle.ak_edit.specs.Ends.{AnswersEnd, FinishedBy, IsFinished, RefusesEnd}
use Rattle.ak_edit_calls.specs.NewNames.{RefusesIdsFrom, first_name}
use Rattle.ak_edit.specs.Overlays.{Overlay, edit_of, unchanged}
use Rattle.ak_edit.specs.Refusals.{AnswersBy, IsEndFault}
use Rattle.ak_edit.specs.declared.desk_faults.DeskFault.{DeskFault}
use Rattle.ak_keep.proofs.Told.{where_told-map}
use Rattle.ak_keep.specs.Collections.{Collection, Rows, collection_of}
use Rattle.ak_keep.specs.Keepers.{Keeping, WhereHeld, WhereTold}
use Rattle.ak_keep.specs.Lookups.{note_at, type_of_note}
use Rattle.ak_merge.specs.Edits.{Edit}
use Rattle.ak_merge.specs.Holdings.{name_in}
use Rattle.ak_notes.proofs.AddedNotes.{end_listed, outside_listed, same_made}
use Rattle.ak_notes.proofs.NewCards.{card_ids_answer, cards_once}
use Rattle.ak_notes.proofs.MadeNotes.{made_answer, made_asked}
use Rattle.ak_notes.proofs.Needing.{other_answer, other_refusal, test_passes}
use Rattle.ak_notes.proofs.ToldOrds.{ords_once}
use Rattle.ak_notes.specs.LackingNotes.{AreMissing, AreMissingIn, RefusesMissingIds, lacked_ords, missing_place, next_at}
use Rattle.ak_notes.specs.MadeNotes.{IsMissingIn, RefusesMade, made_over}
use Rattle.ak_notes.specs.NewCards.{RefusesCardIds, RefusesFronts, conf_after}
use Rattle.ak_notes.specs.NoteEdits.{DoesEditNote, IsChangedFor, IsChangedHeld, IsChangedNote, IsChangedOf, IsChangedTo, IsChangedWith, IsNoteEdit, IsNoteEditFault, IsNoteEdited, RefusesCards, RefusesLacked, RefusesNoteEdit, RefusesToEdit, lacking_note}
use Rattle.ak_notes.specs.NoteRows.{with_texts}
use Rattle.ak_notes.specs.declared.lacking_notes.LackingNote.{LackingNote}
use Rattle.ak_notes.specs.declared.lacking_notes.MissingCards.{MissingCards}
use Rattle.ak_notes.specs.declared.lacking_notes.NextCards.{NextCards}
use Rattle.ak_notes.specs.declared.made_notes.MadeNote.{MadeNote}
use Rattle.ak_notes.specs.declared.note_edits.NoteEdit.{NoteEdit}
use Rattle.ak_undo.specs.declared.steps.Step.{Step}

-- ---- a note is edited in one way
changed_once : (at : ℤ) (note : Note) (note_type : NoteType) (given : NoteEdit) (held : Rows) (head : Head) (a b : MadeNote)
    → IsChangedNote at note note_type given held head a → IsChangedNote at note note_type given held head b → a ≡ b
changed_once at note note_type given held head a b one other =
    let shown : other.shown ≡ one.shown = ords_once note_type given.fields other.shown one.shown other.told one.told in
    let there : AreMissing (lacking_note given.note one.shown held) (next_at at head.conf) held b.cards =
    subst (λ (ords : List ℤ). AreMissing (lacking_note given.note ords held) (next_at at head.conf) held b.cards) shown other.cards in
    let lacking : LackingNote = lacking_note given.note one.shown held in
    let next : NextCards = next_at at head.conf in
    let cards : a.cards ≡ b.cards = cards_once (is_used (get held)) (missing_place lacking next) next.first (lacked_ords lacking) a.cards b.cards one.cards there in
    same_made a b (one.texts ∙ sym other.texts) cards (one.conf ∙ ap (λ (l : List Card). conf_after l head.conf) cards ∙ sym other.conf)

held_once : (at : ℤ) (note : Note) (given : NoteEdit) (held : Rows) (head : Head) (a b : MadeNote) → IsChangedHeld at note given held head a → IsChangedHeld at note given held head b → a ≡ b
held_once at note given held head a b one other =
    let same : other.note_type ≡ one.note_type = same_Some other.note_type one.note_type (sym other.typed ∙ one.typed) in
    changed_once at note one.note_type given held head a b one.is (subst (λ (t : NoteType). IsChangedNote at note t given held head b) same other.is)

pub edited_once : (at : ℤ) (given : NoteEdit) (held : Rows) (head : Head) (a b : MadeNote) → IsNoteEdit at given held head a → IsNoteEdit at given held head b → a ≡ b
edited_once at given held head a b one other =
    let same : other.note ≡ one.note = same_Some other.note one.note (sym other.there ∙ one.there) in
    held_once at one.note given held head a b one.is (subst (λ (n : Note). IsChangedHeld at n given held head b) same other.is)

-- ---- what it leaves
abbrev IsEditedIn : ℤ → NoteEdit → MadeNote → Collection → Type 0
IsEditedIn at given made c = IsNoteEdit at given c.rows c.head made

changed_held : (k : Keeping) (at : ℤ) (given : NoteEdit) (made : MadeNote) → WhereTold k (IsChangedOf at given made) → WhereHeld k (IsEditedIn at given made)
changed_held k at given made =
    where_told-map k (IsChangedOf at given made) (λ h. IfSome (collection_of h) (IsEditedIn at given made))
    (λ h is. elim h.head as (λ (o : Option Head). IfSome o (λ head. IsNoteEdit at given h.rows head made) → IfSome (collection_of (record { rows = h.rows; head = o })) (IsEditedIn at given made)) [
      | None ↦ λ _. tt
      | Some head ↦ λ edits. edits
    ] is)

pub edit_done : (k now : Keeping) (at : ℤ) (given : NoteEdit) (made : MadeNote) (o : Overlay) (steps left : List Step) → WhereTold k (IsChangedOf at given made) → o ≡ made_over given.tags made unchanged
    → FinishedBy at o k now steps left → DoesEditNote at given k now steps left
edit_done k now at given made o steps left is over =
    where_held-both k (IsEditedIn at given made) (λ c. IsFinished at c (edit_of o c) k now steps left) (λ c. IsNoteEdited at given c k now steps left)
    (λ c edits finished. record {
      made = made;
      is = edits;
      done = subst (λ (e : Edit). IsFinished at c e k now steps left) (ap (λ (p : Overlay). edit_of p c) over ∙ made_asked given.tags made c) finished;
    }) (changed_held k at given made is)

-- ---- what it answers
record Passes (at : ℤ) (given : NoteEdit) (made : MadeNote) (c : Collection) : Type 0 where
  is : IsNoteEdit at given c.rows c.head made
  tests : AnswersBy {T = MadeNote} (RefusesToEdit at given c.rows) (Ok made)

-- the answer of the end is that of the call
pub edit_answered : (k : Keeping) (at : ℤ) (given : NoteEdit) (made : MadeNote) (o : Overlay) (result : Result (Unit {0}) DeskFault) → o ≡ made_over given.tags made unchanged
    → WhereTold k (IsChangedOf at given made) → WhereTold k (λ h. AnswersBy {T = MadeNote} (RefusesToEdit at given h.rows) (Ok made))
    → AnswersEnd at o k result → WhereHeld k (λ c. AnswersBy (RefusesNoteEdit at given c) result)
edit_answered k at given made o result over is tests =
    where_held-both k (Passes at given made) (λ c. AnswersBy (RefusesEnd at c (edit_of o c)) result) (λ c. AnswersBy (RefusesNoteEdit at given c) result)
    (λ c passes answers. passed_first (RefusesToEdit at given c.rows) (RefusesMade at given.tags c (IsNoteEdit at given c.rows c.head)) made result passes.tests
    (made_answer at given.tags c (IsNoteEdit at given c.rows c.head) made result (λ other is. edited_once at given c.rows c.head other made is passes.is) passes.is
    (subst (λ (e : Edit). AnswersBy (RefusesEnd at c e) result) (ap (λ (p : Overlay). edit_of p c) over ∙ made_asked given.tags made c) answers)))
    (where_held-both k (IsEditedIn at given made) (λ c. AnswersBy {T = MadeNote} (RefusesToEdit at given c.rows) (Ok made)) (Passes at given made)
    (λ c edits passes. record { is = edits; tests = passes }) (changed_held k at given made is)
    (where_rows_held k (λ rows. AnswersBy {T = MadeNote} (RefusesToEdit at given rows) (Ok made)) tests))

-- a test before the end refuses
pub edit_tested : (k : Keeping) (at : ℤ) (given : NoteEdit) (fault : DeskFault)
    → WhereTold k (λ h. AnswersBy {T = MadeNote} (RefusesToEdit at given h.rows) (Err fault)) → WhereHeld k (λ c. AnswersBy {T = Unit {0}} (RefusesNoteEdit at given c) (Err fault))
edit_tested k at given fault tests =
    where_held-map k (λ c. AnswersBy {T = MadeNote} (RefusesToEdit at given c.rows) (Err fault)) (λ c. AnswersBy {T = Unit {0}} (RefusesNoteEdit at given c) (Err fault))
    (λ c answers. refused_first (RefusesToEdit at given c.rows) (RefusesMade at given.tags c (IsNoteEdit at given c.rows c.head)) fault answers)
    (where_rows_held k (λ rows. AnswersBy {T = MadeNote} (RefusesToEdit at given rows) (Err fault)) tests)

-- ---- the parts
-- of the note that is held
pub of_note : (k : Keeping) (at : ℤ) (given : NoteEdit) (note : Note) (made : MadeNote) → WhereTold k (λ h. note_at h.rows given.note ≡ Some note)
    → WhereTold k (IsChangedFor at note given made) → WhereTold k (IsChangedOf at given made)
of_note k at given note made =
    where_told-both k (λ h. note_at h.rows given.note ≡ Some note) (IsChangedFor at note given made) (IsChangedOf at given made)
    (λ h there is. elim h.head as (λ (o : Option Head). IfSome o (λ head. IsChangedHeld at note given h.rows head made) → IfSome o (λ head. IsNoteEdit at given h.rows head made)) [
      | None ↦ λ _. tt
      | Some head ↦ λ edits. record { note = note; there = there; is = edits }
    ] is)

-- of its type
pub of_type : (k : Keeping) (at : ℤ) (note : Note) (note_type : NoteType) (given : NoteEdit) (made : MadeNote) → WhereTold k (λ h. type_of_note h.rows note ≡ Some note_type)
    → WhereTold k (IsChangedTo at note note_type given made) → WhereTold k (IsChangedFor at note given made)
of_type k at note note_type given made =
    where_told-both k (λ h. type_of_note h.rows note ≡ Some note_type) (IsChangedTo at note note_type given made) (IsChangedFor at note given made)
    (λ h typed is. elim h.head as (λ (o : Option Head). IfSome o (λ head. IsChangedNote at note note_type given h.rows head made) → IfSome o (λ head. IsChangedHeld at note given h.rows head made)) [
      | None ↦ λ _. tt
      | Some head ↦ λ edits. record { note_type = note_type; typed = typed; is = edits }
    ] is)

abbrev IsWith : ℤ → Note → NoteType → NoteEdit → List ℤ → MadeNote → Rows → Head → Type 0
IsWith at note note_type given shown made held head =
    AreMissing (lacking_note given.note shown held) (next_at at head.conf) held made.cards
    × (made.note ≡ with_texts note_type given.fields given.tags note) × (made.conf ≡ conf_after made.cards head.conf)

-- with the ords that are shown
pub of_shown : (k : Keeping) (at : ℤ) (note : Note) (note_type : NoteType) (given : NoteEdit) (shown : List ℤ) (made : MadeNote) → AreOrds note_type given.fields shown
    → WhereTold k (IsChangedWith at note note_type given shown made) → WhereTold k (IsChangedTo at note note_type given made)
of_shown k at note note_type given shown made told =
    where_told-map k (IsChangedWith at note note_type given shown made) (IsChangedTo at note note_type given made)
    (λ h is. elim h.head as (λ (o : Option Head). IfSome o (λ head. IsWith at note note_type given shown made h.rows head) → IfSome o (λ head. IsChangedNote at note note_type given h.rows head made)) [
      | None ↦ λ _. tt
      | Some head ↦ λ edits. record { texts = edits.1; shown = shown; told = told; cards = edits.0; conf = edits.2 }
    ] is)

-- of what was read and made
abbrev made_of : Note → MissingCards → MadeNote
made_of changed cards = record { note = changed; cards = cards.cards; conf = cards.next.conf }

read_with : (at : ℤ) (note : Note) (note_type : NoteType) (given : NoteEdit) (shown : List ℤ) (lacking : LackingNote) (next : NextCards) (cards : MissingCards) (changed : Note) (held : Rows) (head : Head)
    → lacking ≡ lacking_note given.note shown held → next ≡ next_at at head.conf → AreMissing lacking next held cards.cards
    → changed ≡ with_texts note_type given.fields given.tags note → cards.next.conf ≡ conf_after cards.cards next.conf → IsWith at note note_type given shown (made_of changed cards) held head
read_with at note note_type given shown lacking next cards changed held head is goes are texts conf = (
  subst (λ (n : NextCards). AreMissing (lacking_note given.note shown held) n held cards.cards) goes (subst (λ (l : LackingNote). AreMissing l next held cards.cards) is are),
  texts,
  conf ∙ ap (λ (n : NextCards). conf_after cards.cards n.conf) goes,
)

pub of_parts : (k : Keeping) (at : ℤ) (note : Note) (note_type : NoteType) (given : NoteEdit) (shown : List ℤ) (lacking : LackingNote) (next : NextCards) (cards : MissingCards) (changed : Note)
    → WhereTold k (λ h. lacking ≡ lacking_note given.note shown h.rows) → WhereTold k (λ h. IfSome h.head (λ head. next ≡ next_at at head.conf))
    → WhereTold k (AreMissingIn lacking next cards) → changed ≡ with_texts note_type given.fields given.tags note → cards.next.conf ≡ conf_after cards.cards next.conf
    → WhereTold k (IsChangedWith at note note_type given shown (made_of changed cards))
of_parts k at note note_type given shown lacking next cards changed is goes are texts conf =
    where_told-both k (λ h. IfSome h.head (λ head. next ≡ next_at at head.conf)) (λ h. (lacking ≡ lacking_note given.note shown h.rows) × AreMissing lacking next h.rows cards.cards)
    (IsChangedWith at note note_type given shown (made_of changed cards))
    (λ h settings both. elim h.head as (λ (o : Option Head). IfSome o (λ head. next ≡ next_at at head.conf) → IfSome o (λ head. IsWith at note note_type given shown (made_of changed cards) h.rows head)) [
      | None ↦ λ _. tt
      | Some head ↦ λ same. read_with at note note_type given shown lacking next cards changed h.rows head both.0 same both.1 texts conf
    ] settings) goes
    (where_told-both k (λ h. lacking ≡ lacking_note given.note shown h.rows) (AreMissingIn lacking next cards)
    (λ h. (lacking ≡ lacking_note given.note shown h.rows) × AreMissing lacking next h.rows cards.cards) (λ h one other. (one, other)) is are)

-- ---- the answers of the parts
-- all fronts are templates
abbrev picked : NoteEdit → Rows → List ℤ → List ℤ
picked given held shown = lacked_ords (lacking_note given.note shown held)

pub shown_pass : (k : Keeping) (at : ℤ) (given : NoteEdit) (note_type : NoteType) (shown : List ℤ) (result : Result MadeNote DeskFault) → AnswersBy {T = List ℤ} (RefusesFronts note_type) (Ok shown)
    → AreOrds note_type given.fields shown → WhereTold k (λ h. AnswersBy (RefusesLacked at given shown h.rows) result) → WhereTold k (λ h. AnswersBy (RefusesCards at given note_type h.rows) result)
shown_pass k at given note_type shown result passes told lacked =
    test_passes k (RefusesFronts note_type) (λ rows. RefusesCardIds at (picked given rows) note_type given.fields rows) shown result passes
    (where_told-map k (λ h. AnswersBy (RefusesLacked at given shown h.rows) result) (λ h. AnswersBy (RefusesCardIds at (picked given h.rows) note_type given.fields h.rows) result)
    (λ h answers. card_ids_answer at (picked given h.rows) note_type given.fields h.rows shown result told answers) lacked)

-- what is answered of a note that lacks cards, as it was read
lacked_answer : {T : Type 0} (at : ℤ) (given : NoteEdit) (shown : List ℤ) (lacking : LackingNote) (next : NextCards) (held : Rows) (result : Result T DeskFault)
    → next.first ≡ first_name tables.Card at → lacking ≡ lacking_note given.note shown held → AnswersBy (RefusesMissingIds lacking next held) result → AnswersBy (RefusesLacked at given shown held) result
lacked_answer at given shown lacking next held result first is answers =
    subst (λ (l : LackingNote). AnswersBy (RefusesIdsFrom (first_name tables.Card at) (length (lacked_ords l)) (get held)) result) is
    (subst (λ (n : Name). AnswersBy (RefusesIdsFrom n (length (lacked_ords lacking)) (get held)) result) first answers)

-- too few ids are free
pub lacked_refuse : (k : Keeping) (at : ℤ) (given : NoteEdit) (shown : List ℤ) (lacking : LackingNote) (next : NextCards) (fault : DeskFault)
    → next.first ≡ first_name tables.Card at → WhereTold k (λ h. lacking ≡ lacking_note given.note shown h.rows)
    → WhereTold k (λ h. AnswersBy {T = MissingCards} (RefusesMissingIds lacking next h.rows) (Err fault)) → WhereTold k (λ h. AnswersBy {T = MadeNote} (RefusesLacked at given shown h.rows) (Err fault))
lacked_refuse k at given shown lacking next fault first =
    where_told-both k (λ h. lacking ≡ lacking_note given.note shown h.rows) (λ h. AnswersBy {T = MissingCards} (RefusesMissingIds lacking next h.rows) (Err fault))
    (λ h. AnswersBy {T = MadeNote} (RefusesLacked at given shown h.rows) (Err fault))
    (λ h is answers. other_refusal (RefusesLacked at given shown h.rows) fault (lacked_answer {T = MissingCards} at given shown lacking next h.rows (Err fault) first is answers))

-- enough are
pub lacked_pass : (k : Keeping) (at : ℤ) (given : NoteEdit) (shown : List ℤ) (lacking : LackingNote) (next : NextCards) (cards : MissingCards) (made : MadeNote)
    → next.first ≡ first_name tables.Card at → WhereTold k (λ h. lacking ≡ lacking_note given.note shown h.rows)
    → WhereTold k (λ h. AnswersBy {T = MissingCards} (RefusesMissingIds lacking next h.rows) (Ok cards)) → WhereTold k (λ h. AnswersBy {T = MadeNote} (RefusesLacked at given shown h.rows) (Ok made))
lacked_pass k at given shown lacking next cards made first =
    where_told-both k (λ h. lacking ≡ lacking_note given.note shown h.rows) (λ h. AnswersBy {T = MissingCards} (RefusesMissingIds lacking next h.rows) (Ok cards))
    (λ h. AnswersBy {T = MadeNote} (RefusesLacked at given shown h.rows) (Ok made))
    (λ h is answers. other_answer (RefusesLacked at given shown h.rows) cards made (lacked_answer {T = MissingCards} at given shown lacking next h.rows (Ok cards) first is answers))

-- ---- which faults there are
-- the type of the note is not held
pub type_listed : (k : Keeping) (given : NoteEdit) (note : Note) (fault : DeskFault) → IsMissingIn k (λ rows. type_of_note rows note) (name_in tables.NoteType note.mid) fault → IsNoteEditFault given fault
type_listed k given note fault missing = elim missing [ inl outside ↦ inr (inr (outside_listed fault outside)) | inr is ↦ inr (inl (note.mid, is.1)) ]

-- the end of the edit refuses
pub ends_listed : (given : NoteEdit) (result : Result (Unit {0}) DeskFault) → IfErr result IsEndFault → IfErr result (IsNoteEditFault given)
ends_listed given (Ok value) is = tt
ends_listed given (Err fault) is = inr (inr (end_listed fault is))
