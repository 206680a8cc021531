-- A note that is added: its edit, and when it is refused.
use Rattle.std.specs.Prelude.{◌≡◌, ◌⊎◌, ℤ, List, map, Option, Some, None, IfOk, IfSome, Result, Ok, Err, OnOk}
use Rattle.std.proofs.Common.{sym, ap, subst, inl, inr, ◌∙◌, arith}
use Rattle.std.proofs.lemmas.Option.{same_Some}
use Rattle.std.specs.FinMap.{get}
use Rattle.std.specs.Result.{IsErrOf}
use Rattle.ak_base.specs.declared.cards.Card.{Card}
use Rattle.ak_base.specs.declared.heads.Conf.{Conf}
use Rattle.ak_base.specs.declared.heads.Head.{Head}
use Rattle.ak_base.specs.declared.names.Name.{Name}
use Rattle.ak_base.specs.declared.names.Table.TheVariants as tables
use Rattle.ak_base.specs.declared.note_types.NoteType.{NoteType}
use Rattle.ak_base.specs.declared.notes.Note.{Note}
use Rattle.ak_edit_calls.proofs.Answering.{passed_first, refused_first}
use Rattle.ak_edit_calls.proofs.Telling.{where_always, where_held-both, where_held-map, where_rows_held, where_told-both}
use Rattle.ak_keep.specs.FreeNames.{is_used}
use Rattle.ak_edit_calls.specs.NewNames.{IsNewName, RefusesId, first_name}
use Rattle.ak_cardgen.specs.Generation.{AreOrds}
use Rattle.ak_edit.specs.Ends.{AnswersEnd, FinishedBy, IsFinished, RefusesEnd}
use Rattle.ak_edit.specs.Overlays.{Overlay, edit_of, unchanged}
use Rattle.ak_edit.specs.Refusals.{AnswersBy, DeskCause, IsEndFault, IsFromOutside, Refusal}
use Rattle.ak_edit.specs.declared.desk_faults.DeskFault.{DeskFault}
use Rattle.ak_edit.specs.declared.desk_faults.DeskFault.TheVariants as faults
use Rattle.ak_faults.proofs.Healths.{goes_further, goes_nowhere}
use Rattle.ak_faults.specs.Causes.{GoesOn, Health}
use Rattle.ak_keep.proofs.Told.{where_told-map}
use Rattle.ak_keep.specs.Collections.{Collection, Holding, Rows, collection_of}
use Rattle.ak_keep.specs.Keepers.{Keeping, WhereHeld, WhereTold}
use Rattle.ak_keep.specs.Lookups.{note_type_at}
use Rattle.ak_merge.specs.Edits.{Edit}
use Rattle.ak_edit_calls.proofs.FreeIds.{free_once}
use Rattle.ak_notes.proofs.NewCards.{card_ids_answer, cards_of_once}
use Rattle.ak_notes.proofs.MadeNotes.{made_answer, made_asked}
use Rattle.ak_notes.proofs.Needing.{other_answer, other_refusal}
use Rattle.ak_notes.specs.Additions.{DoesAdd, IsAdded, IsAddedFor, IsAddedUnder, IsAddition, IsMadeFor, IsMadeOf, IsMadeUnder, IsMadeWith, RefusesAddition, RefusesMaking, RefusesShown, RefusesToAdd, added_place, added_row}
use Rattle.ak_notes.specs.MadeNotes.{IsGivenFault, IsMakingFault, IsMissingIn, RefusesMade, made_over}
use Rattle.ak_notes.specs.NewCards.{AreNewCards, AreNewIn, RefusesCardIds, RefusesFronts, RefusesIds, at_least_one, conf_after}
use Rattle.ak_notes.specs.declared.additions.Added.{Added}
use Rattle.ak_notes.specs.declared.additions.NewNote.{NewNote}
use Rattle.ak_notes.specs.declared.made_notes.MadeNote.{MadeNote}
use Rattle.ak_notes.specs.declared.new_cards.CardPlace.{CardPlace}
use Rattle.ak_undo.specs.declared.steps.Step.{Step}

-- ---- a note is added in one way
pub same_made : (a b : MadeNote) → a.note ≡ b.note → a.cards ≡ b.cards → a.conf ≡ b.conf → a ≡ b
same_made a b note cards conf =
    ap (λ (n : Note). let m : MadeNote = record { note = n; cards = a.cards; conf = a.conf } in m) note
    ∙ ap (λ (l : List Card). let m : MadeNote = record { note = b.note; cards = l; conf = a.conf } in m) cards
    ∙ ap (λ (s : Conf). let m : MadeNote = record { note = b.note; cards = b.cards; conf = s } in m) conf

under_once : (at : ℤ) (note_type : NoteType) (new : NewNote) (name : Name) (held : Rows) (head : Head) (a b : MadeNote)
    → IsAddedUnder at note_type new name held head a → IsAddedUnder at note_type new name held head b → a ≡ b
under_once at note_type new name held head a b one other =
    let cards : a.cards ≡ b.cards = cards_of_once at at_least_one (added_place new head name.id) note_type new.fields held a.cards b.cards one.cards other.cards in
    same_made a b (one.note ∙ sym other.note) cards (one.conf ∙ ap (λ (l : List Card). conf_after l head.conf) cards ∙ sym other.conf)

for_once : (at : ℤ) (note_type : NoteType) (new : NewNote) (held : Rows) (head : Head) (a b : MadeNote) → IsAddedFor at note_type new held head a → IsAddedFor at note_type new held head b → a ≡ b
for_once at note_type new held head a b one other =
    let name : other.name ≡ one.name = free_once (is_used (get held)) (first_name tables.Note at) other.name one.name other.free one.free in
    under_once at note_type new one.name held head a b one.under (subst (λ (n : Name). IsAddedUnder at note_type new n held head b) name other.under)

pub added_once : (at : ℤ) (new : NewNote) (held : Rows) (head : Head) (a b : MadeNote) → IsAddition at new held head a → IsAddition at new held head b → a ≡ b
added_once at new held head a b one other =
    let same : other.note_type ≡ one.note_type = same_Some other.note_type one.note_type (sym other.typed ∙ one.typed) in
    for_once at one.note_type new held head a b one.is (subst (λ (t : NoteType). IsAddedFor at t new held head b) same other.is)

-- ---- what it leaves
abbrev IsAddedIn : ℤ → NewNote → MadeNote → Collection → Type 0
IsAddedIn at new made c = IsAddition at new c.rows c.head made

-- what is made of what is told is made of the collection
pub made_held : (k : Keeping) (at : ℤ) (new : NewNote) (made : MadeNote) → WhereTold k (IsMadeOf at new made) → WhereHeld k (λ c. IsAddition at new c.rows c.head made)
made_held k at new made =
    where_told-map k (IsMadeOf at new made) (λ h. IfSome (collection_of h) (IsAddedIn at new made))
    (λ h is. elim h.head as (λ (o : Option Head). IfSome o (λ head. IsAddition at new h.rows head made) → IfSome (collection_of (record { rows = h.rows; head = o })) (IsAddedIn at new made)) [
      | None ↦ λ _. tt
      | Some head ↦ λ adds. adds
    ] is)

pub add_done : (k now : Keeping) (at : ℤ) (new : NewNote) (made : MadeNote) (added : Added) (o : Overlay) (steps left : List Step)
    → WhereTold k (IsMadeOf at new made) → o ≡ made_over new.tags made unchanged → added.note ≡ made.note.id → added.cards ≡ map (λ (card : Card). card.id) made.cards
    → FinishedBy at o k now steps left → DoesAdd at new k now steps left added
add_done k now at new made added o steps left is over note cards =
    where_held-both k (IsAddedIn at new made) (λ c. IsFinished at c (edit_of o c) k now steps left) (λ c. IsAdded at new c k now steps left added)
    (λ c adds finished. record {
      made = made;
      is = adds;
      note = note;
      cards = cards;
      done = subst (λ (e : Edit). IsFinished at c e k now steps left) (ap (λ (p : Overlay). edit_of p c) over ∙ made_asked new.tags made c) finished;
    }) (made_held k at new made is)

-- ---- what it answers
record Passes (at : ℤ) (new : NewNote) (made : MadeNote) (c : Collection) : Type 0 where
  is : IsAddition at new c.rows c.head made
  tests : AnswersBy {T = MadeNote} (RefusesToAdd at new c.rows) (Ok made)

end_answer : {T : Type 0} (at : ℤ) (new : NewNote) (made : MadeNote) (o : Overlay) (result : Result T DeskFault) (c : Collection) → o ≡ made_over new.tags made unchanged
    → Passes at new made c → AnswersBy (RefusesEnd at c (edit_of o c)) result → AnswersBy (RefusesAddition at new c) result
end_answer at new made o result c over passes answers =
    passed_first (RefusesToAdd at new c.rows) (RefusesMade at new.tags c (IsAddition at new c.rows c.head)) made result passes.tests
    (made_answer at new.tags c (IsAddition at new c.rows c.head) made result (λ other is. added_once at new c.rows c.head other made is passes.is) passes.is
    (subst (λ (e : Edit). AnswersBy (RefusesEnd at c e) result) (ap (λ (p : Overlay). edit_of p c) over ∙ made_asked new.tags made c) answers))

passes_held : (k : Keeping) (at : ℤ) (new : NewNote) (made : MadeNote) → WhereTold k (IsMadeOf at new made)
    → WhereTold k (λ h. AnswersBy {T = MadeNote} (RefusesToAdd at new h.rows) (Ok made)) → WhereHeld k (Passes at new made)
passes_held k at new made is tests =
    where_held-both k (IsAddedIn at new made) (λ c. AnswersBy {T = MadeNote} (RefusesToAdd at new c.rows) (Ok made)) (Passes at new made)
    (λ c adds passes. record { is = adds; tests = passes }) (made_held k at new made is)
    (where_rows_held k (λ rows. AnswersBy {T = MadeNote} (RefusesToAdd at new rows) (Ok made)) tests)

-- the end of the edit refuses
pub add_refused : (k : Keeping) (at : ℤ) (new : NewNote) (made : MadeNote) (o : Overlay) (fault : DeskFault) → o ≡ made_over new.tags made unchanged
    → WhereTold k (IsMadeOf at new made) → WhereTold k (λ h. AnswersBy {T = MadeNote} (RefusesToAdd at new h.rows) (Ok made))
    → AnswersEnd {T = Unit {0}} at o k (Err fault) → WhereHeld k (λ c. AnswersBy {T = Added} (RefusesAddition at new c) (Err fault))
add_refused k at new made o fault over is tests =
    where_held-both k (Passes at new made) (λ c. AnswersBy {T = Unit {0}} (RefusesEnd at c (edit_of o c)) (Err fault)) (λ c. AnswersBy {T = Added} (RefusesAddition at new c) (Err fault))
    (λ c passes answers. end_answer {T = Added} at new made o (Err fault) c over passes (other_refusal (RefusesEnd at c (edit_of o c)) fault answers))
    (passes_held k at new made is tests)

-- nothing refuses
pub add_accepted : (k : Keeping) (at : ℤ) (new : NewNote) (made : MadeNote) (added : Added) (o : Overlay) (value : Unit {0}) → o ≡ made_over new.tags made unchanged
    → WhereTold k (IsMadeOf at new made) → WhereTold k (λ h. AnswersBy {T = MadeNote} (RefusesToAdd at new h.rows) (Ok made))
    → AnswersEnd {T = Unit {0}} at o k (Ok value) → WhereHeld k (λ c. AnswersBy {T = Added} (RefusesAddition at new c) (Ok added))
add_accepted k at new made added o value over is tests =
    where_held-both k (Passes at new made) (λ c. AnswersBy {T = Unit {0}} (RefusesEnd at c (edit_of o c)) (Ok value)) (λ c. AnswersBy {T = Added} (RefusesAddition at new c) (Ok added))
    (λ c passes answers. end_answer {T = Added} at new made o (Ok added) c over passes (other_answer (RefusesEnd at c (edit_of o c)) value added answers))
    (passes_held k at new made is tests)

-- a test before the end refuses
pub add_tested : (k : Keeping) (at : ℤ) (new : NewNote) (fault : DeskFault)
    → WhereTold k (λ h. AnswersBy {T = MadeNote} (RefusesToAdd at new h.rows) (Err fault)) → WhereHeld k (λ c. AnswersBy {T = Added} (RefusesAddition at new c) (Err fault))
add_tested k at new fault tests =
    where_held-map k (λ c. AnswersBy {T = MadeNote} (RefusesToAdd at new c.rows) (Err fault)) (λ c. AnswersBy {T = Added} (RefusesAddition at new c) (Err fault))
    (λ c answers. refused_first (RefusesToAdd at new c.rows) (RefusesMade at new.tags c (IsAddition at new c.rows c.head)) fault answers)
    (where_rows_held k (λ rows. AnswersBy {T = MadeNote} (RefusesToAdd at new rows) (Err fault)) tests)

-- ---- the parts
-- whatever a call that goes through answers, this is true
pub on_ok : {T : Type 0} (result : Result T DeskFault) (P : Type 0) → P → OnOk result P
on_ok (Ok value) P is = is
on_ok (Err fault) P is = tt

-- of the type that is held
pub of_type : (k : Keeping) (at : ℤ) (new : NewNote) (note_type : NoteType) (made : MadeNote) → WhereTold k (λ h. note_type_at h.rows new.note_type ≡ Some note_type)
    → WhereTold k (IsMadeFor at note_type new made) → WhereTold k (IsMadeOf at new made)
of_type k at new note_type made =
    where_told-both k (λ h. note_type_at h.rows new.note_type ≡ Some note_type) (IsMadeFor at note_type new made) (IsMadeOf at new made)
    (λ h typed is. elim h.head as (λ (o : Option Head). IfSome o (λ head. IsAddedFor at note_type new h.rows head made) → IfSome o (λ head. IsAddition at new h.rows head made)) [
      | None ↦ λ _. tt
      | Some head ↦ λ adds. record { note_type = note_type; typed = typed; is = adds }
    ] is)

-- under the name that is free
pub of_name : (k : Keeping) (at : ℤ) (note_type : NoteType) (new : NewNote) (name : Name) (made : MadeNote) → WhereTold k (λ h. IsNewName at tables.Note (get h.rows) name)
    → WhereTold k (IsMadeUnder at note_type new name made) → WhereTold k (IsMadeFor at note_type new made)
of_name k at note_type new name made =
    where_told-both k (λ h. IsNewName at tables.Note (get h.rows) name) (IsMadeUnder at note_type new name made) (IsMadeFor at note_type new made)
    (λ h free is. elim h.head as (λ (o : Option Head). IfSome o (λ head. IsAddedUnder at note_type new name h.rows head made) → IfSome o (λ head. IsAddedFor at note_type new h.rows head made)) [
      | None ↦ λ _. tt
      | Some head ↦ λ adds. record { name = name; free = free; under = adds }
    ] is)

abbrev IsWith : ℤ → NoteType → NewNote → Name → List ℤ → MadeNote → Holding → Head → Type 0
IsWith at note_type new name told made h head =
    AreNewCards (is_used (get h.rows)) (added_place new head name.id) (first_name tables.Card at) (at_least_one told) made.cards
    × (made.note ≡ added_row note_type new name.id) × (made.conf ≡ conf_after made.cards head.conf)

-- with the ords that are told
pub of_ords : (k : Keeping) (at : ℤ) (note_type : NoteType) (new : NewNote) (name : Name) (told : List ℤ) (made : MadeNote) → AreOrds note_type new.fields told
    → WhereTold k (IsMadeWith at note_type new name told made) → WhereTold k (IsMadeUnder at note_type new name made)
of_ords k at note_type new name told made are =
    where_told-map k (IsMadeWith at note_type new name told made) (IsMadeUnder at note_type new name made)
    (λ h is. elim h.head as (λ (o : Option Head). IfSome o (λ head. IsWith at note_type new name told made h head) → IfSome o (λ head. IsAddedUnder at note_type new name h.rows head made)) [
      | None ↦ λ _. tt
      | Some head ↦ λ adds. record { note = adds.1; cards = record { ords = told; told = are; made = adds.0 }; conf = adds.2 }
    ] is)

-- of its parts
pub of_parts : (k : Keeping) (at : ℤ) (note_type : NoteType) (new : NewNote) (name : Name) (told : List ℤ) (before : Conf) (made : MadeNote) → WhereTold k (λ h. IfSome h.head (λ head. before ≡ head.conf))
    → WhereTold k (AreNewIn (record { note = name.id; deck = new.deck; due = before.next_pos }) (first_name tables.Card at) (at_least_one told) made.cards)
    → made.note ≡ added_row note_type new name.id → made.conf ≡ conf_after made.cards before → WhereTold k (IsMadeWith at note_type new name told made)
of_parts k at note_type new name told before made held cards note conf =
    let place : CardPlace = record { note = name.id; deck = new.deck; due = before.next_pos } in
    where_told-both k (λ h. IfSome h.head (λ head. before ≡ head.conf)) (AreNewIn place (first_name tables.Card at) (at_least_one told) made.cards) (IsMadeWith at note_type new name told made)
    (λ h settings are. elim h.head as (λ (o : Option Head). IfSome o (λ head. before ≡ head.conf) → IfSome o (λ head. IsWith at note_type new name told made h head)) [
      | None ↦ λ _. tt
      | Some head ↦ λ same. (
        subst (λ (s : Conf). AreNewIn (record { note = name.id; deck = new.deck; due = s.next_pos }) (first_name tables.Card at) (at_least_one told) made.cards h) same are,
        note,
        conf ∙ ap (conf_after made.cards) same,
      )
    ] settings) held cards

-- ---- the answers of the parts
-- no id is free for the note
pub id_refuses : (k : Keeping) (at : ℤ) (new : NewNote) (note_type : NoteType) (fault : DeskFault) → WhereTold k (λ h. AnswersBy {T = Name} (RefusesId at tables.Note (get h.rows)) (Err fault))
    → WhereTold k (λ h. AnswersBy {T = MadeNote} (RefusesMaking at new note_type h.rows) (Err fault))
id_refuses k at new note_type fault =
    where_told-map k (λ h. AnswersBy {T = Name} (RefusesId at tables.Note (get h.rows)) (Err fault)) (λ h. AnswersBy {T = MadeNote} (RefusesMaking at new note_type h.rows) (Err fault))
    (λ h answers. refused_first (RefusesId at tables.Note (get h.rows)) (RefusesShown at new note_type h.rows) fault answers)

-- one is
pub id_passes : (k : Keeping) (at : ℤ) (new : NewNote) (note_type : NoteType) (name : Name) (result : Result MadeNote DeskFault) → WhereTold k (λ h. AnswersBy {T = Name} (RefusesId at tables.Note (get h.rows)) (Ok name))
    → WhereTold k (λ h. AnswersBy (RefusesShown at new note_type h.rows) result) → WhereTold k (λ h. AnswersBy (RefusesMaking at new note_type h.rows) result)
id_passes k at new note_type name result =
    where_told-both k (λ h. AnswersBy {T = Name} (RefusesId at tables.Note (get h.rows)) (Ok name)) (λ h. AnswersBy (RefusesShown at new note_type h.rows) result)
    (λ h. AnswersBy (RefusesMaking at new note_type h.rows) result)
    (λ h passes answers. passed_first (RefusesId at tables.Note (get h.rows)) (RefusesShown at new note_type h.rows) name result passes answers)

-- all fronts are templates
pub fronts_pass : (k : Keeping) (at : ℤ) (new : NewNote) (note_type : NoteType) (told : List ℤ) (result : Result MadeNote DeskFault) → AnswersBy {T = List ℤ} (RefusesFronts note_type) (Ok told)
    → AreOrds note_type new.fields told → WhereTold k (λ h. AnswersBy (RefusesIds at (at_least_one told) h.rows) result) → WhereTold k (λ h. AnswersBy (RefusesShown at new note_type h.rows) result)
fronts_pass k at new note_type told result passes are =
    where_told-map k (λ h. AnswersBy (RefusesIds at (at_least_one told) h.rows) result) (λ h. AnswersBy (RefusesShown at new note_type h.rows) result)
    (λ h answers. passed_first (RefusesFronts note_type) (RefusesCardIds at at_least_one note_type new.fields h.rows) told result passes
    (card_ids_answer at at_least_one note_type new.fields h.rows told result are answers))

-- ---- other forms
pub if_ok-map : (result : Result MadeNote DeskFault) (P Q : MadeNote → Type 0) → ((made : MadeNote) → P made → Q made) → IfOk result P → IfOk result Q
if_ok-map (Ok made) P Q step is = step made is
if_ok-map (Err fault) P Q step is = tt

pub outside_listed : (fault : DeskFault) → IsFromOutside fault → IsMakingFault fault
outside_listed fault outside = elim outside [ inl is ↦ subst IsMakingFault (sym is) tt | inr is ↦ subst IsMakingFault (sym is) tt ]

pub id_listed : (fault : DeskFault) → IsFromOutside fault ⊎ (fault ≡ faults.IdEnd) → IsMakingFault fault
id_listed fault either = elim either [ inl outside ↦ outside_listed fault outside | inr is ↦ subst IsMakingFault (sym is) tt ]

pub given_listed : (fault : DeskFault) → IsGivenFault fault → IsMakingFault fault
given_listed (faults.NoSuch name) is = absurd is
given_listed (faults.FieldCount want got) is = tt
given_listed (faults.DefaultKept name) is = absurd is
given_listed faults.StampEnd is = absurd is
given_listed faults.IdEnd is = absurd is
given_listed (faults.Row fault) is = tt
given_listed (faults.Template fault) is = tt
given_listed (faults.NotAnswerable queue) is = absurd is
given_listed faults.NothingToUndo is = absurd is
given_listed faults.SchemaAsk is = absurd is
given_listed (faults.InUse name) is = absurd is
given_listed faults.Failed is = absurd is
given_listed (faults.BadMap place) is = absurd is
given_listed (faults.Page fault) is = absurd is
given_listed faults.Memory is = tt

pub end_listed : (fault : DeskFault) → IsEndFault fault → IsMakingFault fault
end_listed fault either = elim either [
  | inl outside ↦ outside_listed fault outside
  | inr more ↦ elim more [ inl is ↦ subst IsMakingFault (sym is.1) tt | inr is ↦ subst IsMakingFault (sym is) tt ]
]

pub missing_listed : {A : Type 0} (k : Keeping) (row : Rows → Option A) (name : Name) (fault : DeskFault) → IsMissingIn k row name fault → IsMakingFault fault ⊎ (fault ≡ faults.NoSuch name)
missing_listed k row name fault missing = elim missing [ inl outside ↦ inl (outside_listed fault outside) | inr is ↦ inr is.1 ]

-- ---- causes
abbrev error_in : {T : Type 0} → DeskFault → Result T DeskFault → DeskFault
error_in other (Ok value) = other
error_in other (Err fault) = fault

fault_is : {T : Type 0} (fault other : DeskFault) → IsErrOf {T = T} (Err fault) other → fault ≡ other
fault_is fault other is = ap (error_in fault) is

-- a part that asks no keeper does not fail
pub given_cause : {T : Type 0} (a : Health) (fault : DeskFault) → IsGivenFault fault → DeskCause {T = T} a a (Err fault)
given_cause a fault given = record {
  goes = goes_nowhere a;
  failed = λ is. absurd (subst IsGivenFault (fault_is fault faults.Failed is) given);
  unfailed = λ _ is. subst IsGivenFault (fault_is fault faults.Failed is) given;
}

-- the cause of what was asked later
pub later_cause : {T U : Type 0} (a b c : Health) (fault : DeskFault) → GoesOn a b → DeskCause {T = T} b c (Err fault) → DeskCause {T = U} a c (Err fault)
later_cause a b c fault goes cause = record {
  goes = goes_further goes cause.goes;
  failed = λ is. let rose = cause.failed (ap Err (fault_is fault faults.Failed is)) in omega (arith, rose, goes.later);
  unfailed = λ calm is. cause.unfailed (goes.calm calm) (ap Err (fault_is fault faults.Failed is));
}

-- what goes through does not fail
pub ok_cause : {T : Type 0} (a b : Health) (value : T) → GoesOn a b → DeskCause {T = T} a b (Ok value)
ok_cause a b value goes = record { goes = goes; failed = λ is. absurd (cc); unfailed = λ _ is. absurd (cc) }

-- out of memory
pub outside_told : (T : Type 0) (k : Keeping) (tests : Collection → Refusal) (fault : DeskFault) → IsFromOutside fault → WhereHeld k (λ c. AnswersBy {T = T} (tests c) (Err fault))
outside_told T k tests fault outside =
    where_always k (λ h. IfSome (collection_of h) (λ c. AnswersBy {T = T} (tests c) (Err fault)))
    (λ h. elim (collection_of h) as (λ (o : Option Collection). IfSome o (λ c. AnswersBy {T = T} (tests c) (Err fault))) [ None ↦ tt | Some c ↦ record { accepted = tt; refused = inl outside } ])
