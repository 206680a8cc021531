-- Notes that are taken from records: one edit, which does for each record in its turn what a call of its own would.
use Rattle.std.specs.Prelude.{◌≡◌, ◌⊎◌, ℕ, ◌+◌, ℤ, Bool, true, false, List, [], ◌∷◌, ◌++◌, length, Option, Some, None}
use Rattle.ak_base.specs.declared.names.Name.{Name}
use Rattle.ak_base.specs.declared.notes.Note.{Note}
use Rattle.ak_edit.specs.Ends.{IsFinished}
use Rattle.ak_edit.specs.Refusals.{IsFromOutside, OrElse, Refusal}
use Rattle.ak_edit.specs.declared.desk_faults.DeskFault.{DeskFault}
use Rattle.ak_edit.specs.declared.desk_faults.DeskFault.TheVariants as faults
use Rattle.ak_imports.specs.Guids.{IsLeastId}
use Rattle.ak_imports.specs.KeptRows.{rows_with}
use Rattle.ak_imports.specs.OwnTests.{own_fault, rows_made}
use Rattle.ak_imports.specs.SameNotes.{IsSame}
use Rattle.ak_imports.specs.declared.imports.Arrival.{Arrival}
use Rattle.ak_imports.specs.declared.imports.Import.{Import}
use Rattle.ak_imports.specs.declared.imports.Imported.{Imported}
use Rattle.ak_imports.specs.declared.imports.NotesFault.{NotesFault}
use Rattle.ak_imports.specs.declared.imports.Outcome.{Outcome}
use Rattle.ak_imports.specs.declared.imports.Outcome.TheVariants as outcomes
use Rattle.ak_imports.specs.declared.own_tests.Trial.{Trial}
use Rattle.ak_imports.specs.declared.records.Record.{Record}
use Rattle.ak_keep.specs.Collections.{Collection}
use Rattle.ak_keep.specs.Keepers.{Keeping, WhereHeld}
use Rattle.ak_keep.specs.Lookups.{note_at}
use Rattle.ak_merge.specs.Edits.{Edit}
use Rattle.ak_merge.specs.Holdings.{row_under}
use Rattle.ak_notes.specs.Additions.{IsAddition, RefusesToAdd}
use Rattle.ak_notes.specs.MadeNotes.{IsMakingFault}
use Rattle.ak_notes.specs.NoteEdits.{IsNoteEdit, RefusesToEdit}
use Rattle.ak_notes.specs.declared.additions.NewNote.{NewNote}
use Rattle.ak_notes.specs.declared.made_notes.MadeNote.{MadeNote}
use Rattle.ak_notes.specs.declared.note_edits.NoteEdit.{NoteEdit}
use Rattle.ak_undo.specs.declared.steps.Step.{Step}

-- ---- what a record asks for
-- the new note of a record, with the guid of the record
abbrev pub new_note : Arrival → Record → NewNote
new_note arrival r = record {
  note_type = arrival.note_type;
  deck = arrival.deck;
  guid = Some r.guid;
  fields = r.fields;
  tags = r.tags;
  chance = 0;
}

-- the texts of a record for the note of this id
abbrev pub edit_of_record : ℤ → Record → NoteEdit
edit_of_record id r = record { note = id; fields = r.fields; tags = r.tags }

-- ---- an import under way
-- the collection as the records so far have it, where no stamp, no usn and no moment has risen yet; the tags that
-- came with them; and how many of them there were of each outcome
pub record Progress : Type 0 where
  pub collection : Collection
  pub tags : List (List ℕ)
  pub counts : Imported

-- before the first record
abbrev pub start_of : Collection → Progress
start_of c = record { collection = c; tags = []; counts = record { added = 0; updated = 0; same = 0 } }

-- one more of this outcome
abbrev pub counted : Outcome → Imported → Imported
counted outcomes.Added n = record n { added = n.added + 1 }
counted outcomes.Updated n = record n { updated = n.updated + 1 }
counted outcomes.Same n = record n { same = n.same + 1 }

-- the collection with what was made of a record
abbrev pub with_made : MadeNote → Collection → Collection
with_made made c = record {
  rows = rows_with (rows_made made) c.rows;
  head = record c.head { conf = made.conf };
}

-- after a record with these tags of which this was made
abbrev pub made_after : Outcome → List (List ℕ) → MadeNote → Progress → Progress
made_after how tags made p = record {
  collection = with_made made p.collection;
  tags = p.tags ++ tags;
  counts = counted how p.counts;
}

-- after a record whose note is as it says
abbrev pub same_after : Progress → Progress
same_after p = record p { counts = counted outcomes.Same p.counts }

-- how what is made of a record is tested: at which moment, whether the note is new, and the moment that the collection had
abbrev pub trial_of : Bool → ℤ → Collection → Trial
trial_of is_new at c = record { at = at; is_new = is_new; moment = c.head.moment }

-- ---- one record
-- what is made of a record whose guid no note has: a new note with its cards, as a call that adds it would make them, which passes all
-- tests
pub record IsAddedOf (arrival : Arrival) (r : Record) (c : Collection) (made : MadeNote) : Type 0 where
  pub passes : (fault : DeskFault) → RefusesToAdd arrival.at (new_note arrival r) c.rows fault → ⊥
  pub is : IsAddition arrival.at (new_note arrival r) c.rows c.head made
  pub tested : own_fault (trial_of true arrival.at c) made ≡ None

-- what is made of these texts for a note: the note with them and the cards that it then lacks, as a call that edits it would make them,
-- which passes all tests
pub record IsUpdatedOf (at : ℤ) (given : NoteEdit) (c : Collection) (made : MadeNote) : Type 0 where
  pub passes : (fault : DeskFault) → RefusesToEdit at given c.rows fault → ⊥
  pub is : IsNoteEdit at given c.rows c.head made
  pub tested : own_fault (trial_of false at c) made ≡ None

-- a record whose guid no note has was done: its note was added
pub record IsAddedDone (arrival : Arrival) (r : Record) (p q : Progress) : Type 0 where
  pub made : MadeNote
  pub is : IsAddedOf arrival r p.collection made
  pub after : q ≡ made_after outcomes.Added r.tags made p

-- a note was updated with these texts
pub record IsUpdatedDone (at : ℤ) (given : NoteEdit) (p q : Progress) : Type 0 where
  pub made : MadeNote
  pub is : IsUpdatedOf at given p.collection made
  pub after : q ≡ made_after outcomes.Updated given.tags made p

-- a record with these texts for this note was done: a note that is the same is left alone, and another is updated
abbrev pub IsChangeDone : ℤ → NoteEdit → Note → Progress → Progress → Type 0
IsChangeDone at given note p q =
    (IsSame note given × (q ≡ same_after p)) ⊎ ((IsSame note given → ⊥) × IsUpdatedDone at given p q)

-- a record was done of which this is the least note with its guid
abbrev pub IsFoundDone : Arrival → Record → Option ℤ → Progress → Progress → Type 0
IsFoundDone arrival r None p q = IsAddedDone arrival r p q
IsFoundDone arrival r (Some id) p q =
    (note : Note) × (note_at p.collection.rows id ≡ Some note) × IsChangeDone arrival.at (edit_of_record id r) note p q

-- a record was done: it acts on the least note with its guid, also on one that an earlier record added
abbrev pub IsRecordDone : Arrival → Record → Progress → Progress → Type 0
IsRecordDone arrival r p q = (found : Option ℤ) × IsLeastId p.collection.rows r.guid found × IsFoundDone arrival r found p q

-- all of the records were done, each in its turn
abbrev pub AreRecordsDone : Arrival → List Record → Progress → Progress → Type 0
AreRecordsDone arrival [] p q = q ≡ p
AreRecordsDone arrival (r ∷ others) p q = (mid : Progress) × IsRecordDone arrival r p mid × AreRecordsDone arrival others mid q

-- ---- refusals
-- the tests of a record whose note is to be added: those of the call that adds it, and then those of what it makes
abbrev pub RefusesAdded : Arrival → Record → Collection → Refusal
RefusesAdded arrival r c =
    OrElse (RefusesToAdd arrival.at (new_note arrival r) c.rows)
    (λ fault. (made : MadeNote) × IsAddition arrival.at (new_note arrival r) c.rows c.head made
    × (own_fault (trial_of true arrival.at c) made ≡ Some fault))

-- the tests of these texts for a note: those of the call that edits it, and then those of what it makes
abbrev pub RefusesUpdated : ℤ → NoteEdit → Collection → Refusal
RefusesUpdated at given c =
    OrElse (RefusesToEdit at given c.rows)
    (λ fault. (made : MadeNote) × IsNoteEdit at given c.rows c.head made × (own_fault (trial_of false at c) made ≡ Some fault))

-- the tests of these texts for this note: none if it is the same
abbrev pub RefusesChange : ℤ → NoteEdit → Note → Collection → Refusal
RefusesChange at given note c fault = (IsSame note given → ⊥) × RefusesUpdated at given c fault

-- the tests of a record of which this is the least note with its guid
abbrev pub RefusesFound : Arrival → Record → Option ℤ → Collection → Refusal
RefusesFound arrival r None c fault = RefusesAdded arrival r c fault
RefusesFound arrival r (Some id) c fault =
    (note : Note) × (note_at c.rows id ≡ Some note) × RefusesChange arrival.at (edit_of_record id r) note c fault

-- the tests of a record
abbrev pub RefusesRecord : Arrival → Record → Collection → Refusal
RefusesRecord arrival r c fault = (found : Option ℤ) × IsLeastId c.rows r.guid found × RefusesFound arrival r found c fault

-- ---- the call
-- where the notes of an import come to, and when
abbrev pub arrival_of : Import → ℤ → Arrival
arrival_of given at = record { note_type = given.note_type; deck = given.deck; at = at }

-- the edit that leads to this collection, with these tags
abbrev pub edit_to : Collection → List (List ℕ) → Edit
edit_to c tags = record { rows = row_under c; conf = c.head.conf; tags = tags; schema = false }

-- the records were taken at this moment: each of them was done in its turn, and what they made is one edit, with one step to undo if it changes anything
pub record IsImported (at : ℤ) (given : Import) (c : Collection) (before now : Keeping) (steps left : List Step) (imported : Imported) : Type 0 where
  pub end : Progress
  pub each : AreRecordsDone (arrival_of given at) given.records (start_of c) end
  pub done : IsFinished at c (edit_to end.collection end.tags) before now steps left
  pub counts : imported ≡ end.counts

-- the same, where a collection is told
abbrev pub DoesImport : ℤ → Import → Keeping → Keeping → List Step → List Step → Imported → Type 0
DoesImport at given before now steps left imported = WhereHeld before (λ c. IsImported at given c before now steps left imported)

-- the records before this one were done, and it is the first that is refused: records are counted from 1
pub record IsRefusedAt (arrival : Arrival) (records : List Record) (c : Collection) (fault : NotesFault) : Type 0 where
  pub before : List Record
  pub refused : Record
  pub after : List Record
  pub split : records ≡ before ++ refused ∷ after
  pub number : fault.at_record ≡ length before + 1
  pub mid : Progress
  pub done : AreRecordsDone arrival before (start_of c) mid
  pub for_this : RefusesRecord arrival refused mid.collection fault.fault

-- a record is refused, where a collection is told
abbrev pub RefusesImport : ℤ → Import → Keeping → NotesFault → Type 0
RefusesImport at given before fault = WhereHeld before (λ c. IsRefusedAt (arrival_of given at) given.records c fault)

-- a fault from outside is that of no record
pub record IsOutside (fault : NotesFault) : Type 0 where
  pub number : fault.at_record ≡ 0
  pub cause : IsFromOutside fault.fault

-- what a record may be refused for, told or not: a row that is not held, or what is made of it
abbrev pub IsRecordFault : DeskFault → Type 0
IsRecordFault fault = ((name : Name) × (fault ≡ faults.NoSuch name)) ⊎ IsMakingFault fault

-- what the call may be refused for, told or not; a fault from outside is that of no record
pub record IsImportFault (fault : NotesFault) : Type 0 where
  pub listed : IsRecordFault fault.fault
  pub number : IsFromOutside fault.fault → fault.at_record ≡ 0

-- the keeper failed
abbrev pub failed : NotesFault
failed = record { at_record = 0; fault = faults.Failed }

-- the fault of the record of this number, or of none if it is from outside
abbrev pub numbered : ℕ → DeskFault → NotesFault
numbered number (faults.NoSuch name) = record { at_record = number; fault = faults.NoSuch name }
numbered number (faults.FieldCount want got) = record { at_record = number; fault = faults.FieldCount want got }
numbered number (faults.DefaultKept name) = record { at_record = number; fault = faults.DefaultKept name }
numbered number faults.StampEnd = record { at_record = number; fault = faults.StampEnd }
numbered number faults.IdEnd = record { at_record = number; fault = faults.IdEnd }
numbered number (faults.Row fault) = record { at_record = number; fault = faults.Row fault }
numbered number (faults.Template fault) = record { at_record = number; fault = faults.Template fault }
numbered number (faults.NotAnswerable queue) = record { at_record = number; fault = faults.NotAnswerable queue }
numbered number faults.NothingToUndo = record { at_record = number; fault = faults.NothingToUndo }
numbered number faults.SchemaAsk = record { at_record = number; fault = faults.SchemaAsk }
numbered number (faults.InUse name) = record { at_record = number; fault = faults.InUse name }
numbered number faults.Failed = record { at_record = 0; fault = faults.Failed }
numbered number (faults.BadMap place) = record { at_record = number; fault = faults.BadMap place }
numbered number (faults.Page fault) = record { at_record = number; fault = faults.Page fault }
numbered number faults.Memory = record { at_record = 0; fault = faults.Memory }
