-- An import under way: what the parts of the call keep while the keeper is marked and holds what the records so far made.
use Rattle.std.specs.Prelude.{◌≡◌, ◌⊎◌, ⊤, ℕ, ℤ, pos, Bool, List, [], ◌++◌, Option, Some, None}
use Rattle.ak_base.specs.Heads.{IsMoment, IsWithin}
use Rattle.ak_base.specs.Limits.{last_stamp}
use Rattle.ak_base.specs.Rows.{stamp_of}
use Rattle.ak_base.specs.declared.names.Name.{Name}
use Rattle.ak_base.specs.declared.rows.Row.{Row}
use Rattle.ak_edit.specs.Plans.{stamp_made}
use Rattle.ak_imports.specs.Guids.{AreGuidsOf}
use Rattle.ak_edit.specs.Overlays.{Overlay, edit_of}
use Rattle.ak_edit.specs.Refusals.{Refusal}
use Rattle.ak_imports.specs.Imports.{AreRecordsDone, IsAddedDone, IsChangeDone, IsRecordDone, IsRefusedAt, IsUpdatedDone, Progress, RefusesAdded, RefusesChange, RefusesRecord, RefusesUpdated, counted, edit_to, start_of, trial_of, with_made}
use Rattle.ak_imports.specs.KeptRows.{HoldsCollection}
use Rattle.ak_imports.specs.OwnTests.{own_fault}
use Rattle.ak_imports.specs.declared.imports.Arrival.{Arrival}
use Rattle.ak_imports.specs.declared.imports.Imported.{Imported}
use Rattle.ak_imports.specs.declared.imports.NotesFault.{NotesFault}
use Rattle.ak_imports.specs.declared.imports.Outcome.{Outcome}
use Rattle.ak_imports.specs.declared.records.Record.{Record}
use Rattle.ak_imports.specs.declared.works.Work.{Work}
use Rattle.ak_keep.specs.Collections.{Collection}
use Rattle.ak_keep.specs.Keepers.{Keeping}
use Rattle.ak_keep.specs.Lookups.{note_at}
use Rattle.ak_base.specs.declared.notes.Note.{Note}
use Rattle.ak_merge.specs.Edits.{advanced, second_of}
use Rattle.ak_merge.specs.Holdings.{row_under}
use Rattle.ak_notes.specs.declared.made_notes.MadeNote.{MadeNote}
use Rattle.ak_notes.specs.declared.note_edits.NoteEdit.{NoteEdit}

-- ---- what is put of one record
-- what was made of a record was put, with these tags: the keeper and the changes have it
pub record IsMadePut (at : ℤ) (is_new : Bool) (tags : List (List ℕ)) (made : MadeNote) (c : Collection) (p : Progress) (change : Overlay) (k : Keeping) : Type 0 where
  pub tested : own_fault (trial_of is_new at p.collection) made ≡ None
  pub tells : HoldsCollection k (with_made made p.collection)
  pub edit : edit_of change c ≡ edit_to (with_made made p.collection) (p.tags ++ tags)

-- a part of the call puts it, if it is told what is held
abbrev pub PutsMade : ℤ → Bool → List (List ℕ) → MadeNote → Overlay → Keeping → Overlay → Keeping → Type 0
PutsMade at is_new tags made change k change_after k_after =
    (c : Collection) (p : Progress) → HoldsCollection k p.collection → edit_of change c ≡ edit_to p.collection p.tags
    → IsMadePut at is_new tags made c p change_after k_after

-- it refuses to, if it is told what is held
abbrev pub RefusesToPut : ℤ → Bool → MadeNote → Keeping → Refusal
RefusesToPut at is_new made k fault = (c : Collection) → HoldsCollection k c → own_fault (trial_of is_new at c) made ≡ Some fault

-- ---- what was tested
-- a row that is made keeps the stamp that it had in the collection
abbrev pub KeepsStamp : Option Row → Row → Type 0
KeepsStamp None row = ⊤
KeepsStamp (Some before) row = stamp_of row ≡ stamp_of before

-- the stamp that a row that is made is to get is in its range
pub record IsPassedRow (at : ℤ) (before : Option Row) (row : Row) : Type 0 where
  pub stamp : IsWithin (pos 0) last_stamp (stamp_made (second_of at) before (Some row))
  pub keeps : KeepsStamp before row

-- under a name stands what stood there, or a row that passed its tests
abbrev pub IsPassedUnder : ℤ → Option Row → Option Row → Type 0
IsPassedUnder at before None = before ≡ None
IsPassedUnder at before (Some row) = (before ≡ Some row) ⊎ IsPassedRow at before row

-- no stamp and no moment ends in what the records so far made; that its rows pass their checks a keeper tells of all that it holds
pub record ArePassed (at : ℤ) (c : Collection) (p : Progress) : Type 0 where
  pub rows : (name : Name) → IsPassedUnder at (row_under c name) (row_under p.collection name)
  -- nothing was made so far, or the moment can rise
  pub moved : (edit_to p.collection p.tags ≡ edit_to c []) ⊎ IsMoment (advanced at c.head.moment)
  pub moment : p.collection.head.moment ≡ c.head.moment

-- ---- all of it
-- an import of this collection has come so far: the keeper holds it, the guids are those of its notes, and the changes ask for it
pub record IsUnderWay (at : ℤ) (c : Collection) (p : Progress) (work : Work) (k : Keeping) : Type 0 where
  pub tells : HoldsCollection k p.collection
  pub guids : AreGuidsOf work.guids p.collection.rows
  pub edit : edit_of work.change c ≡ edit_to p.collection p.tags
  pub passed : ArePassed at c p

-- ---- what the parts of the call do
-- a record was done, with this outcome
pub record IsTaken (arrival : Arrival) (IsDone : Progress → Progress → Type 0) (how : Outcome) (c : Collection) (p : Progress) (work : Work) (k : Keeping) : Type 0 where
  pub after : Progress
  pub done : IsDone p after
  pub counts : after.counts ≡ counted how p.counts
  pub under_way : IsUnderWay arrival.at c after work k

-- a record is done, if it is told what is held
abbrev pub TakesRecord : Arrival → Record → Outcome → Work → Keeping → Work → Keeping → Type 0
TakesRecord arrival r how work k work_after k_after =
    (c : Collection) (p : Progress) → IsUnderWay arrival.at c p work k
    → IsTaken arrival (IsRecordDone arrival r) how c p work_after k_after

-- a record is refused, if it is told what is held
abbrev pub RefusesUnderWay : Arrival → Record → Work → Keeping → Refusal
RefusesUnderWay arrival r work k fault =
    (c : Collection) (p : Progress) → IsUnderWay arrival.at c p work k → RefusesRecord arrival r p.collection fault

-- the same of a record whose guid no note has
abbrev pub AddsRecord : Arrival → Record → Outcome → Work → Keeping → Work → Keeping → Type 0
AddsRecord arrival r how work k work_after k_after =
    (c : Collection) (p : Progress) → IsUnderWay arrival.at c p work k
    → IsTaken arrival (IsAddedDone arrival r) how c p work_after k_after

-- it is not added, if it is told what is held
abbrev pub RefusesNew : Arrival → Record → Work → Keeping → Refusal
RefusesNew arrival r work k fault =
    (c : Collection) (p : Progress) → IsUnderWay arrival.at c p work k → RefusesAdded arrival r p.collection fault

-- the same of texts for a note that is held
abbrev pub ChangesNote : Arrival → NoteEdit → Outcome → Work → Keeping → Work → Keeping → Type 0
ChangesNote arrival given how work k work_after k_after =
    (c : Collection) (p : Progress) (note : Note) → IsUnderWay arrival.at c p work k → note_at p.collection.rows given.note ≡ Some note
    → IsTaken arrival (IsChangeDone arrival.at given note) how c p work_after k_after

-- they are refused, if it is told what is held
abbrev pub RefusesToChange : Arrival → NoteEdit → Work → Keeping → Refusal
RefusesToChange arrival given work k fault =
    (c : Collection) (p : Progress) (note : Note) → IsUnderWay arrival.at c p work k → note_at p.collection.rows given.note ≡ Some note
    → RefusesChange arrival.at given note p.collection fault

-- the same of other texts for a note
abbrev pub UpdatesNote : Arrival → NoteEdit → Outcome → Work → Keeping → Work → Keeping → Type 0
UpdatesNote arrival given how work k work_after k_after =
    (c : Collection) (p : Progress) → IsUnderWay arrival.at c p work k
    → IsTaken arrival (IsUpdatedDone arrival.at given) how c p work_after k_after

-- they are refused, if it is told what is held
abbrev pub RefusesToUpdate : Arrival → NoteEdit → Work → Keeping → Refusal
RefusesToUpdate arrival given work k fault =
    (c : Collection) (p : Progress) → IsUnderWay arrival.at c p work k → RefusesUpdated arrival.at given p.collection fault

-- all records were done
pub record AreTaken (arrival : Arrival) (records : List Record) (c : Collection) (imported : Imported) (work : Work) (k : Keeping) : Type 0 where
  pub after : Progress
  pub done : AreRecordsDone arrival records (start_of c) after
  pub counts : imported ≡ after.counts
  pub under_way : IsUnderWay arrival.at c after work k

-- all records are done, if it is told what is held
abbrev pub TakesAll : Arrival → List Record → Imported → Work → Keeping → Work → Keeping → Type 0
TakesAll arrival records imported work k work_after k_after =
    (c : Collection) → IsUnderWay arrival.at c (start_of c) work k → AreTaken arrival records c imported work_after k_after

-- one of the records is refused, if it is told what is held
abbrev pub RefusesOne : Arrival → List Record → Work → Keeping → NotesFault → Type 0
RefusesOne arrival records work k fault =
    (c : Collection) → IsUnderWay arrival.at c (start_of c) work k → IsRefusedAt arrival records c fault
