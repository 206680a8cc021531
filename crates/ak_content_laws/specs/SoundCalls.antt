-- What it is that a keeper holds a sound collection, also after each undo, and how a call ends.
use Rattle.std.specs.Prelude.{◌≡◌, ◌≤◌, ℤ, pos, ◌<ℤ◌, false, List, [], ◌∷◌, length, Option, Some, option_and_then, Result, IfOk, OnErr}
use Rattle.ak_base.specs.declared.names.Table.TheVariants as tables
use Rattle.ak_base.specs.declared.note_types.NoteType.{NoteType}
use Rattle.ak_base.specs.declared.notes.Note.{Note}
use Rattle.ak_base.specs.declared.rows.Row.TheVariants as rows
use Rattle.ak_edit.specs.Steps.{reversals_in}
use Rattle.ak_keep.specs.Collections.{Collection, Holding, collection_of}
use Rattle.ak_keep.specs.Graves.{RowsByName}
use Rattle.ak_keep.specs.Keepers.{Keeping}
use Rattle.ak_keep.specs.Marks.{WithMark}
use Rattle.ak_merge.specs.Edits.{Reversal}
use Rattle.ak_merge.specs.Holdings.{name_in, row_under}
use Rattle.ak_merge.specs.Soundness.{IsSound}
use Rattle.ak_merge.specs.Undoing.{put_back}
use Rattle.ak_undo.specs.declared.steps.Step.{Step}

-- the collection that a keeper tells, if it tells one
abbrev pub collection_told : Keeping → Option Collection
collection_told k = option_and_then (λ (w : WithMark Holding). collection_of w.current) k.told

-- the rows are sound, and what soundness reads of them is in its range: each standard type has a template, and notes have ids over 0
pub record IsSoundInRange (at : RowsByName) : Type 0 where
  pub sound : IsSound at
  pub templates : (id : ℤ) (type : NoteType) → at (name_in tables.NoteType id) ≡ Some (rows.NoteType type) → type.cloze ≡ false → 1 ≤ length type.templates
  pub ids : (id : ℤ) (note : Note) → at (name_in tables.Note id) ≡ Some (rows.Note note) → pos 0 <ℤ id

-- the rows are so, and also those that are there when the steps are put back, the latest first and one after the other
abbrev pub AreSoundBack : List Reversal → RowsByName → Type 0
AreSoundBack [] at = IsSoundInRange at
AreSoundBack (step ∷ steps) at = IsSoundInRange at × AreSoundBack steps (put_back step at)

-- a keeper tells a collection that is sound, and each undo of the list leaves one that is
pub record HoldsSound (k : Keeping) (steps : List Step) : Type 0 where
  pub c : Collection
  pub told : collection_told k ≡ Some c
  pub sound : AreSoundBack (reversals_in steps) (row_under c)

-- how a call ended that does this if it is accepted: if it was refused, what is held and the undo list are as they were
pub record EndsOrStays {T E : Type 0} (Done : T → Type 0) (before now : Keeping) (steps left : List Step) (result : Result T E) : Type 0 where
  pub done : IfOk result Done
  pub same : OnErr result (now ≡ before)
  pub kept : OnErr result (left ≡ steps)
