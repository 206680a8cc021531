-- A note type that is added: what the call answers.
use Rattle.std.specs.Prelude.{◌≡◌, ◌⊎◌, ◌++◌, ℤ, pos, List, Result, Ok, Err, IfErr, IfOk}
use Rattle.std.proofs.Common.{refl, sym, ap, subst, inl, inr, ◌∙◌}
use Rattle.std.specs.FinMap.{get}
use Rattle.ak_base.specs.NoteTypes.{IsCheckedNoteType, form_faults, title_faults}
use Rattle.ak_base.specs.declared.errors.RowFault.{RowFault}
use Rattle.ak_base.specs.declared.names.Name.{Name}
use Rattle.ak_base.specs.declared.names.Table.{Table}
use Rattle.ak_base.specs.declared.names.Table.TheVariants as tables
use Rattle.ak_base.specs.declared.note_types.NoteType.{NoteType}
use Rattle.ak_base.specs.declared.rows.Row.{Row}
use Rattle.ak_base.specs.declared.rows.Row.TheVariants as rows
use Rattle.ak_edit.specs.Ends.{RefusesStamp}
use Rattle.ak_edit.specs.Refusals.{AnswersBy, DeskCause, IsEndFault, IsFromOutside}
use Rattle.ak_edit.specs.declared.desk_faults.DeskFault.{DeskFault}
use Rattle.ak_edit.specs.declared.desk_faults.DeskFault.TheVariants as faults
use Rattle.ak_edit_calls.proofs.Adding.{IsFound, found_in, kept_as_is, row_added}
use Rattle.ak_edit_calls.proofs.Answering.{passed_first, refused_first}
use Rattle.ak_edit_calls.proofs.CheckedRows.{of_faultless}
use Rattle.ak_edit_calls.proofs.Ids.{id_fits}
use Rattle.ak_edit_calls.proofs.Taking.{no_cause_here, where_held-all}
use Rattle.ak_edit_calls.proofs.Telling.{where_held-map, where_rows_held}
use Rattle.ak_edit_calls.specs.Additions.{EndsAddition, RefusesNewStamp}
use Rattle.ak_edit_calls.specs.Calls.{EndsEdit}
use Rattle.ak_edit_calls.specs.NewNames.{IsNewName, RefusesId}
use Rattle.ak_edit_calls.specs.RowEdits.{RefusesRowEdit, row_edit}
use Rattle.ak_faults.specs.Causes.{Health}
use Rattle.ak_keep.specs.Collections.{Collection, IsId, Rows}
use Rattle.ak_keep.specs.Keepers.{Keeping, WhereHeld, WhereTold}
use Rattle.ak_merge.proofs.CheckedRows.{faultless_of}
use Rattle.ak_merge.specs.Edits.{Edit}
use Rattle.ak_merge.specs.Holdings.{name_in, row_under}
use Rattle.ak_template.specs.declared.faults.TemplateFault.{TemplateFault}
use Rattle.ak_types.specs.GivenTypes.{IsSideFault, RefusesGiven, RefusesSides, as_given, with_id}
use Rattle.ak_types.specs.TypeAdditions.{IsAdditionFault, RefusesNamed, RefusesNewType, RefusesTypeAddition, given_type, new_type, type_addition}
use Rattle.ak_undo.specs.declared.steps.Step.{Step}

-- ---- a type that is in its ranges
-- no id is free
pub type_full : (k now : Keeping) (at : ℤ) (note_type : NoteType) (fault : DeskFault) (steps : List Step) → now ≡ k → WhereTold k (λ h. AnswersBy {T = Name} (RefusesId at tables.NoteType (get h.rows)) (Err fault))
    → EndsAddition (new_type at note_type) k now steps steps (Err fault)
type_full k now at note_type fault steps same refuses =
    kept_as_is k now (new_type at note_type) fault steps same
    (where_held-map k (λ c. AnswersBy {T = Name} (RefusesId at tables.NoteType (row_under c)) (Err fault)) (λ c. AnswersBy {T = ℤ} (RefusesNewType at note_type c) (Err fault))
    (λ c is. refused_first (RefusesId at tables.NoteType (row_under c)) (RefusesNamed at note_type c) fault is)
    (where_rows_held k (λ held. AnswersBy {T = Name} (RefusesId at tables.NoteType (get held)) (Err fault)) refuses))

-- a side can't be read
pub type_unread : (k now : Keeping) (at : ℤ) (note_type : NoteType) (name : Name) (fault : DeskFault) (steps : List Step) → now ≡ k → name.table ≡ tables.NoteType → WhereTold k (λ h. IsNewName at tables.NoteType (get h.rows) name)
    → WhereTold k (λ h. AnswersBy {T = Name} (RefusesId at tables.NoteType (get h.rows)) (Ok name)) → AnswersBy {T = Unit {0}} (RefusesSides note_type) (Err fault)
    → EndsAddition (new_type at note_type) k now steps steps (Err fault)
type_unread k now at note_type name fault steps same table new passes sides =
    kept_as_is k now (new_type at note_type) fault steps same
    (where_held-map k (λ c. IsFound at tables.NoteType name c.rows) (λ c. AnswersBy {T = ℤ} (RefusesNewType at note_type c) (Err fault))
    (λ c found. passed_first (RefusesId at tables.NoteType (row_under c)) (RefusesNamed at note_type c) name (let r : Result ℤ DeskFault = Err fault in r) found.passes
    (refused_first {T = Unit {0}} (RefusesSides note_type) (RefusesNewStamp at tables.NoteType (type_addition note_type) c) fault sides)) (found_in k at tables.NoteType name table new passes))

-- the type was put under its new id, or its end was refused
pub type_ended : (k now : Keeping) (at : ℤ) (note_type : NoteType) (name : Name) (value : Unit {0}) (steps left : List Step) (result : Result ℤ DeskFault) → AnswersBy {T = Unit {0}} (RefusesSides note_type) (Ok value) → name.table ≡ tables.NoteType → WhereTold k (λ h. IsNewName at tables.NoteType (get h.rows) name)
    → WhereTold k (λ h. AnswersBy {T = Name} (RefusesId at tables.NoteType (get h.rows)) (Ok name)) → IfOk result (λ id. id ≡ name.id)
    → EndsEdit at (row_edit (rows.NoteType (with_id name.id note_type))) (RefusesRowEdit at (rows.NoteType (with_id name.id note_type))) k now steps left result
    → EndsAddition (new_type at note_type) k now steps left result
type_ended k now at note_type name value steps left result sides =
    row_added k now (new_type at note_type) name steps left result
    (λ c given found answers. passed_first (RefusesId at tables.NoteType (row_under c)) (RefusesNamed at note_type c) name given found.passes
    (passed_first (RefusesSides note_type) (RefusesNewStamp at tables.NoteType (type_addition note_type) c) value given sides answers))

-- ---- a type that was given
-- it is out of its ranges
pub addition_given : (k : Keeping) (at : ℤ) (note_type : NoteType) (fault : DeskFault) (steps : List Step) → RefusesGiven (with_id (pos 1) (as_given note_type)) fault
    → EndsAddition (given_type at note_type) k k steps steps (Err fault)
addition_given k at note_type fault steps is =
    let given : NoteType = with_id (pos 1) (as_given note_type) in
    kept_as_is k k (given_type at note_type) fault steps refl
    (where_held-all k (λ c. AnswersBy {T = ℤ} (RefusesTypeAddition at note_type c) (Err fault))
    (λ c. refused_first {T = ℤ} (RefusesGiven given) (RefusesNewType at (as_given note_type) c) fault (record { accepted = tt; refused = inr is })))

-- it is in its ranges
pub addition_ended : (k now : Keeping) (at : ℤ) (note_type : NoteType) (value : Unit {0}) (steps left : List Step) (result : Result ℤ DeskFault) → AnswersBy {T = Unit {0}} (RefusesGiven (with_id (pos 1) (as_given note_type))) (Ok value)
    → EndsAddition (new_type at (as_given note_type)) k now steps left result → EndsAddition (given_type at note_type) k now steps left result
addition_ended k now at note_type value steps left result passes ends = record {
  done = ends.done;
  id = ends.id;
  same = ends.same;
  kept = ends.kept;
  stays = ends.stays;
  answers = where_held-map k (λ c. AnswersBy (RefusesNewType at (as_given note_type) c) result) (λ c. AnswersBy (RefusesTypeAddition at note_type c) result)
      (λ c is. passed_first (RefusesGiven (with_id (pos 1) (as_given note_type))) (RefusesNewType at (as_given note_type) c) value result passes is) ends.answers;
}

-- ---- what it may answer
pub end_listed : (result : Result ℤ DeskFault) → IfErr result IsEndFault → IfErr result IsAdditionFault
end_listed (Ok id) listed = tt
end_listed (Err fault) listed = inr (inr listed)

pub id_listed : (fault : DeskFault) → IsFromOutside fault ⊎ (fault ≡ faults.IdEnd) → IsAdditionFault fault
id_listed fault either = elim either [ inl outside ↦ inr (inr (inl outside)) | inr is ↦ inl is ]

pub side_listed : (fault : DeskFault) → IsSideFault fault → IsAdditionFault fault
side_listed fault either = elim either [ inl is ↦ inr (inl is) | inr is ↦ inr (inr (inl (inr is))) ]

pub given_listed : (note_type : NoteType) (fault : DeskFault) → RefusesGiven note_type fault → IsAdditionFault fault
given_listed note_type fault is = inr (inr (inr (inl (is.0, is.2))))

-- ---- causes
given_not_failed : (given : RowFault) → faults.Row given ≡ faults.Failed → ⊥
given_not_failed given is = cc

pub given_cause : {T : Type 0} (a : Health) (note_type : NoteType) (fault : DeskFault) → RefusesGiven note_type fault → DeskCause {T = T} a a (Err fault)
given_cause a note_type fault refuses = no_cause_here a fault (λ is. given_not_failed refuses.0 (sym refuses.2 ∙ is))

side_not_failed : (side : TemplateFault) → faults.Template side ≡ faults.Failed → ⊥
side_not_failed side is = cc

memory_not_failed : faults.Memory ≡ faults.Failed → ⊥
memory_not_failed is = cc

-- of a side that can't be read
pub unread : (fault : DeskFault) → IsSideFault fault → fault ≡ faults.Failed → ⊥
unread fault either failed = elim either [ inl is ↦ side_not_failed is.0 (sym is.1 ∙ failed) | inr is ↦ memory_not_failed (sym is ∙ failed) ]

-- ---- the id
-- a type under another id that is in its range
pub checked_with_id : (note_type : NoteType) (id : ℤ) → IsId id → IsCheckedNoteType (as_given note_type) → IsCheckedNoteType (as_given (with_id id note_type))
unfolding title_faults form_faults
checked_with_id note_type id range checked =
    let before : NoteType = as_given note_type in
    let after : NoteType = as_given (with_id id note_type) in
    let all = faultless_of (title_faults before ++ form_faults before) checked in
    of_faultless (title_faults after ++ form_faults after) (id_fits id range, all.1)
