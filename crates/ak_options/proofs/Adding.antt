-- A group of options that is added: what the call answers.
use Rattle.std.specs.Prelude.{◌≡◌, ◌++◌, ℤ, pos, List, Result, Ok, Err, IfErr, IfOk}
use Rattle.std.proofs.Common.{refl, sym, ◌∙◌, inr}
use Rattle.std.specs.FinMap.{get}
use Rattle.ak_base.specs.OptionGroups.{IsCheckedOptions, general_faults, new_faults, rev_faults, lapse_faults}
use Rattle.ak_base.specs.declared.errors.RowFault.{RowFault}
use Rattle.ak_base.specs.declared.names.Name.{Name}
use Rattle.ak_base.specs.declared.names.Table.TheVariants as tables
use Rattle.ak_base.specs.declared.option_groups.Options.{Options}
use Rattle.ak_base.specs.declared.rows.Row.TheVariants as rows
use Rattle.ak_edit.specs.Refusals.{AnswersBy, DeskCause, IsEndFault}
use Rattle.ak_edit.specs.declared.desk_faults.DeskFault.{DeskFault}
use Rattle.ak_edit.specs.declared.desk_faults.DeskFault.TheVariants as faults
use Rattle.ak_edit_calls.proofs.Adding.{kept_as_is, row_added}
use Rattle.ak_edit_calls.proofs.Answering.{passed_first, refused_first}
use Rattle.ak_edit_calls.proofs.CheckedRows.{of_faultless}
use Rattle.ak_edit_calls.proofs.Ids.{id_fits}
use Rattle.ak_edit_calls.proofs.Taking.{no_cause_here, where_held-all}
use Rattle.ak_edit_calls.proofs.Telling.{where_held-map, where_rows_held}
use Rattle.ak_edit_calls.specs.Additions.{EndsAddition, RefusesNewStamp}
use Rattle.ak_edit_calls.specs.Calls.{EndsEdit}
use Rattle.ak_edit_calls.specs.NewNames.{IsNewName, RefusesId}
use Rattle.ak_edit_calls.specs.RowEdits.{RefusesRowEdit, row_edit}
use Rattle.ak_faults.specs.Causes.{Health}
use Rattle.ak_keep.specs.Collections.{IsId}
use Rattle.ak_keep.specs.Keepers.{Keeping, WhereTold}
use Rattle.ak_merge.proofs.CheckedRows.{faultless_of}
use Rattle.ak_merge.specs.Holdings.{row_under}
use Rattle.ak_options.proofs.Changing.{given_answers}
use Rattle.ak_options.specs.OptionGroups.{IsAdditionFault, RefusesAddition, RefusesGiven, RefusesNewGroup, as_given, given_group, group_addition, new_group, with_id}
use Rattle.ak_undo.specs.declared.steps.Step.{Step}

-- ---- a group that is in its ranges
-- no id is free
pub group_full : (k now : Keeping) (at : ℤ) (group : Options) (fault : DeskFault) (steps : List Step) → now ≡ k → WhereTold k (λ h. AnswersBy {T = Name} (RefusesId at tables.Options (get h.rows)) (Err fault))
    → EndsAddition (new_group at group) k now steps steps (Err fault)
group_full k now at group fault steps same refuses =
    kept_as_is k now (new_group at group) fault steps same
    (where_held-map k (λ c. AnswersBy {T = Name} (RefusesId at tables.Options (row_under c)) (Err fault)) (λ c. AnswersBy {T = ℤ} (RefusesNewGroup at group c) (Err fault))
    (λ c is. refused_first (RefusesId at tables.Options (row_under c)) (RefusesNewStamp at tables.Options (group_addition group) c) fault is)
    (where_rows_held k (λ held. AnswersBy {T = Name} (RefusesId at tables.Options (get held)) (Err fault)) refuses))

-- the group was put under its new id, or its end was refused
pub group_ended : (k now : Keeping) (at : ℤ) (group : Options) (name : Name) (steps left : List Step) (result : Result ℤ DeskFault) → name.table ≡ tables.Options → WhereTold k (λ h. IsNewName at tables.Options (get h.rows) name)
    → WhereTold k (λ h. AnswersBy {T = Name} (RefusesId at tables.Options (get h.rows)) (Ok name)) → IfOk result (λ id. id ≡ name.id)
    → EndsEdit at (row_edit (rows.Options (with_id name.id group))) (RefusesRowEdit at (rows.Options (with_id name.id group))) k now steps left result
    → EndsAddition (new_group at group) k now steps left result
group_ended k now at group name steps left result =
    row_added k now (new_group at group) name steps left result
    (λ c given found answers. passed_first (RefusesId at tables.Options (row_under c)) (RefusesNewStamp at tables.Options (group_addition group) c) name given found.passes answers)

-- ---- a group that was given
-- it is out of its ranges
pub addition_given : (k : Keeping) (at : ℤ) (options : Options) (fault : DeskFault) (steps : List Step) → RefusesGiven (with_id (pos 1) (as_given options)) fault
    → EndsAddition (given_group at options) k k steps steps (Err fault)
addition_given k at options fault steps is =
    let given : Options = with_id (pos 1) (as_given options) in
    kept_as_is k k (given_group at options) fault steps refl
    (where_held-all k (λ c. AnswersBy {T = ℤ} (RefusesAddition at options c) (Err fault))
    (λ c. refused_first {T = ℤ} (RefusesGiven given) (RefusesNewGroup at (as_given options) c) fault (given_answers given fault is)))

-- it is in its ranges
pub addition_ended : (k now : Keeping) (at : ℤ) (options : Options) (value : Unit {0}) (steps left : List Step) (result : Result ℤ DeskFault) → AnswersBy {T = Unit {0}} (RefusesGiven (with_id (pos 1) (as_given options))) (Ok value)
    → EndsAddition (new_group at (as_given options)) k now steps left result → EndsAddition (given_group at options) k now steps left result
addition_ended k now at options value steps left result passes ends = record {
  done = ends.done;
  id = ends.id;
  same = ends.same;
  kept = ends.kept;
  stays = ends.stays;
  answers = where_held-map k (λ c. AnswersBy (RefusesNewGroup at (as_given options) c) result) (λ c. AnswersBy (RefusesAddition at options c) result)
      (λ c is. passed_first (RefusesGiven (with_id (pos 1) (as_given options))) (RefusesNewGroup at (as_given options) c) value result passes is) ends.answers;
}

-- ---- what it may answer
pub group_listed : (result : Result ℤ DeskFault) → IfErr result IsEndFault → IfErr result IsAdditionFault
group_listed (Ok id) listed = tt
group_listed (Err fault) listed = inr listed

-- a group under another id that is in its range
pub checked_with_id : (group : Options) (id : ℤ) → IsId id → IsCheckedOptions (as_given group) → IsCheckedOptions (as_given (with_id id group))
unfolding general_faults new_faults rev_faults lapse_faults
checked_with_id group id range checked =
    let before : Options = as_given group in
    let after : Options = as_given (with_id id group) in
    let all = faultless_of (general_faults before ++ (new_faults before ++ (rev_faults before ++ lapse_faults before))) checked in
    of_faultless (general_faults after ++ (new_faults after ++ (rev_faults after ++ lapse_faults after))) (id_fits id range, all.1)

-- ---- the cause
not_failed : (given : RowFault) → faults.Row given ≡ faults.Failed → ⊥
not_failed given is = cc

-- a refusal of what was given has no cause in the keeper
pub given_cause : {T : Type 0} (a : Health) (group : Options) (fault : DeskFault) → RefusesGiven group fault → DeskCause {T = T} a a (Err fault)
given_cause a group fault refuses = no_cause_here a fault (λ is. not_failed refuses.0 (sym refuses.2 ∙ is))
