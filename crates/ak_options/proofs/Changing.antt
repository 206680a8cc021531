-- A group of options in place of another: what the call answers.
use Rattle.std.specs.Prelude.{◌≡◌, ℤ, List, Result, Ok, Err}
use Rattle.std.specs.Result.{IsErrAnd}
use Rattle.std.proofs.Common.{refl, sym, ap, subst, inr}
use Rattle.std.specs.FinMap.{get}
use Rattle.ak_base.specs.declared.names.Table.TheVariants as tables
use Rattle.ak_base.specs.declared.option_groups.Options.{Options}
use Rattle.ak_base.specs.declared.rows.Row.{Row}
use Rattle.ak_base.specs.declared.rows.Row.TheVariants as rows
use Rattle.ak_edit.specs.Ends.{RefusesStamp}
use Rattle.ak_edit.specs.Refusals.{AnswersBy, OrElse}
use Rattle.ak_edit.specs.declared.desk_faults.DeskFault.{DeskFault}
use Rattle.ak_edit_calls.proofs.Answering.{passed_first, refused_first}
use Rattle.ak_edit_calls.proofs.Telling.{where_held-both, where_held-map, where_rows_held}
use Rattle.ak_edit_calls.specs.Calls.{EndsEdit, RefusesAbsent}
use Rattle.ak_edit_calls.specs.RowEdits.{RefusesRowEdit, row_edit}
use Rattle.ak_keep.specs.Keepers.{Keeping, WhereHeld, WhereTold}
use Rattle.ak_merge.specs.Holdings.{name_in}
use Rattle.ak_options.specs.OptionGroups.{RefusesChange, RefusesGiven, RefusesNoGroup, as_given, options_change}
use Rattle.ak_undo.specs.declared.steps.Step.{Step}

-- a refusal of what was given
pub given_answers : {T : Type 0} (group : Options) (fault : DeskFault) → RefusesGiven group fault → AnswersBy {T = T} (RefusesGiven group) (Err fault)
given_answers group fault is = record { accepted = tt; refused = inr is }

-- the group is not held
change_absent : (k : Keeping) (at : ℤ) (options : Options) (fault : DeskFault)
    → WhereTold k (λ h. AnswersBy {T = Row} (RefusesAbsent (get h.rows) (name_in tables.Options options.id)) (Err fault))
    → WhereHeld k (λ c. AnswersBy {T = Unit {0}} (RefusesChange at options c) (Err fault))
change_absent k at options fault refuses =
    where_held-map k (λ c. AnswersBy {T = Row} (RefusesNoGroup options.id c) (Err fault)) (λ c. AnswersBy {T = Unit {0}} (RefusesChange at options c) (Err fault))
    (λ c is. refused_first (RefusesNoGroup options.id c) (OrElse (RefusesGiven (as_given options)) (RefusesStamp at c (options_change options c))) fault is)
    (where_rows_held k (λ held. AnswersBy {T = Row} (RefusesAbsent (get held) (name_in tables.Options options.id)) (Err fault)) refuses)

-- the group is held, and the given one is out of its ranges
pub change_given : (k : Keeping) (at : ℤ) (options : Options) (row : Row) (fault : DeskFault)
    → WhereTold k (λ h. AnswersBy {T = Row} (RefusesAbsent (get h.rows) (name_in tables.Options options.id)) (Ok row))
    → RefusesGiven (as_given options) fault → WhereHeld k (λ c. AnswersBy {T = Unit {0}} (RefusesChange at options c) (Err fault))
change_given k at options row fault held is =
    where_held-map k (λ c. AnswersBy {T = Row} (RefusesNoGroup options.id c) (Ok row)) (λ c. AnswersBy {T = Unit {0}} (RefusesChange at options c) (Err fault))
    (λ c passes. passed_first (RefusesNoGroup options.id c) (OrElse (RefusesGiven (as_given options)) (RefusesStamp at c (options_change options c))) row (let r : Result (Unit {0}) DeskFault = Err fault in r) passes
    (refused_first {T = Unit {0}} (RefusesGiven (as_given options)) (RefusesStamp at c (options_change options c)) fault (given_answers (as_given options) fault is)))
    (where_rows_held k (λ held. AnswersBy {T = Row} (RefusesAbsent (get held) (name_in tables.Options options.id)) (Ok row)) held)

-- both tests pass
change_answered : (k : Keeping) (at : ℤ) (options : Options) (row : Row) (value : Unit {0}) (result : Result (Unit {0}) DeskFault)
    → WhereTold k (λ h. AnswersBy {T = Row} (RefusesAbsent (get h.rows) (name_in tables.Options options.id)) (Ok row))
    → AnswersBy {T = Unit {0}} (RefusesGiven (as_given options)) (Ok value)
    → WhereHeld k (λ c. AnswersBy (RefusesRowEdit at (rows.Options (as_given options)) c) result) → WhereHeld k (λ c. AnswersBy (RefusesChange at options c) result)
change_answered k at options row value result held given =
    where_held-both k (λ c. AnswersBy {T = Row} (RefusesNoGroup options.id c) (Ok row)) (λ c. AnswersBy (RefusesRowEdit at (rows.Options (as_given options)) c) result)
    (λ c. AnswersBy (RefusesChange at options c) result)
    (λ c passes answers. passed_first (RefusesNoGroup options.id c) (OrElse (RefusesGiven (as_given options)) (RefusesStamp at c (options_change options c))) row result passes
    (passed_first (RefusesGiven (as_given options)) (RefusesStamp at c (options_change options c)) value result given answers))
    (where_rows_held k (λ held. AnswersBy {T = Row} (RefusesAbsent (get held) (name_in tables.Options options.id)) (Ok row)) held)

-- ---- the end of the call
pub change_ended : (k now : Keeping) (at : ℤ) (options : Options) (row : Row) (value : Unit {0}) (steps left : List Step) (result : Result (Unit {0}) DeskFault)
    → WhereTold k (λ h. AnswersBy {T = Row} (RefusesAbsent (get h.rows) (name_in tables.Options options.id)) (Ok row))
    → AnswersBy {T = Unit {0}} (RefusesGiven (as_given options)) (Ok value)
    → EndsEdit at (row_edit (rows.Options (as_given options))) (RefusesRowEdit at (rows.Options (as_given options))) k now steps left result
    → EndsEdit at (options_change options) (RefusesChange at options) k now steps left result
change_ended k now at options row value steps left result held given ends = record {
  done = ends.done;
  same = ends.same;
  kept = ends.kept;
  stays = ends.stays;
  answers = change_answered k at options row value result held given ends.answers;
}

-- a refusal before the end leaves all as it was
pub change_kept : (k now : Keeping) (at : ℤ) (options : Options) (fault : DeskFault) (steps : List Step) → now ≡ k → WhereHeld k (λ c. AnswersBy {T = Unit {0}} (RefusesChange at options c) (Err fault))
    → EndsEdit {T = Unit {0}} at (options_change options) (RefusesChange at options) k now steps steps (Err fault)
change_kept k now at options fault steps same answers = record {
  done = tt;
  same = same;
  kept = refl;
  stays = ap (λ (k : Keeping). k.headed) same;
  answers = answers;
}

-- the group is not held, and the call ends with that refusal
pub change_stopped : (k now : Keeping) (at : ℤ) (options : Options) (result : Result (Unit {0}) DeskFault) (fault : DeskFault) (steps : List Step) → IsErrAnd result (λ other. other ≡ fault) → now ≡ k
    → WhereTold k (λ h. AnswersBy {T = Row} (RefusesAbsent (get h.rows) (name_in tables.Options options.id)) (Err fault))
    → EndsEdit at (options_change options) (RefusesChange at options) k now steps steps result
change_stopped k now at options (Ok value) fault steps is same refuses = absurd is
change_stopped k now at options (Err other) fault steps is same refuses =
    subst (λ (f : DeskFault). EndsEdit {T = Unit {0}} at (options_change options) (RefusesChange at options) k now steps steps (Err f)) (sym is)
    (change_kept k now at options fault steps same (change_absent k at options fault refuses))
