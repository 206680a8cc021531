-- A deck with other options stays in its ranges, and what the call answers.
use Rattle.std.specs.Prelude.{◌≡◌, ◌⊎◌, ℤ, List, ◌++◌, Some, Result, Ok, Err, IfErr}
use Rattle.std.proofs.Common.{refl, ap, subst, inl, inr, arith}
use Rattle.std.specs.FinMap.{get}
use Rattle.std.specs.Result.{IsErrOf}
use Rattle.ak_base.specs.Decks.{title_faults, taken_faults}
use Rattle.ak_base.specs.Rows.{IsChecked, name_of}
use Rattle.ak_base.specs.declared.decks.Deck.{Deck}
use Rattle.ak_base.specs.declared.names.Table.TheVariants as tables
use Rattle.ak_base.specs.declared.rows.Row.{Row}
use Rattle.ak_base.specs.declared.rows.Row.TheVariants as rows
use Rattle.ak_decks.specs.DeckOptions.{IsUseFault, RefusesUnheld, RefusesUse, options_use, using_options}
use Rattle.ak_edit.specs.Ends.{RefusesStamp}
use Rattle.ak_edit.specs.Refusals.{AnswersBy, DeskCause, IsEndFault, IsFromOutside}
use Rattle.ak_edit.specs.declared.desk_faults.DeskFault.{DeskFault}
use Rattle.ak_edit.specs.declared.desk_faults.DeskFault.TheVariants as faults
use Rattle.ak_edit_calls.proofs.Answering.{on_ok-map, passed_first, refused_first}
use Rattle.ak_edit_calls.proofs.CheckedRows.{of_faultless}
use Rattle.ak_edit_calls.proofs.Ids.{id_fits}
use Rattle.ak_edit_calls.proofs.RowRules.{row_change_done, row_change_is}
use Rattle.ak_edit_calls.proofs.Telling.{where_held-both, where_rows_held, where_told-both}
use Rattle.ak_edit_calls.specs.Calls.{DoesEdit, EndsEdit, RefusesAbsent}
use Rattle.ak_edit_calls.specs.RowEdits.{RefusesRowEdit, row_edit}
use Rattle.ak_faults.proofs.Healths.{goes_further}
use Rattle.ak_faults.specs.Causes.{GoesOn, Health}
use Rattle.ak_keep.specs.Collections.{Collection, IsId, Rows}
use Rattle.ak_keep.specs.Keepers.{Keeping, WhereHeld, WhereTold}
use Rattle.ak_merge.proofs.CheckedRows.{faultless_of}
use Rattle.ak_merge.specs.Edits.{Edit}
use Rattle.ak_merge.specs.Holdings.{name_in, row_under}
use Rattle.ak_undo.specs.declared.steps.Step.{Step}

-- ---- the row
pub checked_using : (options : ℤ) (row : Row) → IsId options → IsChecked row → IsChecked (using_options options row)
unfolding title_faults taken_faults
checked_using options (rows.Deck d) range checked =
    let all = faultless_of (title_faults d ++ taken_faults d) checked in
    let after : Deck = record d { options = options } in
    of_faultless (title_faults after ++ taken_faults after) (all.0, (all.1.0, (all.1.1.0, (all.1.1.1.0, (id_fits options range, all.1.1.1.1.1)))))
checked_using options (rows.Note n) range checked = checked
checked_using options (rows.Card c) range checked = checked
checked_using options (rows.Review r) range checked = checked
checked_using options (rows.NoteType t) range checked = checked
checked_using options (rows.Options o) range checked = checked
checked_using options (rows.Grave g) range checked = checked

-- it keeps its name
pub using_named : (options : ℤ) (row : Row) → name_of (using_options options row) ≡ name_of row
using_named options (rows.Deck d) = refl
using_named options (rows.Note n) = refl
using_named options (rows.Card c) = refl
using_named options (rows.Review r) = refl
using_named options (rows.NoteType t) = refl
using_named options (rows.Options o) = refl
using_named options (rows.Grave g) = refl

-- ---- the answer
-- the deck is held, as this row, and so are the options
record Passes (of of_group : ℤ) (held_deck group : Row) (held : Rows) : Type 0 where
  row : get held (name_in tables.Deck of) ≡ Some held_deck
  deck : AnswersBy {T = Row} (RefusesAbsent (get held) (name_in tables.Deck of)) (Ok held_deck)
  options : AnswersBy {T = Row} (RefusesAbsent (get held) (name_in tables.Options of_group)) (Ok group)

one_answers : (at options deck : ℤ) (row group : Row) (result : Result (Unit {0}) DeskFault) (c : Collection) → Passes deck options row group c.rows
    → AnswersBy (RefusesRowEdit at (using_options options row) c) result → AnswersBy (RefusesUse at options deck c) result
one_answers at options deck row group result c passes answers =
    let first = RefusesAbsent (row_under c) (name_in tables.Deck deck) in
    let second = RefusesAbsent (row_under c) (name_in tables.Options options) in
    passed_first (RefusesUnheld options deck c) (RefusesStamp at c (options_use options deck c)) group result
    (passed_first first second row (Ok group) passes.deck passes.options)
    (subst (λ (e : Edit). AnswersBy (RefusesStamp at c e) result) (row_change_is (name_in tables.Deck deck) (using_options options) c row passes.row) answers)

use_answered : (k : Keeping) (at options deck : ℤ) (row group : Row) (result : Result (Unit {0}) DeskFault)
    → WhereTold k (λ h. get h.rows (name_in tables.Deck deck) ≡ Some row)
    → WhereTold k (λ h. AnswersBy {T = Row} (RefusesAbsent (get h.rows) (name_in tables.Deck deck)) (Ok row))
    → WhereTold k (λ h. AnswersBy {T = Row} (RefusesAbsent (get h.rows) (name_in tables.Options options)) (Ok group))
    → WhereHeld k (λ c. AnswersBy (RefusesRowEdit at (using_options options row) c) result) → WhereHeld k (λ c. AnswersBy (RefusesUse at options deck c) result)
use_answered k at options deck row group result held one other =
    where_held-both k (λ c. Passes deck options row group c.rows) (λ c. AnswersBy (RefusesRowEdit at (using_options options row) c) result) (λ c. AnswersBy (RefusesUse at options deck c) result)
    (λ c passes answers. one_answers at options deck row group result c passes answers)
    (where_rows_held k (Passes deck options row group)
    (where_told-both k (λ h. get h.rows (name_in tables.Deck deck) ≡ Some row)
    (λ h. AnswersBy {T = Row} (RefusesAbsent (get h.rows) (name_in tables.Deck deck)) (Ok row) × AnswersBy {T = Row} (RefusesAbsent (get h.rows) (name_in tables.Options options)) (Ok group))
    (λ h. Passes deck options row group h.rows) (λ h row both. record { row = row; deck = both.0; options = both.1 }) held
    (where_told-both k (λ h. AnswersBy {T = Row} (RefusesAbsent (get h.rows) (name_in tables.Deck deck)) (Ok row))
    (λ h. AnswersBy {T = Row} (RefusesAbsent (get h.rows) (name_in tables.Options options)) (Ok group))
    (λ h. AnswersBy {T = Row} (RefusesAbsent (get h.rows) (name_in tables.Deck deck)) (Ok row) × AnswersBy {T = Row} (RefusesAbsent (get h.rows) (name_in tables.Options options)) (Ok group))
    (λ h x y. (x, y)) one other)))

-- the end of the call, by that of the edit of the row
pub use_ended : (k now : Keeping) (at options deck : ℤ) (row group : Row) (steps left : List Step) (result : Result (Unit {0}) DeskFault)
    → WhereTold k (λ h. get h.rows (name_in tables.Deck deck) ≡ Some row)
    → WhereTold k (λ h. AnswersBy {T = Row} (RefusesAbsent (get h.rows) (name_in tables.Deck deck)) (Ok row))
    → WhereTold k (λ h. AnswersBy {T = Row} (RefusesAbsent (get h.rows) (name_in tables.Options options)) (Ok group))
    → EndsEdit at (row_edit (using_options options row)) (RefusesRowEdit at (using_options options row)) k now steps left result
    → EndsEdit at (options_use options deck) (RefusesUse at options deck) k now steps left result
use_ended k now at options deck row group steps left result held one other ends = record {
  done = on_ok-map result (DoesEdit at (row_edit (using_options options row)) k now steps left) (DoesEdit at (options_use options deck) k now steps left)
      (row_change_done k now at (name_in tables.Deck deck) (using_options options) row steps left held) ends.done;
  same = ends.same;
  kept = ends.kept;
  stays = ends.stays;
  answers = use_answered k at options deck row group result held one other ends.answers;
}

-- the options are not held
pub use_refused : (k : Keeping) (at options deck : ℤ) (row : Row) (fault : DeskFault)
    → WhereTold k (λ h. AnswersBy {T = Row} (RefusesAbsent (get h.rows) (name_in tables.Deck deck)) (Ok row))
    → WhereTold k (λ h. AnswersBy {T = Row} (RefusesAbsent (get h.rows) (name_in tables.Options options)) (Err fault))
    → WhereHeld k (λ c. AnswersBy {T = Unit {0}} (RefusesUse at options deck c) (Err fault))
use_refused k at options deck row fault one other =
    where_held-both k (λ c. AnswersBy {T = Row} (RefusesAbsent (row_under c) (name_in tables.Deck deck)) (Ok row))
    (λ c. AnswersBy {T = Row} (RefusesAbsent (row_under c) (name_in tables.Options options)) (Err fault)) (λ c. AnswersBy {T = Unit {0}} (RefusesUse at options deck c) (Err fault))
    (λ c passes refuses. refused_first (RefusesUnheld options deck c) (RefusesStamp at c (options_use options deck c)) fault
    (passed_first (RefusesAbsent (row_under c) (name_in tables.Deck deck)) (RefusesAbsent (row_under c) (name_in tables.Options options)) row (let r : Result Row DeskFault = Err fault in r) passes refuses))
    (where_rows_held k (λ rows. AnswersBy {T = Row} (RefusesAbsent (get rows) (name_in tables.Deck deck)) (Ok row)) one)
    (where_rows_held k (λ rows. AnswersBy {T = Row} (RefusesAbsent (get rows) (name_in tables.Options options)) (Err fault)) other)

-- what it may answer
pub use_listed : (result : Result (Unit {0}) DeskFault) → IfErr result IsEndFault → IfErr result IsUseFault
use_listed (Ok value) listed = tt
use_listed (Err fault) listed = inr (inr listed)

pub unheld_listed : (options : ℤ) (fault : DeskFault) → IsFromOutside fault ⊎ (fault ≡ faults.NoSuch (name_in tables.Options options)) → IsUseFault fault
unheld_listed options fault either = elim either [ inl outside ↦ inr (inr (inl outside)) | inr is ↦ inr (inl (options, is)) ]

-- ---- the cause
abbrev error_in : {T : Type 0} → DeskFault → Result T DeskFault → DeskFault
error_in other (Ok value) = other
error_in other (Err fault) = fault

-- a refusal by one fault, of a call that gives something else
same_refusal : {T U : Type 0} (fault other : DeskFault) → IsErrOf {T = T} (Err fault) other → IsErrOf {T = U} (Err fault) other
same_refusal fault other is = ap Err (ap (error_in fault) is)

pub second_cause : (a b c : Health) (fault : DeskFault) → GoesOn a b → DeskCause {T = Row} b c (Err fault) → DeskCause {T = Unit {0}} a c (Err fault)
second_cause a b c fault goes cause = record {
  goes = goes_further goes cause.goes;
  failed = λ is. let rose = cause.failed (same_refusal fault faults.Failed is) in omega (arith, rose, goes.later);
  unfailed = λ calm is. cause.unfailed (goes.calm calm) (same_refusal fault faults.Failed is);
}
