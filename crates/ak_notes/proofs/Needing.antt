-- The tests with a row that a call needs, and tests that follow one another over what is told.
use Rattle.std.specs.Prelude.{◌≡◌, Option, Some, None, Result, Ok, Err}
use Rattle.std.proofs.Common.{sym, subst, inl, inr}
use Rattle.ak_base.specs.declared.names.Name.{Name}
use Rattle.ak_edit.specs.Refusals.{AnswersBy, OrElse, Refusal}
use Rattle.ak_edit.specs.declared.desk_faults.DeskFault.{DeskFault}
use Rattle.ak_edit_calls.proofs.Answering.{passed_first, refused_first}
use Rattle.ak_edit_calls.proofs.Telling.{where_always, where_told-both}
use Rattle.ak_keep.proofs.Told.{where_told-map}
use Rattle.ak_keep.specs.Collections.{Rows}
use Rattle.ak_keep.specs.Keepers.{Keeping, WhereTold}
use Rattle.ak_notes.specs.MadeNotes.{IsMissingIn, NeedsHeld}

-- the row is not held
pub needs_none : {A : Type 0} (T : Type 0) (k : Keeping) (row : Rows → Option A) (name : Name) (tests : Rows → A → Refusal) (fault : DeskFault) → IsMissingIn k row name fault
    → WhereTold k (λ h. AnswersBy {T = T} (NeedsHeld (row h.rows) name (tests h.rows)) (Err fault))
needs_none {A} T k row name tests fault missing =
    elim missing [
      | inl outside ↦ where_always k (λ h. AnswersBy {T = T} (NeedsHeld (row h.rows) name (tests h.rows)) (Err fault)) (λ h. record { accepted = tt; refused = inl outside })
      | inr is ↦ where_told-map k (λ h. row h.rows ≡ None) (λ h. AnswersBy {T = T} (NeedsHeld (row h.rows) name (tests h.rows)) (Err fault))
          (λ h none. record { accepted = tt; refused = inr (subst (λ (o : Option A). NeedsHeld o name (tests h.rows) fault) (sym none) is.1) }) is.0
    ]

-- the row is held
pub needs_answer : {A T : Type 0} (k : Keeping) (row : Rows → Option A) (held : A) (name : Name) (tests : Rows → A → Refusal) (result : Result T DeskFault)
    → WhereTold k (λ h. row h.rows ≡ Some held) → WhereTold k (λ h. AnswersBy (tests h.rows held) result) → WhereTold k (λ h. AnswersBy (NeedsHeld (row h.rows) name (tests h.rows)) result)
needs_answer {A} {T} k row held name tests result =
    where_told-both k (λ h. row h.rows ≡ Some held) (λ h. AnswersBy (tests h.rows held) result) (λ h. AnswersBy (NeedsHeld (row h.rows) name (tests h.rows)) result)
    (λ h is answers. subst (λ (o : Option A). AnswersBy (NeedsHeld o name (tests h.rows)) result) (sym is) answers)

-- a test that asks no rows refuses
pub test_refuses : {T : Type 0} (U : Type 0) (k : Keeping) (first : Refusal) (others : Rows → Refusal) (fault : DeskFault) → AnswersBy {T = T} first (Err fault)
    → WhereTold k (λ h. AnswersBy {T = U} (OrElse first (others h.rows)) (Err fault))
test_refuses {T} U k first others fault answers =
    where_always k (λ h. AnswersBy {T = U} (OrElse first (others h.rows)) (Err fault)) (λ h. refused_first first (others h.rows) fault answers)

-- it passes
pub test_passes : {T U : Type 0} (k : Keeping) (first : Refusal) (others : Rows → Refusal) (value : T) (result : Result U DeskFault) → AnswersBy first (Ok value)
    → WhereTold k (λ h. AnswersBy (others h.rows) result) → WhereTold k (λ h. AnswersBy (OrElse first (others h.rows)) result)
test_passes k first others value result passes =
    where_told-map k (λ h. AnswersBy (others h.rows) result) (λ h. AnswersBy (OrElse first (others h.rows)) result)
    (λ h answers. passed_first first (others h.rows) value result passes answers)

-- ---- the same tests of another value
-- they accept whatever is answered
pub other_answer : {T U : Type 0} (tests : Refusal) (value : T) (other : U) → AnswersBy {T = T} tests (Ok value) → AnswersBy {T = U} tests (Ok other)
other_answer tests value other answers = record { accepted = answers.accepted; refused = tt }

pub other_refusal : {T U : Type 0} (tests : Refusal) (fault : DeskFault) → AnswersBy {T = T} tests (Err fault) → AnswersBy {T = U} tests (Err fault)
other_refusal tests fault answers = record { accepted = tt; refused = answers.refused }

-- the same of what is told
pub told_answer : {T U : Type 0} (k : Keeping) (tests : Rows → Refusal) (value : T) (other : U) → WhereTold k (λ h. AnswersBy {T = T} (tests h.rows) (Ok value))
    → WhereTold k (λ h. AnswersBy {T = U} (tests h.rows) (Ok other))
told_answer {T} {U} k tests value other =
    where_told-map k (λ h. AnswersBy {T = T} (tests h.rows) (Ok value)) (λ h. AnswersBy {T = U} (tests h.rows) (Ok other)) (λ h answers. other_answer (tests h.rows) value other answers)

pub told_refusal : (T U : Type 0) (k : Keeping) (tests : Rows → Refusal) (fault : DeskFault) → WhereTold k (λ h. AnswersBy {T = T} (tests h.rows) (Err fault))
    → WhereTold k (λ h. AnswersBy {T = U} (tests h.rows) (Err fault))
told_refusal T U k tests fault =
    where_told-map k (λ h. AnswersBy {T = T} (tests h.rows) (Err fault)) (λ h. AnswersBy {T = U} (tests h.rows) (Err fault)) (λ h answers. other_refusal (tests h.rows) fault answers)
