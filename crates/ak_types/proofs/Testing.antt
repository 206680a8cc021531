-- Tests that follow one another, over rows that are told.
use Rattle.std.specs.Prelude.{◌≡◌, ℤ, Bool, true, false, not, Result, Ok, Err}
use Rattle.std.proofs.Common.{refl, sym, inl, inr, ◌∙◌}
use Rattle.ak_edit_calls.proofs.Telling.{where_always}
use Rattle.ak_base.specs.declared.names.Table.TheVariants as tables
use Rattle.ak_base.specs.declared.note_types.NoteType.{NoteType}
use Rattle.ak_edit_calls.proofs.Answering.{passed_first, refused_first}
use Rattle.ak_edit.specs.Refusals.{AnswersBy, OrElse, Refusal}
use Rattle.ak_edit.specs.declared.desk_faults.DeskFault.{DeskFault}
use Rattle.ak_edit.specs.declared.desk_faults.DeskFault.TheVariants as faults
use Rattle.ak_edit_calls.specs.Calls.{RefusesSchema}
use Rattle.ak_keep.proofs.Told.{where_told-map}
use Rattle.ak_keep.specs.Collections.{Rows}
use Rattle.ak_keep.specs.Keepers.{Keeping, WhereTold}
use Rattle.ak_merge.proofs.EditFacts.{false_true, true_false}
use Rattle.ak_merge.specs.Holdings.{name_in}
use Rattle.ak_types.specs.GivenTypes.{RefusesUsed, has_notes}
use Rattle.ak_types.specs.TypeDeletions.{RefusesKept}
use Rattle.ak_types.specs.TypeEdits.{RefusesOtherKind}
use Rattle.ak_types.specs.declared.type_edits.TypeEdit.{TypeEdit}

-- a first test that asks no rows refuses
pub plain_refuses : (T U : Type 0) (k : Keeping) (first : Refusal) (others : Rows → Refusal) (fault : DeskFault) → AnswersBy {T = T} first (Err fault)
    → WhereTold k (λ h. AnswersBy {T = U} (OrElse first (others h.rows)) (Err fault))
plain_refuses T U k first others fault answers =
    where_always k (λ h. AnswersBy {T = U} (OrElse first (others h.rows)) (Err fault)) (λ h. refused_first {T = T} {U = U} first (others h.rows) fault answers)

-- it passes
pub plain_passes : {T U : Type 0} (k : Keeping) (first : Refusal) (others : Rows → Refusal) (value : T) (result : Result U DeskFault) → AnswersBy first (Ok value)
    → WhereTold k (λ h. AnswersBy (others h.rows) result) → WhereTold k (λ h. AnswersBy (OrElse first (others h.rows)) result)
plain_passes k first others value result passes =
    where_told-map k (λ h. AnswersBy (others h.rows) result) (λ h. AnswersBy (OrElse first (others h.rows)) result) (λ h answers. passed_first first (others h.rows) value result passes answers)

-- a first test of the rows refuses
pub rows_refuse : (T U : Type 0) (k : Keeping) (first : Rows → Refusal) (others : Refusal) (fault : DeskFault) → WhereTold k (λ h. AnswersBy {T = T} (first h.rows) (Err fault))
    → WhereTold k (λ h. AnswersBy {T = U} (OrElse (first h.rows) others) (Err fault))
rows_refuse T U k first others fault =
    where_told-map k (λ h. AnswersBy {T = T} (first h.rows) (Err fault)) (λ h. AnswersBy {T = U} (OrElse (first h.rows) others) (Err fault))
    (λ h answers. refused_first {T = T} {U = U} (first h.rows) others fault answers)

-- it passes
pub rows_pass : {T U : Type 0} (k : Keeping) (first : Rows → Refusal) (others : Refusal) (value : T) (result : Result U DeskFault) → WhereTold k (λ h. AnswersBy (first h.rows) (Ok value))
    → AnswersBy others result → WhereTold k (λ h. AnswersBy (OrElse (first h.rows) others) result)
rows_pass k first others value result passes answers =
    where_told-map k (λ h. AnswersBy (first h.rows) (Ok value)) (λ h. AnswersBy (OrElse (first h.rows) others) result) (λ h is. passed_first (first h.rows) others value result is answers) passes

-- ---- the kind of cards
not_itself : (b : Bool) → b ≡ not b → ⊥
not_itself true is = true_false is
not_itself false is = false_true is

-- of one kind
pub same_kind : (k : Keeping) (given : TypeEdit) (old : NoteType) (value : Unit {0}) → given.note_type.cloze ≡ old.cloze → WhereTold k (λ h. AnswersBy {T = Unit {0}} (RefusesOtherKind given old h.rows) (Ok value))
same_kind k given old value same =
    where_always k (λ h. AnswersBy {T = Unit {0}} (RefusesOtherKind given old h.rows) (Ok value))
    (λ h. record { accepted = λ fault refuses. not_itself old.cloze (sym same ∙ refuses.0); refused = tt })

-- of another kind, and a note has the type
pub kind_used : (k : Keeping) (given : TypeEdit) (old : NoteType) → given.note_type.cloze ≡ not old.cloze → WhereTold k (λ h. true ≡ has_notes given.note_type.id h.rows)
    → WhereTold k (λ h. AnswersBy {T = Unit {0}} (RefusesOtherKind given old h.rows) (Err (faults.InUse (name_in tables.NoteType given.note_type.id))))
kind_used k given old other =
    where_told-map k (λ h. true ≡ has_notes given.note_type.id h.rows) (λ h. AnswersBy {T = Unit {0}} (RefusesOtherKind given old h.rows) (Err (faults.InUse (name_in tables.NoteType given.note_type.id))))
    (λ h is. record { accepted = tt; refused = inr (other, (sym is, refl)) })

-- no note has the type
pub kind_unused : (k : Keeping) (given : TypeEdit) (old : NoteType) (value : Unit {0}) → WhereTold k (λ h. false ≡ has_notes given.note_type.id h.rows)
    → WhereTold k (λ h. AnswersBy {T = Unit {0}} (RefusesOtherKind given old h.rows) (Ok value))
kind_unused k given old value =
    where_told-map k (λ h. false ≡ has_notes given.note_type.id h.rows) (λ h. AnswersBy {T = Unit {0}} (RefusesOtherKind given old h.rows) (Ok value))
    (λ h is. record { accepted = λ fault refuses. false_true (is ∙ refuses.1.0); refused = tt })

pub other_of : (a b same : Bool) → (a ≡ b → same ≡ true) → same ≡ false → a ≡ not b
other_of true true same is differs = true_false (sym (is refl) ∙ differs)
other_of true false same is differs = refl
other_of false true same is differs = refl
other_of false false same is differs = true_false (sym (is refl) ∙ differs)

-- ---- what keeps a type
pub kept_used : (k : Keeping) (id : ℤ) (allow : Bool) → WhereTold k (λ h. true ≡ has_notes id h.rows)
    → WhereTold k (λ h. AnswersBy {T = Unit {0}} (RefusesKept id allow h.rows) (Err (faults.InUse (name_in tables.NoteType id))))
kept_used k id allow =
    where_told-map k (λ h. true ≡ has_notes id h.rows) (λ h. AnswersBy {T = Unit {0}} (RefusesKept id allow h.rows) (Err (faults.InUse (name_in tables.NoteType id))))
    (λ h is. record { accepted = tt; refused = inr (inl (sym is, refl)) })

pub unused_schema : {T : Type 0} (k : Keeping) (id : ℤ) (allow : Bool) (result : Result T DeskFault) → WhereTold k (λ h. false ≡ has_notes id h.rows) → AnswersBy (RefusesSchema allow) result
    → WhereTold k (λ h. AnswersBy (RefusesKept id allow h.rows) result)
unused_schema {T} k id allow result unused answers =
    where_told-map k (λ h. false ≡ has_notes id h.rows) (λ h. AnswersBy (RefusesKept id allow h.rows) result)
    (λ h is. passed_first {T = Bool} {U = T} (RefusesUsed id h.rows) (RefusesSchema allow) true result (record { accepted = λ fault refuses. false_true (is ∙ refuses.0); refused = tt }) answers) unused

pub schema_refuses : (allow : Bool) → allow ≡ false → AnswersBy {T = Unit {0}} (RefusesSchema allow) (Err faults.SchemaAsk)
schema_refuses allow is = record { accepted = tt; refused = inr (is, refl) }

pub schema_passes : (allow : Bool) (value : Unit {0}) → allow ≡ true → AnswersBy {T = Unit {0}} (RefusesSchema allow) (Ok value)
schema_passes allow value is = record { accepted = λ fault refuses. false_true (sym refuses.0 ∙ is); refused = tt }
