-- What it says that texts which are given have no fault.
use Rattle.std.specs.Prelude.{◌≡◌, ℕ, pos, Bool, true, false, ◌==◌, nat_lt, if◌then◌else◌, List, [], ◌∷◌, length, Option, Some, None, Ok, Err}
use Rattle.std.proofs.Common.{arith, inr, refl, sym, ◌∙◌}
use Rattle.std.proofs.lemmas.Option.{none-some}
use Rattle.std.specs.List.{AllByRecursion, list_any}
use Rattle.std.specs.Option.{option_or}
use Rattle.ak_base.specs.declared.errors.RowFault.{RowFault}
use Rattle.ak_base.specs.declared.errors.RowFault.TheVariants.{BadCode, TooLong}
use Rattle.ak_base.specs.declared.note_types.NoteType.{NoteType}
use Rattle.ak_edit.specs.Refusals.{AnswersBy}
use Rattle.ak_edit.specs.declared.desk_faults.DeskFault.TheVariants as faults
use Rattle.ak_merge.proofs.EditFacts.{false_true}
use Rattle.ak_merge.specs.Tags.{IsTagName}
use Rattle.ak_notes.specs.GivenTexts.{RefusesCount, RefusesTexts, fields_fault, given_fault, is_space_or_less, tag_fault, tags_fault}

first_none : {A : Type 0} (x y : Option A) → option_or x y ≡ None → x ≡ None
first_none None y is = refl
first_none (Some a) y is = absurd (none-some a (sym is))

second_none : {A : Type 0} (x y : Option A) → option_or x y ≡ None → y ≡ None
second_none None y is = is
second_none (Some a) y is = absurd (none-some a (sym is))

named_by : (tag : List ℕ) (empty long low : Bool) → (length tag == 0) ≡ empty → nat_lt 512 (length tag) ≡ long
    → (if empty then Some (BadCode 5 (pos 0)) else if long then Some (TooLong 5 (length tag)) else if low then Some (BadCode 5 (pos 0)) else None) ≡ None → IsTagName tag
named_by tag true long low e l none = absurd (none-some (BadCode 5 (pos 0)) (sym none))
named_by tag false true low e l none = absurd (none-some (TooLong 5 (length tag)) (sym none))
named_by tag false false low e l none = record { some = grind (arith, e); short = grind (arith, l) }

named_tag : (tag : List ℕ) → tag_fault tag ≡ None → IsTagName tag
named_tag tag none = named_by tag (length tag == 0) (nat_lt 512 (length tag)) (list_any is_space_or_less tag) refl refl none

named_tags : (tags : List (List ℕ)) → tags_fault tags ≡ None → AllByRecursion IsTagName tags
named_tags [] none = tt
named_tags (tag ∷ tags) none = (named_tag tag (first_none (tag_fault tag) (tags_fault tags) none), named_tags tags (second_none (tag_fault tag) (tags_fault tags) none))

-- tags without a fault are names of tags
pub given_names : (fields tags : List (List ℕ)) → given_fault fields tags ≡ None → AllByRecursion IsTagName tags
given_names fields tags none = named_tags tags (first_none (tags_fault tags) (fields_fault fields) none)

-- no fault refuses nothing
pub texts_none : (fields tags : List (List ℕ)) → given_fault fields tags ≡ None → AnswersBy {T = Unit {0}} (RefusesTexts fields tags) (Ok tt)
texts_none fields tags none = record { accepted = λ fault refuses. none-some refuses.0 (sym none ∙ refuses.1); refused = tt }

pub texts_some : (fields tags : List (List ℕ)) (row : RowFault) → given_fault fields tags ≡ Some row → AnswersBy {T = Unit {0}} (RefusesTexts fields tags) (Err (faults.Row row))
texts_some fields tags row is = record { accepted = tt; refused = inr (row, is, refl) }

-- as many fields as the type has refuse nothing
pub count_same : (note_type : NoteType) (fields : List (List ℕ)) → (length fields == length note_type.fields) ≡ true → AnswersBy {T = Unit {0}} (RefusesCount note_type fields) (Ok tt)
count_same note_type fields same = record { accepted = λ fault refuses. false_true (sym refuses.0 ∙ same); refused = tt }

pub count_other : (note_type : NoteType) (fields : List (List ℕ)) → (length fields == length note_type.fields) ≡ false
    → AnswersBy {T = Unit {0}} (RefusesCount note_type fields) (Err (faults.FieldCount (length note_type.fields) (length fields)))
count_other note_type fields other = record { accepted = tt; refused = inr (other, refl) }
