-- Many rows removed by one edit, and the undo list after an edit.
use Rattle.ak_base.specs.declared.heads.Tag.{Tag}
use Rattle.ak_base.specs.declared.names.Name.{Name}
use Rattle.ak_base.specs.declared.names.Table.TheVariants as tables
use Rattle.ak_base.specs.declared.rows.Row.{Row}
use Rattle.ak_keep.specs.Collections.{Collection}
use Rattle.ak_merge.proofs.EditLaws.{edits_keep_single}
use Rattle.ak_merge.proofs.ReversalLists.{lists_suit}
use Rattle.ak_merge.specs.EditBuilding.{without_rows, MaySweep}
use Rattle.ak_merge.specs.Edits.{Edit, Admits, Reversal, reversal_of}
use Rattle.ak_keep.specs.Graves.{RowsByName}
use Rattle.ak_merge.specs.Holdings.{row_under, name_in, AreNamed, IsSingle}
use Rattle.ak_merge.specs.Undoing.{IsEdit, IsListAfter, StepsSuit}
use Rattle.std.proofs.lemmas.Option.{none-some}
use Rattle.std.specs.Option.{option_and_then}
use Rattle.std.specs.Prelude.{◌≡◌, ℕ, zero, suc, ℤ, Bool, true, false, if◌then◌else◌, List, [], ◌∷◌, take, Option, Some, None}
use Rattle.std.proofs.Common.{refl, sym, ap, subst, ◌∙◌, inl, inr}

-- ---- many rows removed
-- what is left was there
left : (gone : Row → Bool) (o : Option Row) (row : Row) → option_and_then (λ (r : Row). if gone r then None else Some r) o ≡ Some row → o ≡ Some row
left gone None row is = is
left gone (Some x) row is = elim (gone x) as (λ b. (if b then None else Some x) ≡ Some row → Some x ≡ Some row) [ true ↦ λ is. absurd (none-some row is) | false ↦ λ is. is ] is

-- a row that is not gone is left
stays : (gone : Row → Bool) (o : Option Row) (row : Row) → o ≡ Some row → gone row ≡ false → option_and_then (λ (r : Row). if gone r then None else Some r) o ≡ Some row
stays gone o row is no_match =
    ap (option_and_then (λ (r : Row). if gone r then None else Some r)) is ∙ ap (λ b. if b then None else Some row) no_match

-- of a kind that is never gone, nothing is gone
none_gone : (gone : Row → Bool) (o : Option Row) → ((row : Row) → o ≡ Some row → gone row ≡ false) → option_and_then (λ (r : Row). if gone r then None else Some r) o ≡ None → o ≡ None
none_gone gone None never none = refl
none_gone gone (Some x) never none = absurd (none-some x (sym (sym (ap (λ b. if b then None else Some x) (never x refl)) ∙ none)))

pub sweeps_are_admitted : (c : Collection) (edit : Edit) (gone : Row → Bool) → Admits c edit → MaySweep edit.schema gone → Admits c (without_rows gone edit)
sweeps_are_admitted c edit gone admits may = record {
  named = λ name row is. admits.named name row (left gone (edit.rows name) row is);
  free = λ name row none is. admits.free name row none (left gone (edit.rows name) row is);
  reviews = λ id row held.
      let there : edit.rows (name_in tables.Review id) ≡ Some row = admits.reviews id row held in
      stays gone (edit.rows (name_in tables.Review id)) row there (may.review row (ap (λ (n : Name). n.table) (admits.named (name_in tables.Review id) row there)));
  types = λ id same none. admits.types id same (none_gone gone (edit.rows (name_in tables.NoteType id))
      (λ row is. may.note_type row same (ap (λ (n : Name). n.table) (admits.named (name_in tables.NoteType id) row is))) none);
  options = λ id same none. admits.options id same (none_gone gone (edit.rows (name_in tables.Options id))
      (λ row is. may.options row same (ap (λ (n : Name). n.table) (admits.named (name_in tables.Options id) row is))) none);
}

-- ---- the undo list
single_of : (steps : List Reversal) (at : RowsByName) (tags : List Tag) → StepsSuit steps at tags → IsSingle at
single_of [] at tags suits = suits
single_of (step ∷ steps) at tags suits = suits.0

-- the latest steps of a list that suits do
latest_suit : (n : ℕ) (steps : List Reversal) (at : RowsByName) (tags : List Tag) → StepsSuit steps at tags → StepsSuit (take n steps) at tags
latest_suit zero [] at tags suits = suits
latest_suit zero (step ∷ steps) at tags suits = suits.0
latest_suit (suc n) [] at tags suits = suits
latest_suit (suc n) (step ∷ steps) at tags suits = (suits.0, suits.1, latest_suit n steps _ _ suits.2)

-- the list after an edit suits what is left
pub lists_after_suit : (at : ℤ) (c after : Collection) (edit : Edit) (steps now : List Reversal) → IsEdit at c edit after → AreNamed (row_under c) → IsListAfter c edit after steps now
    → StepsSuit steps (row_under c) c.head.tags → StepsSuit now (row_under after) after.head.tags
lists_after_suit at c after edit steps now is named listed suits =
    elim listed as (λ _. StepsSuit now (row_under after) after.head.tags) [
      | inl same ↦ subst (λ (list : List Reversal). StepsSuit list (row_under after) after.head.tags) (sym same.list)
          (subst (λ (d : Collection). StepsSuit steps (row_under d) d.head.tags) (sym same.unchanged) suits)
      | inr (inl emptied) ↦ subst (λ (list : List Reversal). StepsSuit list (row_under after) after.head.tags) (sym emptied.list)
          (edits_keep_single at c after edit is.admits is.leaves (single_of steps (row_under c) c.head.tags suits))
      | inr (inr pushed) ↦ subst (λ (list : List Reversal). StepsSuit list (row_under after) after.head.tags) (sym pushed.list)
          (latest_suit 30 (reversal_of c edit ∷ steps) (row_under after) after.head.tags (lists_suit at c after edit steps named is.admits pushed.schema is.leaves suits))
    ]
