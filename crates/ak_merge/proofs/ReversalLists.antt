-- Which lists of steps suit: after an edit, after an undo, and without the oldest step.
use Rattle.ak_keep.specs.Graves.{RowsByName, is_dead}
use Rattle.ak_merge.specs.Holdings.{name_in, tag_usn, row_under, AreNamed, IsSingle}
use Rattle.ak_keep.specs.Collections.{Collection}
use Rattle.std.specs.Prelude.{◌≡◌, ℤ, false, List, [], ◌∷◌, ◌++◌, Option, Some, None, is_some}
use Rattle.std.proofs.Common.{refl, sym, ap, subst, ◌∙◌}
use Rattle.std.specs.Option.{unwrap_or}
use Rattle.ak_base.specs.declared.heads.Tag.{Tag}
use Rattle.ak_base.specs.declared.names.Name.{Name}
use Rattle.ak_base.specs.declared.names.Table.{Table}
use Rattle.ak_base.specs.declared.names.Table.TheVariants as tables
use Rattle.ak_base.specs.declared.rows.Row.{Row}
use Rattle.ak_merge.proofs.EditFacts.{true_false}
use Rattle.ak_merge.specs.Edits.{Edit, second_of, Reversal, Admits, IsEdited, reversal_of, edited_under}
use Rattle.ak_merge.specs.Undoing.{undone_row, IsUndone, StepSuits, put_back, StepsSuit}
use Rattle.ak_merge.proofs.EditCells.{tag_edited}
use Rattle.ak_merge.proofs.EditLaws.{edited_single}
use Rattle.ak_merge.proofs.ReversalLaws.{step_suits, step_back}

-- ---- a list suits by which names are held
-- the two hold the same names
abbrev pub HoldSame : RowsByName → RowsByName → Type 0
HoldSame at other = (name : Name) → is_some (at name) ≡ is_some (other name)

none_if : (x : Option Row) → is_some x ≡ false → x ≡ None
none_if None none = refl
none_if (Some row) none = true_false none

none_too : (x y : Option Row) → is_some x ≡ is_some y → x ≡ None → y ≡ None
none_too x y same none = none_if y (sym same ∙ ap is_some none)

dead_same : (at other : RowsByName) → HoldSame at other → (table : Table) (id : ℤ) → is_dead at (name_in table id) ≡ is_dead other (name_in table id)
dead_same at other same tables.Note id = same (name_in tables.NoteGrave id)
dead_same at other same tables.Card id = same (name_in tables.CardGrave id)
dead_same at other same tables.Deck id = same (name_in tables.DeckGrave id)
dead_same at other same tables.Review id = refl
dead_same at other same tables.NoteType id = refl
dead_same at other same tables.Options id = refl
dead_same at other same tables.NoteGrave id = refl
dead_same at other same tables.CardGrave id = refl
dead_same at other same tables.DeckGrave id = refl

pub single_same : (at other : RowsByName) → HoldSame at other → IsSingle at → IsSingle other
single_same at other same single name dead = none_too (at name) (other name) (same name) (single name (dead_same at other same name.table name.id ∙ dead))

suits_same : (step : Reversal) (at other : RowsByName) (tags : List Tag) → HoldSame at other → StepSuits step at tags → StepSuits step other tags
suits_same step at other tags same suits = record {
  named = suits.named;
  kinds = suits.kinds;
  changed = λ name before is stays. sym (same name) ∙ suits.changed name before is stays;
  removed = λ name before is buried. none_too (at name) (other name) (same name) (suits.removed name before is buried);
  graves = suits.graves;
  added = λ name is. sym (same name) ∙ suits.added name is;
  tags_kept = suits.tags_kept;
}

entry_same : (e : Option (Option Row)) (x y : Option Row) → is_some x ≡ is_some y → is_some (unwrap_or e x) ≡ is_some (unwrap_or e y)
entry_same None x y same = same
entry_same (Some before) x y same = refl

list_same : (steps : List Reversal) (at other : RowsByName) (tags : List Tag) → HoldSame at other → StepsSuit steps at tags → StepsSuit steps other tags
list_same [] at other tags same suits = single_same at other same suits
list_same (step ∷ steps) at other tags same suits = (
  single_same at other same suits.0,
  suits_same step at other tags same suits.1,
  list_same steps (put_back step at) (put_back step other) step.tags (λ name. entry_same (step.rows name) (at name) (other name) (same name)) suits.2,
)

pub suits_single : (steps : List Reversal) (at : RowsByName) (tags : List Tag) → StepsSuit steps at tags → IsSingle at
suits_single [] at tags suits = suits
suits_single (step ∷ steps) at tags suits = suits.0

-- the list with the step of an edit suits what the edit leaves
pub lists_suit : (at : ℤ) (c after : Collection) (edit : Edit) (steps : List Reversal) → AreNamed (row_under c) → Admits c edit → edit.schema ≡ false → IsEdited at c edit after
    → StepsSuit steps (row_under c) c.head.tags → StepsSuit (reversal_of c edit ∷ steps) (row_under after) after.head.tags
lists_suit at c after edit steps named admits same is_edited suits =
    let single : IsSingle (row_under c) = suits_single steps (row_under c) c.head.tags suits in
    list_same (reversal_of c edit ∷ steps) (edited_under (second_of at) (row_under c) edit.rows) (row_under after) after.head.tags (λ name. sym (ap is_some (is_edited.rows name))) (
      edited_single (second_of at) c edit admits single,
      step_suits (second_of at) c edit admits same named single after.head.tags (λ tag. ap (λ (tags : List Tag). tag_usn tags tag) is_edited.tags ∙ tag_edited edit.tags c.head.tags tag),
      list_same steps (row_under c) (put_back (reversal_of c edit) (edited_under (second_of at) (row_under c) edit.rows)) c.head.tags
          (λ name. sym (step_back (second_of at) c edit admits same name)) suits,
    )

-- the list without its oldest step suits too
pub oldest_may_go : (steps : List Reversal) (old : Reversal) (at : RowsByName) (tags : List Tag) → StepsSuit (steps ++ old ∷ []) at tags → StepsSuit steps at tags
oldest_may_go [] old at tags suits = suits.0
oldest_may_go (step ∷ steps) old at tags suits = (suits.0, suits.1, oldest_may_go steps old (put_back step at) step.tags suits.2)

-- ---- an undo, name by name
pub undone_held : (now : ℤ) (e : Option (Option Row)) (x : Option Row) → is_some (unwrap_or e x) ≡ is_some (undone_row now e x)
undone_held now None x = refl
undone_held now (Some None) x = refl
undone_held now (Some (Some before)) x = refl

-- the list without its latest step suits what its undo leaves
pub lists_suit_after_undo : (at : ℤ) (c after : Collection) (step : Reversal) (steps : List Reversal) → IsUndone at c step after → StepsSuit (step ∷ steps) (row_under c) c.head.tags
    → StepsSuit steps (row_under after) after.head.tags
lists_suit_after_undo at c after step steps undone suits =
    subst (λ (tags : List Tag). StepsSuit steps (row_under after) tags) (sym undone.tags)
    (list_same steps (put_back step (row_under c)) (row_under after) step.tags
    (λ name. undone_held (second_of at) (step.rows name) (row_under c name) ∙ sym (ap is_some (undone.rows name))) suits.2)
