-- Each way to build an edit keeps it admitted.
use Rattle.ak_keep.specs.Graves.{is_dead}
use Rattle.ak_merge.specs.Holdings.{name_in, row_under, AreNamed}
use Rattle.std.specs.Prelude.{◌≡◌, ℕ, ℤ, true, false, if◌then◌else◌, List, Option, Some, None}
use Rattle.std.proofs.Common.{refl, sym, ap, ◌∙◌}
use Rattle.std.proofs.lemmas.Option.{none-some, same_Some}
use Rattle.std.specs.Option.{option_map}
use Rattle.std.specs.Ordering.{eq_by_cmp}
use Rattle.ak_base.specs.Names.{name_cmp}
use Rattle.ak_base.specs.Rows.{name_of}
use Rattle.ak_base.specs.declared.heads.Conf.{Conf}
use Rattle.ak_base.specs.declared.names.Name.{Name}
use Rattle.ak_base.specs.declared.names.Table.TheVariants as tables
use Rattle.ak_base.specs.declared.rows.Row.{Row}
use Rattle.ak_keep.proofs.RowsByName.{same_of_tied}
use Rattle.ak_keep.specs.Collections.{Collection}
use Rattle.ak_merge.proofs.EditFacts.{false_true}
use Rattle.ak_merge.proofs.EditLaws.{edits_keep_links, schema_edits_part, schema_kept, edits_keep_names, edits_keep_single}
use Rattle.ak_merge.proofs.ReversalLaws.{steps_fit}
use Rattle.ak_merge.proofs.ReversalLists.{lists_suit}
use Rattle.ak_merge.proofs.UndoingLaws.{steps_still_fit}
use Rattle.ak_merge.specs.EditBuilding.{unedited, with_row, without_row, with_rows_mapped, with_tags, with_conf, with_schema, MayPut, MayRemove, MayMap}
use Rattle.ak_merge.specs.Edits.{Edit, Admits}
use Rattle.ak_merge.specs.Undoing.{IsEdit, KeepsAll}

-- ---- one law for an edit
pub edits_keep_all : (at : ℤ) (c after : Collection) (edit : Edit) → IsEdit at c edit after → AreNamed (row_under c) → KeepsAll at c edit after
edits_keep_all at c after edit is named =
    record {
      named = edits_keep_names at c after edit is.admits is.leaves named;
      single = edits_keep_single at c after edit is.admits is.leaves;
      linked = λ s same linked. edits_keep_links at c after s edit is.admits same is.leaves linked;
      parted = λ s changes fresh. schema_edits_part at c after s edit changes is.leaves fresh;
      fits = λ s same linked. steps_fit at c after s edit is.admits same is.leaves linked;
      older = λ s step same fits. steps_still_fit c after s step (schema_kept at c after edit same is.leaves) is.leaves.usn fits;
      suits = λ steps same suits. lists_suit at c after edit steps named is.admits same is.leaves suits;
    }

-- ---- as it is
none_there : {X : Type 0} (o : Option Row) (row : Row) → o ≡ None → o ≡ Some row → X
none_there o row none is = absurd (none-some row (sym none ∙ is))

pub unedited_is_admitted : (c : Collection) → AreNamed (row_under c) → Admits c (unedited c)
unedited_is_admitted c named = record {
  named = named;
  free = λ name row none is. none_there (row_under c name) row none is;
  reviews = λ id row is. is;
  types = λ id same none. none;
  options = λ id same none. none;
}

-- ---- a row put
-- what holds of the row and of what stood there holds of what stands there then
either_name : (P : Option Row → Type 0) (name put : Name) (x y : Option Row) → (name ≡ put → P x) → (eq_by_cmp name_cmp name put ≡ false → P y) → P (if eq_by_cmp name_cmp name put then x else y)
either_name P name put x y one other =
    elim (eq_by_cmp name_cmp name put) as (λ b. eq_by_cmp name_cmp name put ≡ b → P (if b then x else y)) [ true ↦ λ is. one (same_of_tied name put is) | false ↦ λ apart. other apart ] refl

pub puts_are_admitted : (c : Collection) (edit : Edit) (row : Row) → Admits c edit → MayPut c row → Admits c (with_row row edit)
puts_are_admitted c edit row admits may = record {
  named = λ name x. either_name (λ o. o ≡ Some x → name_of x ≡ name) name (name_of row) (Some row) (edit.rows name)
      (λ same is. ap name_of (sym (same_Some row x is)) ∙ sym same) (λ _ is. admits.named name x is);
  free = λ name x none. either_name (λ o. o ≡ Some x → is_dead (row_under c) name ≡ false) name (name_of row) (Some row) (edit.rows name)
      (λ same is. ap (is_dead (row_under c)) same ∙ may.free (ap (row_under c) (sym same) ∙ none)) (λ _ is. admits.free name x none is);
  reviews = λ id x held. either_name (λ o. o ≡ Some x) (name_in tables.Review id) (name_of row) (Some row) (edit.rows (name_in tables.Review id))
      (λ same. none_there (row_under c (name_in tables.Review id)) x (ap (row_under c) same ∙ may.review (ap (λ (n : Name). n.table) (sym same))) held) (λ _. admits.reviews id x held);
  types = λ id same. either_name (λ o. o ≡ None → row_under c (name_in tables.NoteType id) ≡ None) (name_in tables.NoteType id) (name_of row) (Some row) (edit.rows (name_in tables.NoteType id))
      (λ _ none. absurd (none-some row (sym none))) (λ _ none. admits.types id same none);
  options = λ id same. either_name (λ o. o ≡ None → row_under c (name_in tables.Options id) ≡ None) (name_in tables.Options id) (name_of row) (Some row) (edit.rows (name_in tables.Options id))
      (λ _ none. absurd (none-some row (sym none))) (λ _ none. admits.options id same none);
}

-- ---- a row removed
pub removals_are_admitted : (c : Collection) (edit : Edit) (gone : Name) → Admits c edit → MayRemove c edit.schema gone → Admits c (without_row gone edit)
removals_are_admitted c edit gone admits may = record {
  named = λ name x. either_name (λ o. o ≡ Some x → name_of x ≡ name) name gone None (edit.rows name) (λ _ is. absurd (none-some x is)) (λ _ is. admits.named name x is);
  free = λ name x none. either_name (λ o. o ≡ Some x → is_dead (row_under c) name ≡ false) name gone None (edit.rows name) (λ _ is. absurd (none-some x is)) (λ _ is. admits.free name x none is);
  reviews = λ id x held. either_name (λ o. o ≡ Some x) (name_in tables.Review id) gone None (edit.rows (name_in tables.Review id))
      (λ same. none_there (row_under c (name_in tables.Review id)) x (ap (row_under c) same ∙ may.review (ap (λ (n : Name). n.table) (sym same))) held) (λ _. admits.reviews id x held);
  types = λ id same. either_name (λ o. o ≡ None → row_under c (name_in tables.NoteType id) ≡ None) (name_in tables.NoteType id) gone None (edit.rows (name_in tables.NoteType id))
      (λ is _. ap (row_under c) is ∙ may.note_type same (ap (λ (n : Name). n.table) (sym is))) (λ _ none. admits.types id same none);
  options = λ id same. either_name (λ o. o ≡ None → row_under c (name_in tables.Options id) ≡ None) (name_in tables.Options id) gone None (edit.rows (name_in tables.Options id))
      (λ is _. ap (row_under c) is ∙ may.options same (ap (λ (n : Name). n.table) (sym is))) (λ _ none. admits.options id same none);
}

-- ---- rows mapped
mapped_named : (change : Row → Row) (name : Name) (o : Option Row) (row : Row) → MayMap change → ((x : Row) → o ≡ Some x → name_of x ≡ name) → option_map change o ≡ Some row → name_of row ≡ name
mapped_named change name None row may named is = absurd (none-some row is)
mapped_named change name (Some x) row may named is = ap name_of (sym (same_Some (change x) row is)) ∙ may.name x ∙ named x refl

mapped_some : {X : Type 0} (change : Row → Row) (o : Option Row) (row : Row) → ((x : Row) → o ≡ Some x → X) → option_map change o ≡ Some row → X
mapped_some change None row so is = absurd (none-some row is)
mapped_some change (Some x) row so is = so x refl

mapped_none : (change : Row → Row) (o : Option Row) → option_map change o ≡ None → o ≡ None
mapped_none change None none = refl
mapped_none change (Some x) none = absurd (none-some (change x) (sym none))

pub maps_are_admitted : (c : Collection) (edit : Edit) (change : Row → Row) → Admits c edit → MayMap change → Admits c (with_rows_mapped change edit)
maps_are_admitted c edit change admits may = record {
  named = λ name row is. mapped_named change name (edit.rows name) row may (admits.named name) is;
  free = λ name row none is. mapped_some change (edit.rows name) row (λ x held. admits.free name x none held) is;
  reviews = λ id row held.
      let there : edit.rows (name_in tables.Review id) ≡ Some row = admits.reviews id row held in
      ap (option_map change) there ∙ ap (λ (r : Row). Some r) (may.review row (ap (λ (n : Name). n.table) (admits.named (name_in tables.Review id) row there)));
  types = λ id same none. admits.types id same (mapped_none change (edit.rows (name_in tables.NoteType id)) none);
  options = λ id same none. admits.options id same (mapped_none change (edit.rows (name_in tables.Options id)) none);
}

-- ---- tags, settings, schema
pub tags_are_admitted : (c : Collection) (edit : Edit) (names : List (List ℕ)) → Admits c edit → Admits c (with_tags names edit)
tags_are_admitted c edit names admits = record { named = admits.named; free = admits.free; reviews = admits.reviews; types = admits.types; options = admits.options }

pub settings_are_admitted : (c : Collection) (edit : Edit) (conf : Conf) → Admits c edit → Admits c (with_conf conf edit)
settings_are_admitted c edit conf admits = record { named = admits.named; free = admits.free; reviews = admits.reviews; types = admits.types; options = admits.options }

pub schema_changes_are_admitted : (c : Collection) (edit : Edit) → Admits c edit → Admits c (with_schema edit)
schema_changes_are_admitted c edit admits = record {
  named = admits.named;
  free = admits.free;
  reviews = admits.reviews;
  types = λ id same. false_true (sym same);
  options = λ id same. false_true (sym same);
}
