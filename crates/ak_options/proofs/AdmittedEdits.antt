-- The edits of these calls are admitted.
use Rattle.std.specs.Prelude.{◌≡◌, ℤ, if◌then◌else◌, true, false}
use Rattle.std.proofs.Common.{refl, sym}
use Rattle.ak_base.specs.Rows.{name_of}
use Rattle.ak_base.specs.declared.names.Table.TheVariants as tables
use Rattle.ak_base.specs.declared.option_groups.Options.{Options}
use Rattle.ak_base.specs.declared.rows.Row.{Row}
use Rattle.ak_base.specs.declared.rows.Row.TheVariants as rows
use Rattle.ak_edit_calls.proofs.AdmittedEdits.{row_edits_are_admitted}
use Rattle.ak_edit_calls.specs.RowEdits.{row_edit}
use Rattle.ak_keep.specs.Collections.{Collection}
use Rattle.ak_merge.proofs.EditBuildingLaws.{maps_are_admitted, removals_are_admitted, schema_changes_are_admitted, settings_are_admitted, unedited_is_admitted}
use Rattle.ak_merge.proofs.EditFacts.{false_true}
use Rattle.ak_merge.specs.EditBuilding.{MayMap, MayPut, MayRemove, unedited, with_rows_mapped, with_schema}
use Rattle.ak_merge.specs.Edits.{Admits}
use Rattle.ak_merge.specs.Holdings.{AreNamed, name_in, row_under}
use Rattle.ak_options.proofs.Defaults.{name_with_default}
use Rattle.ak_options.specs.OptionDeletions.{has_options, options_deletion, with_default, without_options}
use Rattle.ak_options.specs.OptionGroups.{as_given, options_addition, options_change, with_id}
use Rattle.ak_options.specs.Spreads.{spreading, with_spread}

-- a group of options may always be put, since groups leave no graves
group_admitted : (group : Options) (c : Collection) → AreNamed (row_under c) → Admits c (row_edit (rows.Options group) c)
group_admitted group c named =
    let may : MayPut c (rows.Options group) = record { free = λ _. refl; review = λ e. absurd (cc) } in
    row_edits_are_admitted (rows.Options group) c may named

pub changes_are_admitted : (options : Options) (c : Collection) → AreNamed (row_under c) → Admits c (options_change options c)
changes_are_admitted options c named = group_admitted (as_given options) c named

pub additions_are_admitted : (options : Options) (id : ℤ) (c : Collection) → AreNamed (row_under c) → Admits c (options_addition options id c)
additions_are_admitted options id c named = group_admitted (with_id id (as_given options)) c named

-- ---- a deletion
name_without : (options : ℤ) (row : Row) → name_of (without_options options row) ≡ name_of row
name_without options row = elim (has_options options row) as (λ b. name_of (if b then with_default row else row) ≡ name_of row) [ true ↦ name_with_default row | false ↦ refl ]

review_same : (options : ℤ) (row : Row) → (name_of row).table ≡ tables.Review → without_options options row ≡ row
review_same options (rows.Deck deck) is = absurd (cc)
review_same options (rows.Note note) is = refl
review_same options (rows.Card card) is = refl
review_same options (rows.Review review) is = refl
review_same options (rows.NoteType note_type) is = refl
review_same options (rows.Options group) is = refl
review_same options (rows.Grave grave) is = refl

pub deletions_are_admitted : (options : ℤ) (c : Collection) → AreNamed (row_under c) → Admits c (options_deletion options c)
deletions_are_admitted options c named =
    let map : MayMap (without_options options) = record { name = λ row. name_without options row; review = λ row is. review_same options row is } in
    let remove : MayRemove c true (name_in tables.Options options) = record {
      review = λ e. absurd (cc);
      note_type = λ same _. false_true (sym same);
      options = λ same _. false_true (sym same);
    } in
    removals_are_admitted c (with_schema (with_rows_mapped (without_options options) (unedited c))) (name_in tables.Options options)
    (schema_changes_are_admitted c (with_rows_mapped (without_options options) (unedited c)) (maps_are_admitted c (unedited c) (without_options options) (unedited_is_admitted c named) map)) remove

-- ---- the spread
pub spreads_are_admitted : (value : ℤ) (c : Collection) → AreNamed (row_under c) → Admits c (spreading value c)
spreads_are_admitted value c named = settings_are_admitted c (unedited c) (with_spread value c.head.conf) (unedited_is_admitted c named)
