-- The edit of changes, told by names.
use Rattle.std.specs.Prelude.{◌≡◌, ℕ, Bool, true, false, cond, List, [], Option, Some, None}
use Rattle.std.specs.FinMap.{get, get-empty, get-insert}
use Rattle.std.specs.Option.{unwrap_or}
use Rattle.std.specs.Ordering.{eq_by_cmp}
use Rattle.ak_base.specs.Names.{name_cmp, names_total}
use Rattle.ak_base.specs.Rows.{name_of}
use Rattle.std.proofs.Common.{refl, ap, ◌∙◌}
use Rattle.std.proofs.Math.Path.{fun_ext}
use Rattle.ak_base.specs.declared.heads.Conf.{Conf}
use Rattle.ak_base.specs.declared.names.Name.{Name}
use Rattle.ak_base.specs.declared.rows.Row.{Row}
use Rattle.ak_edit.specs.Overlays.{Overlay, edit_of, put_over, removed_over, row_over, unchanged}
use Rattle.ak_keep.specs.Collections.{Collection}
use Rattle.ak_merge.specs.Edits.{Edit}
use Rattle.ak_keep.specs.Graves.{RowsByName}
use Rattle.ak_merge.specs.Holdings.{row_under}

-- what changes say besides rows
abbrev pub rest_of : Overlay → Option Conf × (List (List ℕ) × Bool)
rest_of o = (o.conf, (o.tags, o.schema))

-- changes of rows alone ask for the edit that has these rows by name
pub edit_by_names : (o : Overlay) (c : Collection) (made : RowsByName) → rest_of o ≡ (None, ([], false)) → ((name : Name) → row_over o (row_under c) name ≡ made name)
    → edit_of o c ≡ record { rows = made; conf = c.head.conf; tags = []; schema = false }
edit_by_names o c made rest rows =
    ap (λ (r : Option Conf × (List (List ℕ) × Bool)). let e : Edit = record { rows = row_over o (row_under c); conf = unwrap_or r.0 c.head.conf; tags = r.1.0; schema = r.1.1 } in e) rest
    ∙ ap (λ (at : RowsByName). let e : Edit = record { rows = at; conf = c.head.conf; tags = []; schema = false } in e) (fun_ext rows)

-- ---- what stands under a name over the changes
-- a row that was put over the changes
pub put_under : (o : Overlay) (at : RowsByName) (row : Row) (name : Name) → row_over (put_over row o) at name ≡ cond (eq_by_cmp name_cmp name (name_of row)) (Some row) (row_over o at name)
put_under o at row name =
    ap (λ (x : Option (Option Row)). unwrap_or x (at name)) (get-insert names_total o.rows (name_of row) (Some row) name)
    ∙ elim (eq_by_cmp name_cmp name (name_of row)) as (λ b. unwrap_or (cond b (Some (Some row)) (get o.rows name)) (at name) ≡ cond b (Some row) (unwrap_or (get o.rows name) (at name))) [ true ↦ refl | false ↦ refl ]

-- a row that was removed over the changes
pub removed_under : (o : Overlay) (at : RowsByName) (gone name : Name) → row_over (removed_over gone o) at name ≡ cond (eq_by_cmp name_cmp name gone) None (row_over o at name)
removed_under o at gone name =
    ap (λ (x : Option (Option Row)). unwrap_or x (at name)) (get-insert names_total o.rows gone None name)
    ∙ elim (eq_by_cmp name_cmp name gone) as (λ b. unwrap_or (cond b (Some None) (get o.rows name)) (at name) ≡ cond b None (unwrap_or (get o.rows name) (at name))) [ true ↦ refl | false ↦ refl ]

-- where nothing was changed stands what stood there
pub none_noted : (at : RowsByName) (name : Name) → row_over unchanged at name ≡ at name
none_noted at name = ap (λ (x : Option (Option Row)). unwrap_or x (at name)) (get-empty name_cmp name)
