-- What a change asks for, after each of its calls.
use Rattle.std.proofs.Common.{◌≡◌, Bool, true, false, cond, [], Option, Some, None, if◌then◌else◌, refl, ap, ◌∙◌}
use Rattle.std.proofs.Math.Path.{fun_ext}
use Rattle.std.specs.FinMap.{get, get-empty, get-insert, insert}
use Rattle.std.specs.Option.{unwrap_or}
use Rattle.std.specs.Ordering.{eq_by_cmp}
use Rattle.ak_base.specs.Names.{name_cmp, names_total}
use Rattle.ak_base.specs.Rows.{name_of}
use Rattle.ak_base.specs.declared.names.Name.{Name}
use Rattle.ak_base.specs.declared.rows.Row.{Row}
use Rattle.ak_keep.specs.Collections.{Collection}
use Rattle.ak_merge.specs.EditBuilding.{unedited, with_row, without_row}
use Rattle.ak_merge.specs.Holdings.{row_under}
use Rattle.ak_edit.specs.Overlays.{Overlay, edit_of, put_over, removed_over, unchanged}

pub nothing_asked : (c : Collection) → edit_of unchanged c ≡ unedited c
nothing_asked c =
    ap (λ (rows : Name → Option Row). record { rows = rows; conf = c.head.conf; tags = []; schema = false })
    (fun_ext (λ (name : Name). ap (λ (o : Option (Option Row)). unwrap_or o (row_under c name)) (get-empty name_cmp name)))

set_over : (b : Bool) (made : Option Row) (noted : Option (Option Row)) (held : Option Row) → unwrap_or (cond b (Some made) noted) held ≡ (if b then made else unwrap_or noted held)
set_over true made noted held = refl
set_over false made noted held = refl

asked_there : (c : Collection) (o : Overlay) (changed : Name) (made : Option Row) (name : Name) →
    unwrap_or (get (insert o.rows changed made) name) (row_under c name) ≡ (if eq_by_cmp name_cmp name changed then made else unwrap_or (get o.rows name) (row_under c name))
asked_there c o changed made name =
    ap (λ (x : Option (Option Row)). unwrap_or x (row_under c name)) (get-insert names_total o.rows changed made name)
    ∙ set_over (eq_by_cmp name_cmp name changed) made (get o.rows name) (row_under c name)

pub put_asked : (c : Collection) (o : Overlay) (row : Row) → edit_of (put_over row o) c ≡ with_row row (edit_of o c)
put_asked c o row =
    ap (λ (rows : Name → Option Row). record { rows = rows; conf = unwrap_or o.conf c.head.conf; tags = o.tags; schema = o.schema }) (fun_ext (asked_there c o (name_of row) (Some row)))

pub removal_asked : (c : Collection) (o : Overlay) (gone : Name) → edit_of (removed_over gone o) c ≡ without_row gone (edit_of o c)
removal_asked c o gone =
    ap (λ (rows : Name → Option Row). record { rows = rows; conf = unwrap_or o.conf c.head.conf; tags = o.tags; schema = o.schema }) (fun_ext (asked_there c o gone None))
