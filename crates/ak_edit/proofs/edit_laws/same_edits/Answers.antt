use Rattle.std.proofs.Common.{ℕ, Bool, List, Option, ap, ◌∙◌}
use Rattle.std.proofs.Math.Path.{fun_ext}
use Rattle.ak_base.specs.declared.heads.Conf.{Conf}
use Rattle.ak_base.specs.declared.names.Name.{Name}
use Rattle.ak_base.specs.declared.rows.Row.{Row}
use Rattle.ak_edit.proofs.edit_laws.same_edits.Goals as goal

pub returns : goal.returns
returns c = λ e f rows conf tags schema.
    ap (λ (r : Name → Option Row). record { rows = r; conf = e.conf; tags = e.tags; schema = e.schema }) (fun_ext rows)
    ∙ ap (λ (x : Conf). record { rows = f.rows; conf = x; tags = e.tags; schema = e.schema }) conf
    ∙ ap (λ (x : List (List ℕ)). record { rows = f.rows; conf = f.conf; tags = x; schema = e.schema }) tags
    ∙ ap (λ (x : Bool). record { rows = f.rows; conf = f.conf; tags = f.tags; schema = x }) schema
