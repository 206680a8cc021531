use Rattle.std.proofs.Common.{◌≡◌, ◌∷◌, ◌∙◌, List, ap, sym, rules}
use Rattle.ak_base.specs.declared.rows.Row.{Row}
use Rattle.ak_edit.specs.Overlays.{Overlay}
use Rattle.ak_study.specs.RowChanges.{put_rows_changed}
use Rattle.ak_study.proofs.row_changes.change_page.Goals as goal

pub loop-row-preserved : goal.loop-row-preserved
loop-row-preserved g c =
    let change = g.C.RowChange.change c.args.by.now in
    let rest : c.loop-row.rest.now ≡ c.in-Some.row.now ∷ c.in-Some.others.now = search rules in
    ap (λ (o : Overlay). put_rows_changed change c.in-Some.others.now o) c.in_ok-change_row.ensures
    ∙ ap (λ (rows : List Row). put_rows_changed change rows c.loop-row.change) (sym rest)
    ∙ c.loop-row.invariant
