-- The rows of a table that are changed page by page.
use Rattle.std.specs.Prelude.{◌≡◌, true, cond, List, [], ◌∷◌, ◌++◌, IfSome, Option, Some, None}
use Rattle.std.proofs.Common.{refl, sym, ap, ◌∙◌}
use Rattle.ak_base.specs.declared.rows.Row.{Row}
use Rattle.ak_edit.specs.Overlays.{Overlay}
use Rattle.ak_keep.specs.Collections.{Holding, rows_past}
use Rattle.ak_keep.specs.Marks.{WithMark}
use Rattle.ak_keep.specs.Walks.{ahead}
use Rattle.ak_keep.specs.declared.walks.Walk.{Walk}
use Rattle.ak_study.specs.RowChanges.{put_rows_changed, put_some}

-- the changes of some rows, and then of others
two_parts : (change : Row → Option Row) (xs ys : List Row) (o : Overlay) → put_rows_changed change (xs ++ ys) o ≡ put_rows_changed change ys (put_rows_changed change xs o)
two_parts change [] ys o = refl
two_parts change (row ∷ xs) ys o = two_parts change xs ys (put_some (change row) o)

-- what is still to be changed of the rows ahead leads to what the changes of all rows lead to
abbrev pub LeadsOn : (Row → Option Row) → Walk → Walk → Overlay → Overlay → Holding → Type 0
LeadsOn change start walk first so_far h = put_rows_changed change (ahead walk h.rows) so_far ≡ put_rows_changed change (ahead start h.rows) first

pub first_page_told : (told : Option (WithMark Holding)) (change : Row → Option Row) (start : Walk) (first : Overlay) → IfSome told (λ w. LeadsOn change start start first first w.current)
first_page_told None change start first = tt
first_page_told (Some w) change start first = refl

pub page_told : (told : Option (WithMark Holding)) (change : Row → Option Row) (start walk next : Walk) (first so_far made : Overlay) (page : List Row) → IfSome told (λ w. LeadsOn change start walk first so_far w.current)
    → IfSome told (λ w. ahead walk w.current.rows ≡ page ++ ahead next w.current.rows) → made ≡ put_rows_changed change page so_far → IfSome told (λ w. LeadsOn change start next first made w.current)
page_told None change start walk next first so_far made page leads split step = tt
page_told (Some w) change start walk next first so_far made page leads split step =
    ap (put_rows_changed change (ahead next w.current.rows)) step
    ∙ sym (two_parts change page (ahead next w.current.rows) so_far)
    ∙ ap (λ (rows : List Row). put_rows_changed change rows so_far) (sym split) ∙ leads

pub whole_told : (told : Option (WithMark Holding)) (change : Row → Option Row) (start walk : Walk) (first made : Overlay) → walk.done ≡ true → IfSome told (λ w. LeadsOn change start walk first made w.current)
    → IfSome told (λ w. made ≡ put_rows_changed change (ahead start w.current.rows) first)
whole_told None change start walk first made done leads = tt
whole_told (Some w) change start walk first made done leads =
    sym (ap (λ v. put_rows_changed change (cond v [] (rows_past walk.past.table walk.past.id w.current.rows)) made) done) ∙ leads
