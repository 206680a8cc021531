-- Rows gathered page by page: the first page and the end.
use Rattle.std.specs.Prelude.{◌≡◌, List, [], ◌++◌, Option, Some, None, IfSome}
use Rattle.std.proofs.Common.{sym, ap, ◌∙◌, append-nil}
use Rattle.ak_base.specs.declared.rows.Row.{Row}
use Rattle.ak_keep.specs.Collections.{Holding}
use Rattle.ak_keep.specs.Keepers.{Keeping, WhereTold}
use Rattle.ak_keep.specs.Marks.{WithMark}
use Rattle.ak_keep.proofs.Told.{where_told-map}

-- what is true of all that may be held is true of what is told
pub where_all : (k : Keeping) (P : Holding → Type 0) → ((h : Holding) → P h) → WhereTold k P
where_all k P all = of k.told
  where
    of : (told : Option (WithMark Holding)) → IfSome told (λ w. P w.current)
    of None = tt
    of (Some w) = all w.current

-- the rows so far are all if none are ahead
pub none_ahead : (k : Keeping) (so_far : List Row) (ahead all : Holding → List Row) → ((h : Holding) → ahead h ≡ [])
    → WhereTold k (λ h. so_far ++ ahead h ≡ all h) → WhereTold k (λ h. so_far ≡ all h)
none_ahead k so_far ahead all none have =
    where_told-map k (λ h. so_far ++ ahead h ≡ all h) (λ h. so_far ≡ all h)
    (λ h is. sym (append-nil so_far) ∙ sym (ap (λ (rows : List Row). so_far ++ rows) (none h)) ∙ is) have
