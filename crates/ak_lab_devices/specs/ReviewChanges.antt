-- The changes of an edit under way that adds reviews.
use Rattle.std.specs.Prelude.{List, [], ◌∷◌}
use Rattle.ak_base.specs.declared.reviews.Review.{Review}
use Rattle.ak_base.specs.declared.rows.Row.TheVariants as rows
use Rattle.ak_edit.specs.Overlays.{Overlay, put_over}

-- each of the reviews was put
abbrev pub reviews_over : List Review → Overlay → Overlay
reviews_over [] o = o
reviews_over (review ∷ reviews) o = reviews_over reviews (put_over (rows.Review review) o)
