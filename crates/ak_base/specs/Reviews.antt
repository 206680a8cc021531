-- The ranges of a review's columns.
use Rattle.std.specs.Prelude.{pos, negsuc, Option, List, [], ◌∷◌, ◌≡◌, Ok}
use Rattle.ak_base.specs.Columns.{id_fault, code_fault, first_fault}
use Rattle.ak_base.specs.Limits.{last_usn}
use Rattle.ak_base.specs.declared.errors.RowFault.{RowFault}
use Rattle.ak_base.specs.declared.reviews.Review.{Review}

-- the fault of each column, in the order of schema 11's `revlog`
abbrev pub review_faults : Review → List (Option RowFault)
review_faults r =
    id_fault r.id
    ∷ id_fault r.cid
    ∷ code_fault 2 r.usn (negsuc 0) last_usn
    ∷ code_fault 3 r.ease (pos 0) (pos 4)
    ∷ code_fault 4 r.ivl (negsuc 999_999_999) (pos 1_000_000)
    ∷ code_fault 5 r.last_ivl (negsuc 999_999_999) (pos 1_000_000)
    ∷ code_fault 6 r.factor (pos 0) (pos 100_000)
    ∷ code_fault 7 r.time (pos 0) (pos 4_294_967_295)
    ∷ code_fault 8 r.kind (pos 0) (pos 3)
    ∷ []

-- a review passes its check: every column is in its range
abbrev pub IsCheckedReview : Review → Type 0
IsCheckedReview r = first_fault (review_faults r) ≡ Ok tt
