-- A walk over the rows of a table, page by page.
use Rattle.std.specs.Prelude.{◌≡◌, ℕ, suc, ℤ, pos, ◌<◌, ◌<ℤ◌, ◌^◌, true, T, int_lt, negsuc, List, [], ◌∷◌, length}
use Rattle.std.specs.Cmp.{second_so}
use Rattle.std.proofs.Common.{arith, sym, subst}
use Rattle.std.proofs.lemmas.Int.{ints}
use Rattle.std.specs.Int.{int_gap}
use Rattle.ak_base.specs.Rows.{name_of}
use Rattle.ak_base.specs.declared.names.Table.{Table}
use Rattle.ak_base.specs.declared.rows.Row.{Row}
use Rattle.ak_keep.specs.Collections.{AscendsPast, last_id}
use Rattle.ak_keep.proofs.Paging.{int_chain}

pub gap_falls : (a b : ℤ) (top : ℕ) → int_lt a b ≡ true → b <ℤ pos top → int_gap b (pos top) < int_gap a (pos top)
gap_falls (pos a) (pos b) top less high = omega (arith, ints, less, high)
gap_falls (pos a) (negsuc b) top less high = absurd (subst T (sym less) tt)
gap_falls (negsuc a) (pos b) top less high = omega (arith, ints, less, high)
gap_falls (negsuc a) (negsuc b) top less high = omega (arith, ints, less, high)

-- the last id of some rows is over all that they are past
last_rises : (table : Table) (past : ℤ) (row : Row) (rows : List Row) → AscendsPast table past (row ∷ rows) → int_lt past (last_id past (row ∷ rows)) ≡ true
last_rises table past row [] ascends = second_so _ _ (ascends.0)
last_rises table past row (next ∷ rows) ascends = int_chain past (name_of row).id _ (second_so _ _ ascends.0) (last_rises table (name_of row).id next rows ascends.1)

-- after a page with rows there are fewer pages
pub fewer_pages : (table : Table) (past : ℤ) (page : List Row) → AscendsPast table past page → 0 < length page → last_id past page <ℤ pos (2 ^ 63)
    → suc (int_gap (last_id past page) (pos (2 ^ 63))) < suc (int_gap past (pos (2 ^ 63)))
fewer_pages table past [] ascends some high = absurd (omega (arith, some))
fewer_pages table past (row ∷ rows) ascends some high =
    let less = gap_falls past (last_id past (row ∷ rows)) (2 ^ 63) (last_rises table past row rows ascends) high in
    omega (arith, less)
