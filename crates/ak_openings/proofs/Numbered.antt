-- The opening rows by equal numbers.
use Rattle.std.specs.Prelude.{◌≡◌, ℤ, List}
use Rattle.std.proofs.Common.{sym}
use Rattle.ak_base.specs.declared.rows.Row.{Row}
use Rattle.ak_openings.specs.Openings.{AreOpeningRows}

pub numbered : (second time number other : ℤ) (made : List Row) → AreOpeningRows second number made → second ≡ time → number ≡ other → AreOpeningRows time other made
numbered second time number other made are timed same = rw (sym timed, sym same) are
