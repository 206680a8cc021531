-- What a run of calls of a disk makes of the images that a crash may leave.
use Rattle.std.specs.Prelude.{ℕ, List}
use Rattle.ak_disks.specs.Disks.{Elapses}

-- it comes by this step from one of these
abbrev pub LedBy : (List ℕ → List ℕ → Type 0) → (List ℕ → Type 0) → List ℕ → Type 0
LedBy step images image = (was : List ℕ) × images was × step was image

-- a crash at any moment of these calls leaves an image that has P
pub record LeavesOnly {D : Type 0} (moment : D → ℕ) (may_have_left : D → ℕ → List ℕ → Type 0) (old new : D) (P : List ℕ → Type 0) : Type 0 where
  pub each : (image : List ℕ) → may_have_left new (moment old) image → P image
  -- for a run that began earlier
  pub time : Elapses (moment old) (moment new) (may_have_left old) (may_have_left new) P
