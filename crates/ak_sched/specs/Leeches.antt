-- Cards that are forgotten again and again.
use Rattle.std.specs.Prelude.{◌≡◌, ℕ, ◌+◌, ◌*◌, ◌/◌, ◌<◌, max}

-- a leech: it was forgotten `fails` times, and from then on each time that half as many lapses came on top
pub record IsLeech (lapses : ℕ) (fails : ℕ) : Type 0 where
  pub tested : 0 < fails
  pub halves : ℕ
  pub met : lapses ≡ fails + halves * max (fails / 2) 1
