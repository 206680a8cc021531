-- What a record of calls is seen as.
use Rattle.std.specs.Prelude.{ℕ, List}
use Rattle.ak_disks.specs.Images.{Event}

-- the calls, the newest first, and for how many more written bytes and calls it has room
pub record LogState : Type 0 where
  pub events : List Event
  pub room : ℕ
  pub places : ℕ
