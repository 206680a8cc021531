-- The day that a moment lies in.
use Rattle.std.specs.Prelude.{◌≡◌, ℤ, pos, negsuc, ◌+ℤ◌, ◌*ℤ◌, ◌≤ℤ◌, ◌<ℤ◌}
use Rattle.ak_base.specs.declared.days.Day.{Day}

-- the day of a moment in milliseconds, for a collection that was made at second `crt`
pub record IsDayOf (crt : ℤ) (ms : ℤ) (day : Day) : Type 0 where
  -- the whole seconds of the moment
  pub second_begun : (day.now *ℤ pos 1000) ≤ℤ ms
  pub second_lasts : ms <ℤ ((day.now +ℤ pos 1) *ℤ pos 1000)
  -- the day has begun, and lasts until its cutoff
  pub begun : (crt +ℤ (day.number *ℤ pos 86_400)) ≤ℤ day.now
  pub lasts : day.now <ℤ day.cutoff
  pub cutoff : day.cutoff ≡ (crt +ℤ (day.number *ℤ pos 86_400)) +ℤ pos 86_400

-- what holds of the day of any moment: its numbers are in these ranges
pub record IsDay (day : Day) : Type 0 where
  pub now_low : pos 0 ≤ℤ day.now
  pub now_high : day.now ≤ℤ pos 4_294_967_294
  pub number_low : negsuc 49_710 ≤ℤ day.number
  pub number_high : day.number ≤ℤ pos 49_710
  pub ahead : day.now <ℤ day.cutoff
  pub near : day.cutoff ≤ℤ (day.now +ℤ pos 86_400)
