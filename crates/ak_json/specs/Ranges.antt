-- The range of steps before they are multiplied. The contracts of private functions alone cite it.
use Rattle.std.specs.Prelude.{ℕ, ℤ, pos, ◌<◌, List, length, get_or}
use Rattle.ak_base.specs.Heads.{IsWithin}

-- each is a number of minutes from 1 to 1,000,000
abbrev pub AreMinutes : List ℤ → Type 0
AreMinutes steps = (i : ℕ) → i < length steps → IsWithin (pos 1) (pos 1_000_000) (get_or steps i (pos 0))
