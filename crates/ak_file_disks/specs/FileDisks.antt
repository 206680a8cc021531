-- What a disk over a file of the system tells: nothing of its bytes, nor of what a crash leaves of them. It is seen as the
-- count of its faults.
use Rattle.std.specs.Prelude.{ℕ, List, ⊤}

-- of a file that is not told a crash may leave any image
abbrev pub any_image : ℕ → List ℕ → Type 0
any_image faults image = ⊤

-- and might have left any before
abbrev pub any_past : ℕ → ℕ → List ℕ → Type 0
any_past faults since image = ⊤

-- its moments are not told apart
abbrev pub at_no_time : ℕ → ℕ
at_no_time faults = 0
