-- The calls that are to fail.
use Rattle.std.specs.Prelude.{ℕ, Bool, true, false, ◌==◌, List, [], ◌∷◌}
use Rattle.std.specs.List.{list_any}
use Rattle.ak_faults.specs.Causes.{Health}

-- whether the list names the call of this number
abbrev pub is_named : ℕ → List ℕ → Bool
is_named call fails = list_any (λ named. named == call) fails

-- whether the list names no call
abbrev pub names_none : List ℕ → Bool
names_none [] = true
names_none (call ∷ calls) = false

-- the health of an object whose calls fail only where the list says so: calm exactly where it names none
abbrev pub listed_health : ℕ → List ℕ → Health
listed_health faults fails = record { faults = faults; calm = names_none fails }
