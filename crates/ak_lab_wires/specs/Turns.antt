-- What several lines bring before one call: each in its turn.
use Rattle.std.specs.Prelude.{◌≡◌, ◌⊎◌, ℕ, ◌==◌, Bool, true, false, List, [], ◌∷◌, filter, Ok, Err}
use Rattle.ak_base.specs.declared.errors.Memory.{Memory}
use Rattle.ak_lab_devices.specs.declared.plans.Planned.{Planned}
use Rattle.ak_sync_in_memory.specs.Betweens.{ActEnd}
use Rattle.ak_sync_in_memory.specs.Entries.{LoggedState}

-- what is planned before the call of this number
abbrev pub due : ℕ → List Planned → List Planned
due call planned = filter (λ (it : Planned). it.call == call) planned

-- whether nothing is planned
abbrev pub plans_nothing : List Planned → Bool
plans_nothing [] = true
plans_nothing (it ∷ planned) = false

-- what one line makes of a state and of a server, and how that ended
abbrev pub TurnKind : Type 0 → Type 1
TurnKind X = (it : Planned) (was now : X) (old new : LoggedState) (came : ActEnd) → Type 0

-- these came one after the other, up to the first that ran out of memory
abbrev pub InTurn : {X : Type 0} → TurnKind X → List Planned → X → X → LoggedState → LoggedState → ActEnd → Type 0
InTurn act [] was now old new came = (now ≡ was) × (new ≡ old) × (came ≡ Ok tt)
InTurn {X} act (it ∷ planned) was now old new came =
    ((mid : X) × (met : LoggedState) × act it was mid old met (Ok tt) × InTurn act planned mid now met new came)
    ⊎ ((end : Memory) × act it was now old new (Err end) × (came ≡ Err end))
