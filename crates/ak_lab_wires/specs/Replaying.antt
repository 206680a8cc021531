-- Whoever serves requests of the log again between the calls of a wire.
use Rattle.std.specs.Prelude.{◌≡◌, ℕ, ℤ, Bool, Ok}
use Rattle.ak_lab_devices.specs.declared.plans.Act.{Act}
use Rattle.ak_lab_devices.specs.declared.plans.Act.TheVariants as acts
use Rattle.ak_lab_wires.specs.Servings.{ServesAgain}
use Rattle.ak_lab_wires.specs.Turns.{InTurn, TurnKind, due, plans_nothing}
use Rattle.ak_lab_wires.specs.declared.replayed_requests.Replays.{Replays}
use Rattle.ak_sync_in_memory.specs.Betweens.{ActEnd, Acting}
use Rattle.ak_sync_in_memory.specs.Entries.{LoggedState}

-- an act at this moment, written down with a line. What makes another device sync is left
abbrev pub ReplaysBy : Act → ℕ → ℤ → LoggedState → LoggedState → ActEnd → Type 0
ReplaysBy (acts.Cross name) line at old new came = (new ≡ old) × (came ≡ Ok tt)
ReplaysBy (acts.Replay from count) line at old new came = ServesAgain from count line at old new came

-- the same of what a line planned. The moment stays
abbrev pub ReplaysOne : TurnKind ℤ
ReplaysOne it was now old new came = (now ≡ was) × ReplaysBy it.act it.line was old new came

-- the acts of a call, in the order of their lines
abbrev pub ReplaysAt : Acting Replays
ReplaysAt call session was now old new came =
    (now ≡ was) × InTurn ReplaysOne (due call was.acts) was.at was.at old new came

-- whether it is known to do nothing
abbrev pub replays_nothing : Replays → Bool
replays_nothing it = plans_nothing it.acts
