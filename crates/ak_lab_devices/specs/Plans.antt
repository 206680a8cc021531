-- What lines plan before the calls of a device's next sync.
use Rattle.std.specs.Prelude.{Bool, true, false, List, filter}
use Rattle.ak_lab_devices.specs.declared.plans.Act.{Act}
use Rattle.ak_lab_devices.specs.declared.plans.Act.TheVariants as acts
use Rattle.ak_lab_devices.specs.declared.plans.Planned.{Planned}

-- whether another device syncs
abbrev pub crosses : Act → Bool
crosses (acts.Cross name) = true
crosses (acts.Replay from count) = false

-- those of these that make another device sync
abbrev pub crossings_of : List Planned → List Planned
crossings_of planned = filter (λ (it : Planned). crosses it.act) planned
