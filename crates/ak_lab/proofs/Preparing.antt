-- What a session takes is made for the device at its place.
use Rattle.std.proofs.Common.{◌≡◌, ℕ, ℤ, ◌+ℤ◌, List, get_or, sym, ap, subst, ◌∙◌}
use Rattle.std.proofs.lemmas.Option.{same_Some}
use Rattle.ak_lab.specs.LabStates.{LabState}
use Rattle.ak_lab.specs.LabSyncs.{IsPreparedAt, IsPreparedThere}
use Rattle.ak_lab.specs.declared.lab_syncs.Prepared.{Prepared}
use Rattle.ak_lab_devices.proofs.Placing.{read_there}
use Rattle.ak_lab_devices.specs.Devices.{IsPlaceOf}
use Rattle.ak_lab_devices.specs.declared.devices.Device.{Device}

pub prepared_there : (name : List ℕ) (s : LabState) (place : ℕ) (read : Device) (at shift : ℤ) (it : Prepared) → IsPlaceOf name s.devices place → read ≡ get_or s.devices place read
    → at ≡ s.clock +ℤ read.shift → shift ≡ read.shift → IsPreparedAt at shift it → IsPreparedThere place s it
prepared_there name s place read at shift it is first moment own prepared d there =
    let same : read ≡ d = same_Some read d (sym (read_there name s.devices place read is first).0 ∙ there) in
    subst (λ (z : ℤ). IsPreparedAt z d.shift it) (moment ∙ ap (λ (x : Device). s.clock +ℤ x.shift) same)
    (subst (λ (z : ℤ). IsPreparedAt at z it) (own ∙ ap (λ (x : Device). x.shift) same) prepared)
