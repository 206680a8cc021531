use Rattle.std.proofs.Common.{◌≡◌, true, arith}
use Rattle.ak_lab_devices.proofs.Places.{found, has_name, none_left}
use Rattle.ak_lab_devices.proofs.devices.place_of.Goals as goal

pub returns-then-eq : goal.returns-then-eq
returns-then-eq c =
    let named : has_name c.args.name.now c.index-devices-place.result ≡ true = cc in
    found _ _ _ c.index-devices-place.result (omega arith) c.index-devices-place.is named c.loop-place.invariant

pub returns : goal.returns
returns c = none_left _ _ c.loop-place.place (omega arith) c.loop-place.invariant
