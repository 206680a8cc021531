use Rattle.std.proofs.Common.{◌≡◌, drop}
use Rattle.std.specs.List.{list_all}
use Rattle.std.specs.Prelude.{◌+ℤ◌}
use Rattle.ak_lab_devices.specs.Devices.{is_clock_moment}
use Rattle.ak_lab_devices.specs.declared.devices.Device.{Device}
use Rattle.ak_lab_devices.proofs.lab_clocks.are_in_time.Given as goal

-- the clocks so far may stand so
abbrev pub invariant-loop-device : goal.invariant-loop-device
invariant-loop-device l =
    list_all (λ (d : Device). is_clock_moment (l.clock +ℤ d.shift)) (drop l.device-index l.devices)
    ≡ list_all (λ (d : Device). is_clock_moment (l.clock +ℤ d.shift)) l.devices
