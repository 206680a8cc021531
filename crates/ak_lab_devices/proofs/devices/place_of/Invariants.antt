use Rattle.std.proofs.Common.{◌≡◌, ◌+◌, drop}
use Rattle.std.specs.List.{position_or_len}
use Rattle.ak_lab_devices.proofs.Places.{has_name}
use Rattle.ak_lab_devices.proofs.devices.place_of.Given as goal

-- no device so far has the name
abbrev pub invariant-loop-place : goal.invariant-loop-place
invariant-loop-place l =
    l.place + position_or_len (has_name l.name) (drop l.place l.devices) ≡ position_or_len (has_name l.name) l.devices
