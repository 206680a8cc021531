-- The devices of a lab by their names.
use Rattle.std.specs.Cmp.Lexicographic.{pointwise}
use Rattle.std.specs.List.{list_all, slice_get, slice_set}
use Rattle.std.specs.Prelude.{◌≡◌, ℕ, ℤ, pos, ◌+ℤ◌, Bool, not, ◌&&◌, ◌==◌, ◌<◌, int_lt, if◌then◌else◌, List, [], ◌∷◌, length, Option, Some, None}
use Rattle.ak_client_wire.specs.Wires.{WireKind, WireState}
use Rattle.ak_faults.specs.Causes.{Health}
use Rattle.ak_keep.specs.Collections.{Collection}
use Rattle.ak_keep.specs.Keepers.{Keeping, all_known}
use Rattle.ak_lab_devices.specs.RestingKeepers.{kept_of}
use Rattle.ak_lab_devices.specs.declared.devices.Device.{Device}
use Rattle.ak_lab_devices.specs.declared.plans.Planned.{Planned}
use Rattle.ak_sync_in_memory.specs.declared.mishaps.Mishap.{Mishap}
use Rattle.ak_transfers.specs.Greetings.{TransferOutside}

-- what is known of the keeper of a device
abbrev pub keeping_of : Device → Keeping
keeping_of d = all_known d.collection

-- a copy of the server's collection, as after a download: that is what the device synced last
abbrev pub as_downloaded : Collection → Collection
as_downloaded c = record c { head = record c.head { last_sync = c.head.moment } }

-- a new device with a copy of the server's collection. Its clock is the lab's, there is nothing to undo, nothing was answered or asked yet, no
-- call of its keeper is to fail, and nothing is planned
abbrev pub new_device : List ℕ → Collection → Device
new_device name c = record {
  name = name;
  collection = kept_of (as_downloaded c);
  undo = [];
  shift = pos 0;
  done = 0;
  calls = 0;
  fails = [];
  mishaps = [];
  planned = [];
}

-- a device with these mishaps and acts planned for its next sync
abbrev pub with_plan : List Mishap → List Planned → Device → Device
with_plan mishaps planned d = record d { mishaps = mishaps; planned = planned }

-- what a session is given, by what is known of its wire, which is its health and its state, and by the moments that its clock has still to give
abbrev pub given_outside : {kind : WireKind} → Health → WireState kind → Option (List ℤ) → TransferOutside kind
given_outside health wire moments = record { line = record { health = health; wire = wire }; moments = moments }

-- ---- by name
abbrev pub same_name : List ℕ → List ℕ → Bool
same_name = pointwise ◌==◌

-- the device of a name
abbrev pub device_of : List ℕ → List Device → Option Device
device_of name [] = None
device_of name (device ∷ devices) = if same_name device.name name then Some device else device_of name devices

-- the devices with this one in the place of the one of its name
abbrev pub with_device : Device → List Device → List Device
with_device made [] = []
with_device made (device ∷ devices) =
    if same_name device.name made.name then made ∷ devices else device ∷ with_device made devices

-- the device of the name stands at the place
pub record IsPlaceOf (name : List ℕ) (devices : List Device) (place : ℕ) : Type 0 where
  pub within : place < length devices
  pub named : (device : Device) → slice_get devices place ≡ Some device → device.name ≡ name
  pub held : (device : Device) → slice_get devices place ≡ Some device → device_of name devices ≡ Some device
  pub set : (made : Device) → made.name ≡ name → with_device made devices ≡ slice_set devices place made

-- ---- clocks
-- whether a moment in milliseconds is one that a clock may tell
abbrev pub is_clock_moment : ℤ → Bool
is_clock_moment moment = not (int_lt moment (pos 0)) && not (int_lt (pos 4_294_967_294_999) moment)

-- whether the lab's clock and those of its devices may stand so
abbrev pub are_in_time : ℤ → List Device → Bool
are_in_time clock devices =
    is_clock_moment clock && list_all (λ (d : Device). is_clock_moment (clock +ℤ d.shift)) devices
