-- A lab between two lines of its script.
use Rattle.std.specs.Prelude.{◌≡◌, ℕ, ℤ, pos, true, List, []}
use Rattle.ak_lab_devices.specs.Devices.{are_in_time, with_device}
use Rattle.ak_lab_devices.specs.declared.devices.Device.{Device}
use Rattle.ak_lab.specs.declared.labs.Lab.{Lab}
use Rattle.ak_lab_wires.specs.LabSessions.{lab_host}
use Rattle.ak_sync_in_memory.specs.Entries.{LoggedState, health_in}
use Rattle.ak_sync_in_memory.specs.LoggedServers.{begins_with}
use Rattle.ak_openings.specs.declared.whole_collections.Opening.{Opening}

-- a lab: its clock in milliseconds, its server with all that came to it, how many sessions began, the calls of the server's keeper that are to
-- fail in the next sync, and its devices in the order of their lines
pub record LabState : Type 0 where
  pub clock : ℤ
  pub server : LoggedState
  pub sessions : ℕ
  pub fails : List ℕ
  pub devices : List Device

-- the state of the program's lab
abbrev pub state_of : Lab → LabState
state_of lab =
    record { clock = lab.clock; server = lab.server; sessions = lab.sessions; fails = lab.fails; devices = lab.devices.items }

-- the lab before its first line: the server has the opening collection and nothing came to it, no call of its keeper is to fail, and there is
-- no device
abbrev pub opened_lab : Opening → LabState
opened_lab opening = record {
  clock = pos 1_700_000_000_000;
  server = begins_with lab_host opening;
  sessions = 0;
  fails = [];
  devices = [];
}

-- before a line of this number: what comes to the server is written down with it
abbrev pub at_line : ℕ → LabState → LabState
at_line number s = record s { server = record s.server { line = number } }

-- what the lab keeps between two lines: its clocks stand where clocks may, and no call of the server's keeper is to fail
pub record IsReady (s : LabState) : Type 0 where
  pub clocks : are_in_time s.clock s.devices ≡ true
  pub calm : (health_in s.server).calm ≡ true

-- ---- the devices
-- the lab after a device was changed
abbrev pub with_changed : Device → LabState → LabState
with_changed d s = record s { devices = with_device d s.devices }
