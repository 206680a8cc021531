-- A sync, an upload and a download of a device in a lab, by messages over a wire, and what comes between its calls.
use Rattle.std.specs.Prelude.{◌≡◌, ℕ, ℤ, ◌+ℤ◌, List, [], ◌∷◌, Some, codes, slice_get, slice_set}
use Rattle.ak_client.specs.declared.outcomes.Outcome.{Outcome}
use Rattle.ak_faults.specs.Causes.{one_more}
use Rattle.ak_lab.specs.LabStates.{LabState}
use Rattle.ak_lab.specs.declared.lab_syncs.Prepared.{Prepared}
use Rattle.ak_lab_devices.specs.Devices.{IsPlaceOf, with_plan}
use Rattle.ak_lab_devices.specs.declared.devices.Device.{Device}
use Rattle.ak_lab_devices.specs.declared.plans.Planned.{Planned}
use Rattle.ak_lab_lines.specs.LabTexts.{direction_word}
use Rattle.ak_lab_lines.specs.declared.lab_lines.Direction.{Direction}
use Rattle.ak_lab_lines.specs.declared.lab_lines.LabLine.{LabLine}
use Rattle.ak_lab_lines.specs.declared.lab_lines.LabLine.TheVariants as lines
use Rattle.ak_lab_wires.specs.CrossedSyncs.{CrossesAt, cross_state, crosses_nothing}
use Rattle.ak_lab_wires.specs.LabSessions.{IsSessionOver, fails_after, fails_in}
use Rattle.ak_lab_wires.specs.declared.crossed_syncs.Crossings.{Crossings}
use Rattle.ak_lab_wires.specs.declared.lab_sessions.SessionKind.{SessionKind}
use Rattle.ak_lab_wires.specs.declared.lab_sessions.SessionKind.TheVariants as kinds
use Rattle.ak_sync_in_memory.specs.Entries.{LoggedState}
use Rattle.ak_sync_in_memory.specs.declared.mishaps.Mishap.{Mishap}

-- ---- a kind of session
-- its line for the device of a name
abbrev pub session_line : SessionKind → List ℕ → LabLine
session_line kinds.Sync name = lines.Sync name
session_line (kinds.Transfer direction) name = lines.Transfer direction name

-- the first word of that line, and of what it prints
abbrev pub session_word : SessionKind → List ℕ
session_word kinds.Sync = codes "sync"
session_word (kinds.Transfer direction) = direction_word direction

-- ---- what is planned for it
-- what happens to its messages: to a sync all that is planned for its device, to an upload and a download nothing
abbrev pub mishaps_for : SessionKind → Device → List Mishap
mishaps_for kinds.Sync d = d.mishaps
mishaps_for (kinds.Transfer direction) d = []

-- the same of what comes before its calls
abbrev pub planned_for : SessionKind → Device → List Planned
planned_for kinds.Sync d = d.planned
planned_for (kinds.Transfer direction) d = []

-- the device without what the session uses up of that
abbrev pub without_plan_for : SessionKind → Device → Device
without_plan_for kinds.Sync d = with_plan [] [] d
without_plan_for (kinds.Transfer direction) d = d

-- a server of whose keeper these calls are to fail
abbrev pub with_fails : List ℕ → LoggedState → LoggedState
with_fails calls server = record server { fails = calls }

-- the server that a session meets: in a sync the calls of its keeper are to fail that are planned for it
abbrev pub server_met : SessionKind → LabState → LoggedState
server_met kind s = with_fails (fails_in kind s.fails) s.server

-- ---- a session of the lab
-- what it takes is made: the clock of its device stands at this moment, and what stands in for this has no name and its clock
pub record IsPreparedAt (at shift : ℤ) (it : Prepared) : Type 0 where
  pub clock : it.clock ≡ at ∷ []
  pub nameless : it.stand_in.name ≡ []
  pub has_shift : it.stand_in.shift ≡ shift

-- the same for the device at a place
abbrev pub IsPreparedThere : ℕ → LabState → Prepared → Type 0
IsPreparedThere place s it =
    (d : Device) → slice_get s.devices place ≡ Some d → IsPreparedAt (s.clock +ℤ d.shift) d.shift it

-- who makes others sync between the calls of a session of the device at a place. That one is elsewhere meanwhile: a device without a name
-- stands in for it. One session more began, and nothing is printed yet
pub record CrossesFor (kind : SessionKind) (place : ℕ) (d : Device) (s : LabState) (it : Crossings) : Type 0 where
  pub stand_in : Device
  pub nameless : stand_in.name ≡ []
  pub shift : stand_in.shift ≡ d.shift
  pub acts : it.acts ≡ planned_for kind d
  pub lab : cross_state it.lab ≡ record {
    clock = s.clock;
    sessions = one_more s.sessions;
    devices = slice_set s.devices place stand_in;
    printed = [];
  }

-- the device at this place had a session of this kind, the next one, and others that crossed it printed these lines. The server's clock and the device's
-- stood still meanwhile. Calls of the server's keeper that are still to fail then are forgotten
pub record RunsAt (kind : SessionKind) (place : ℕ) (s t : LabState) (crossed : List (List ℕ)) (outcome : Outcome) : Type 0 where
  pub d : Device
  pub made : Device
  pub at : slice_get s.devices place ≡ Some d
  pub was : Crossings
  pub became : Crossings
  pub begins : CrossesFor kind place d s was
  pub fails_left : List ℕ
  pub session : IsSessionOver CrossesAt crosses_nothing kind (one_more s.sessions) s.clock ((s.clock +ℤ d.shift) ∷ []) (mishaps_for kind d)
      (without_plan_for kind d) made was became (server_met kind s) (with_fails fails_left t.server) outcome
  pub rests : t.server.fails ≡ []
  pub left : t ≡ record s {
    server = t.server;
    sessions = became.lab.sessions;
    fails = fails_after kind s.fails;
    devices = slice_set became.lab.devices.items place made;
  }
  pub told : crossed ≡ became.lab.printed

-- the device of this name had a session of this kind, the next one, which ended so, and others that crossed it printed these lines
pub record EndsLabSession (kind : SessionKind) (name : List ℕ) (s t : LabState) (crossed : List (List ℕ)) (outcome : Outcome) : Type 0 where
  pub place : ℕ
  pub is : IsPlaceOf name s.devices place
  pub runs : RunsAt kind place s t crossed outcome

-- `sync <device>`
abbrev pub EndsSync : List ℕ → LabState → LabState → List (List ℕ) → Outcome → Type 0
EndsSync = EndsLabSession kinds.Sync

-- `upload <device>` and `download <device>`: nothing crosses these
abbrev pub EndsTransfer : Direction → List ℕ → LabState → LabState → Outcome → Type 0
EndsTransfer direction name s t outcome = EndsLabSession (kinds.Transfer direction) name s t [] outcome
