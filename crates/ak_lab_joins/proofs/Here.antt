-- A session of a lab and its sides, by the host key of the session, which is the lab's.
use Rattle.std.specs.Prelude.{◌≡◌, ℕ, List, Some}
use Rattle.std.proofs.Common.{sym, ap, subst, ◌∙◌}
use Rattle.ak_client.specs.declared.outcomes.Outcome.{Outcome}
use Rattle.ak_desk_lines.specs.LineSteps.{LinksWith}
use Rattle.ak_exchange.specs.Phases.{holding}
use Rattle.ak_keep.specs.Collections.{Collection}
use Rattle.ak_lab.specs.LabStates.{LabState, with_changed}
use Rattle.ak_lab.specs.LabSyncs.{server_met}
use Rattle.ak_lab_wires.specs.LabSessions.{fails_in, lab_host}
use Rattle.ak_lab_wires.specs.declared.lab_sessions.SessionKind.{SessionKind}
use Rattle.ak_lab_devices.proofs.Places.{found_has_name}
use Rattle.ak_lab_devices.specs.Devices.{device_of, keeping_of}
use Rattle.ak_lab_devices.specs.declared.devices.Device.{Device}
use Rattle.ak_lab_joins.proofs.Alone.{EndsAlone}
use Rattle.ak_lab_joins.proofs.Devices.{changed_found}
use Rattle.ak_lab_joins.proofs.Servers.{fails_set}
use Rattle.ak_lab_joins.proofs.Synced.{holds_is, kept_is}
use Rattle.ak_lab_joins.specs.LabJoins.{DeviceHolds, IsLinkedDevice, IsLinkedLab, IsLinkedServer, committed_of, world_in}
use Rattle.ak_protocol.specs.Accounts.{AccountState}

-- ---- what a device holds
-- the device of the name holds what its keeper is known to hold
pub here_holds : (name : List ℕ) (s : LabState) (d : Device) (c : Collection) → device_of name s.devices ≡ Some d → keeping_of d ≡ holding c → DeviceHolds name s c
here_holds name s d c found known = (d, found, holds_is d c (kept_is d c known))

-- so does a device that was changed
pub changed_holds : (name : List ℕ) (s t : LabState) (d made : Device) (c : Collection) → t.devices ≡ (with_changed made s).devices → device_of name s.devices ≡ Some d
    → made.name ≡ d.name → keeping_of made ≡ holding c → DeviceHolds name t c
changed_holds name s t d made c left found same known =
    here_holds name t made c
    (ap (device_of name) left ∙ changed_found made d s.devices name (same ∙ found_has_name name s.devices d found) found) known

-- ---- a session
module _ (kind : SessionKind) (account : AccountState) (name : List ℕ) (s t : LabState) (outcome : Outcome) (linked : IsLinkedLab account s)
    (ends : EndsAlone kind name s t outcome) where
  abbrev pub host : List ℕ
  host = ends.session.ids.host.digits

  abbrev pub same_host : lab_host ≡ host
  same_host = sym ends.session.of.host

  abbrev pub own : IsLinkedDevice (committed_of account s) ends.d
  own = linked.devices name ends.d ends.found

  -- the server and a device, by that host key
  pub server_here : IsLinkedServer host account s.sessions (server_met kind s)
  server_here =
      fails_set host account s.sessions s.server (fails_in kind s.fails)
      (subst (λ (h : List ℕ). IsLinkedServer h account s.sessions s.server) same_host linked.server)

  pub linked_here : (d : Device) → IsLinkedDevice (committed_of account s) d → IsLinkedDevice (world_in host account s.server).state.committed d
  linked_here d it = subst (λ (h : List ℕ). IsLinkedDevice (world_in h account s.server).state.committed d) same_host it

  pub base_here : (world_in host account s.server).state.committed ≡ committed_of account s
  base_here = ap (λ (h : List ℕ). (world_in h account s.server).state.committed) (sym same_host)

  -- the device of the session
  abbrev pub device_here : IsLinkedDevice (world_in host account s.server).state.committed ends.d
  device_here = record {
    c = own.c;
    holds = own.holds;
    named = own.named;
    links = subst (λ (base : Collection). LinksWith own.c ends.d.undo base) (sym base_here) own.links;
    suits = own.suits;
  }

  -- and what it holds then
  pub left_holds : (c : Collection) → keeping_of ends.made ≡ holding c → DeviceHolds name t c
  left_holds c known =
      changed_holds name s t ends.d ends.made c (ap (λ (x : LabState). x.devices) ends.left) ends.found (ap (λ (x : Device). x.name) ends.session.rest) known
