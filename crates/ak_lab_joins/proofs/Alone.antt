-- A session between whose calls nothing is planned: nobody else came to the server, and no other device changed.
use Rattle.std.specs.Prelude.{◌≡◌, ◌≢◌, ℕ, zero, suc, ℤ, ◌+ℤ◌, true, List, [], ◌∷◌, Option, Some, slice_set}
use Rattle.std.proofs.Common.{refl, sym, ap, subst, ◌∙◌}
use Rattle.ak_client.specs.declared.outcomes.Outcome.{Outcome}
use Rattle.ak_client.specs.declared.outcomes.Outcome.TheVariants as outcomes
use Rattle.ak_exchange.specs.declared.envelopes.Ids.{Ids}
use Rattle.ak_faults.specs.Calls.{names_none}
use Rattle.ak_faults.specs.Causes.{Health, one_more}
use Rattle.ak_keep.specs.Keepers.{Keeping}
use Rattle.ak_lab.specs.LabStates.{LabState, with_changed}
use Rattle.ak_lab.specs.LabSyncs.{EndsLabSession, EndsTransfer, RunsAt, mishaps_for, planned_for, server_met, with_fails, without_plan_for}
use Rattle.ak_lab_devices.specs.Devices.{device_of, given_outside, keeping_of}
use Rattle.ak_lab_devices.specs.declared.devices.Device.{Device}
use Rattle.ak_lab_devices.specs.declared.plans.Planned.{Planned}
use Rattle.ak_lab_joins.specs.LabJoins.{PlansNothing}
use Rattle.ak_lab_lines.specs.declared.lab_lines.Direction.{Direction}
use Rattle.ak_lab_wires.proofs.Alone.{StaysAlone, StaysHost, host_stays, lab_stays}
use Rattle.ak_lab_wires.specs.CrossedSyncs.{CrossState, CrossesAt, cross_state, crosses_nothing}
use Rattle.ak_lab_wires.specs.LabSessions.{EndsByKind, IsLabIds, LeavesDevice, MayEnd, before_calls, calls_known_after, fails_after, fails_in}
use Rattle.ak_lab_wires.specs.Turns.{plans_nothing}
use Rattle.ak_lab_wires.specs.declared.crossed_syncs.Crossings.{Crossings}
use Rattle.ak_lab_wires.specs.declared.lab_sessions.SessionKind.{SessionKind}
use Rattle.ak_lab_wires.specs.declared.lab_sessions.SessionKind.TheVariants as kinds
use Rattle.ak_sync_in_memory.specs.Entries.{LoggedState}
use Rattle.ak_sync_in_memory.specs.LoopWires.{LoopInside, state_of_loop}
use Rattle.ak_sync_in_memory.specs.Mishaps.{loses_nothing}
use Rattle.ak_sync_in_memory.specs.declared.mishaps.Mishap.{Mishap}

-- ---- the session
-- a device had a session of this kind and key with the server, and nobody else came to that meanwhile
pub record IsAlone (kind : SessionKind) (key : ℕ) (at device_at : ℤ) (mishaps : List Mishap) (d made : Device) (old new : LoggedState) (outcome : Outcome) : Type 0 where
  pub ids : Ids
  pub of : IsLabIds key ids
  pub was : Crossings
  pub health : Health
  pub end : LoopInside Crossings
  pub to_come : Option (List ℤ)
  pub ended : EndsByKind kind ids (keeping_of d) (keeping_of made) (before_calls CrossesAt crosses_nothing old was at mishaps (device_at ∷ []))
      (given_outside health (state_of_loop CrossesAt crosses_nothing end) to_come) outcome
  pub server : end.server ≡ new
  pub alone : crosses_nothing was ≡ true
  pub host : new.host ≡ old.host
  pub may : MayEnd kind outcome
  pub unfailed : names_none (fails_in kind d.fails) ≡ true → outcome ≢ outcomes.Keep
  pub unlost : loses_nothing mishaps ≡ true → outcome ≢ outcomes.Lost
  pub device : LeavesDevice kind (keeping_of d) (keeping_of made) (Some (device_at ∷ [])) to_come outcome
  pub rest : made ≡ record d {
    collection = made.collection;
    undo = [];
    calls = made.calls;
    fails = made.fails;
    mishaps = made.mishaps;
    planned = made.planned;
  }
  pub plan : made ≡ record (without_plan_for kind d) {
    collection = made.collection;
    undo = [];
    calls = made.calls;
    fails = fails_after kind d.fails;
  }
  pub calls : made.calls ≡ calls_known_after kind d.calls end.counts.calls

-- the device of this name had such a session, the next one
pub record EndsAlone (kind : SessionKind) (name : List ℕ) (s t : LabState) (outcome : Outcome) : Type 0 where
  pub d : Device
  pub made : Device
  pub found : device_of name s.devices ≡ Some d
  pub fails_left : List ℕ
  pub session : IsAlone kind (one_more s.sessions) s.clock (s.clock +ℤ d.shift) (mishaps_for kind d) d made (server_met kind s) (with_fails fails_left t.server) outcome
  pub left : t ≡ record (with_changed made s) { server = t.server; sessions = one_more s.sessions; fails = fails_after kind s.fails }

-- ---- the one from the other
-- what is put twice at a place is what was put last
set_twice : (devices : List Device) (place : ℕ) (one other : Device) → slice_set (slice_set devices place one) place other ≡ slice_set devices place other
set_twice [] zero one other = refl
set_twice [] (suc place) one other = refl
set_twice (device ∷ devices) zero one other = refl
set_twice (device ∷ devices) (suc place) one other = ap (λ (l : List Device). device ∷ l) (set_twice devices place one other)

-- what is planned for a device is no part of what it holds
held_so : (kind : SessionKind) (d : Device) → keeping_of (without_plan_for kind d) ≡ keeping_of d
held_so kinds.Sync d = refl
held_so (kinds.Transfer direction) d = refl

-- nor are its name and the calls of its keeper that are to fail
pub name_so : (kind : SessionKind) (d : Device) → (without_plan_for kind d).name ≡ d.name
name_so kinds.Sync d = refl
name_so (kinds.Transfer direction) d = refl

pub fails_so : (kind : SessionKind) (d : Device) → (without_plan_for kind d).fails ≡ d.fails
fails_so kinds.Sync d = refl
fails_so (kinds.Transfer direction) d = refl

-- what a session may change of its device
abbrev changed_so : Device → Device → ℕ → List ℕ → List Mishap → List Planned → Device
changed_so d made calls fails mishaps planned =
    record d { collection = made.collection; undo = []; calls = calls; fails = fails; mishaps = mishaps; planned = planned }

rest_so : (kind : SessionKind) (d made : Device) (calls : ℕ) (fails : List ℕ)
    → made ≡ (let x : Device = record (without_plan_for kind d) { collection = made.collection; undo = []; calls = calls; fails = fails } in x)
    → made ≡ changed_so d made made.calls made.fails made.mishaps made.planned
rest_so kinds.Sync d made calls fails is =
    is
    ∙ ap (λ (n : ℕ). changed_so d made n fails [] []) (sym (ap (λ (x : Device). x.calls) is))
    ∙ ap (λ (l : List ℕ). changed_so d made made.calls l [] []) (sym (ap (λ (x : Device). x.fails) is))
    ∙ ap (λ (l : List Mishap). changed_so d made made.calls made.fails l []) (sym (ap (λ (x : Device). x.mishaps) is))
    ∙ ap (λ (l : List Planned). changed_so d made made.calls made.fails made.mishaps l) (sym (ap (λ (x : Device). x.planned) is))
rest_so (kinds.Transfer direction) d made calls fails is =
    is
    ∙ ap (λ (n : ℕ). changed_so d made n fails d.mishaps d.planned) (sym (ap (λ (x : Device). x.calls) is))
    ∙ ap (λ (l : List ℕ). changed_so d made made.calls l d.mishaps d.planned) (sym (ap (λ (x : Device). x.fails) is))
    ∙ ap (λ (l : List Mishap). changed_so d made made.calls made.fails l d.planned) (sym (ap (λ (x : Device). x.mishaps) is))
    ∙ ap (λ (l : List Planned). changed_so d made made.calls made.fails made.mishaps l) (sym (ap (λ (x : Device). x.planned) is))

calls_so : (kind : SessionKind) (d : Device) (made_calls calls : ℕ) → made_calls ≡ calls_known_after kind (without_plan_for kind d).calls calls → made_calls ≡ calls_known_after kind d.calls calls
calls_so kinds.Sync d made_calls calls is = is
calls_so (kinds.Transfer direction) d made_calls calls is = is

module _ (kind : SessionKind) (name : List ℕ) (s t : LabState) (crossed : List (List ℕ)) (outcome : Outcome) (ends : EndsLabSession kind name s t crossed outcome)
    (nothing : planned_for kind ends.runs.d ≡ []) where
  abbrev runs : RunsAt kind ends.place s t crossed outcome
  runs = ends.runs

  none : runs.was.acts ≡ []
  none = runs.begins.acts ∙ nothing

  stays : StaysAlone runs.was runs.became (server_met kind s) (with_fails runs.fails_left t.server)
  stays = lab_stays kind _ _ _ _ _ runs.made runs.was runs.became _ _ outcome runs.session

  same_host_then : StaysHost runs.was runs.became (server_met kind s) (with_fails runs.fails_left t.server)
  same_host_then = host_stays kind _ _ _ _ _ runs.made runs.was runs.became _ _ outcome runs.session

  lab_then : cross_state runs.became.lab ≡ (let x : CrossState = record { clock = s.clock; sessions = one_more s.sessions; devices = slice_set s.devices ends.place runs.begins.stand_in; printed = [] } in x)
  lab_then = (stays none).1 ∙ runs.begins.lab

  made_name : runs.made.name ≡ runs.d.name
  made_name = ap (λ (x : Device). x.name) (rest_so kind runs.d runs.made _ _ runs.session.rest)

  -- the devices with the one that synced in its place
  put_back_there : slice_set runs.became.lab.devices.items ends.place runs.made ≡ (with_changed runs.made s).devices
  put_back_there =
      ap (λ (l : List Device). slice_set l ends.place runs.made) (ap (λ (x : CrossState). x.devices) lab_then)
      ∙ set_twice s.devices ends.place runs.begins.stand_in runs.made
      ∙ sym (ends.is.set runs.made (made_name ∙ ends.is.named runs.d runs.at))

  pub alone_ends : EndsAlone kind name s t outcome
  alone_ends = record {
    d = runs.d;
    made = runs.made;
    found = ends.is.held runs.d runs.at;
    fails_left = runs.fails_left;
    session = record {
      ids = runs.session.ids;
      of = runs.session.of;
      was = runs.was;
      health = runs.session.health;
      end = runs.session.end;
      to_come = runs.session.to_come;
      ended = subst (λ (k : Keeping). EndsByKind kind runs.session.ids k (keeping_of runs.made)
          (before_calls CrossesAt crosses_nothing (server_met kind s) runs.was s.clock (mishaps_for kind runs.d) ((s.clock +ℤ runs.d.shift) ∷ []))
          (given_outside runs.session.health (state_of_loop CrossesAt crosses_nothing runs.session.end) runs.session.to_come) outcome) (held_so kind runs.d) runs.session.ended;
      server = runs.session.server;
      alone = ap (λ (l : List Planned). plans_nothing l) none;
      host = (same_host_then none).1;
      may = runs.session.may;
      unfailed = λ none. runs.session.unfailed (ap (λ (l : List ℕ). names_none (fails_in kind l)) (fails_so kind runs.d) ∙ none);
      unlost = runs.session.unlost;
      device = subst (λ (k : Keeping). LeavesDevice kind k (keeping_of runs.made) (Some ((s.clock +ℤ runs.d.shift) ∷ [])) runs.session.to_come outcome) (held_so kind runs.d) runs.session.device;
      rest = rest_so kind runs.d runs.made _ _ runs.session.rest;
      plan = runs.session.rest
          ∙ ap (λ (n : ℕ). let x : Device = record (without_plan_for kind runs.d) {
            collection = runs.made.collection;
            undo = [];
            calls = n;
            fails = fails_after kind (without_plan_for kind runs.d).fails;
          } in x) (sym (ap (λ (x : Device). x.calls) runs.session.rest))
          ∙ ap (λ (l : List ℕ). let x : Device = record (without_plan_for kind runs.d) {
            collection = runs.made.collection;
            undo = [];
            calls = runs.made.calls;
            fails = fails_after kind l;
          } in x) (fails_so kind runs.d);
      calls = calls_so kind runs.d runs.made.calls runs.session.end.counts.calls (ap (λ (x : Device). x.calls) runs.session.rest);
    };
    left = runs.left
        ∙ ap (λ (n : ℕ). let x : LabState = record s {
          server = t.server;
          sessions = n;
          fails = fails_after kind s.fails;
          devices = slice_set runs.became.lab.devices.items ends.place runs.made;
        } in x) (ap (λ (x : CrossState). x.sessions) lab_then)
        ∙ ap (λ (l : List Device). let x : LabState = record s {
          server = t.server;
          sessions = one_more s.sessions;
          fails = fails_after kind s.fails;
          devices = l;
        } in x) put_back_there;
  }

-- ---- by the kind of the session
-- of an upload and of a download nothing is planned
pub transfer_alone : (direction : Direction) (name : List ℕ) (s t : LabState) (outcome : Outcome) → EndsTransfer direction name s t outcome
    → EndsAlone (kinds.Transfer direction) name s t outcome
transfer_alone direction name s t outcome ends = alone_ends (kinds.Transfer direction) name s t [] outcome ends refl

-- of a sync nothing is, if nothing was for its device
pub sync_alone : (name : List ℕ) (s t : LabState) (crossed : List (List ℕ)) (outcome : Outcome) (ends : EndsLabSession kinds.Sync name s t crossed outcome) → PlansNothing name s
    → EndsAlone kinds.Sync name s t outcome
sync_alone name s t crossed outcome ends plans =
    alone_ends kinds.Sync name s t crossed outcome ends (plans ends.runs.d (ends.is.held ends.runs.d ends.runs.at))

-- then no other one printed anything
pub sync_uncrossed : (name : List ℕ) (s t : LabState) (crossed : List (List ℕ)) (outcome : Outcome) (ends : EndsLabSession kinds.Sync name s t crossed outcome) → PlansNothing name s → crossed ≡ []
sync_uncrossed name s t crossed outcome ends plans =
    ends.runs.told ∙ ap (λ (x : CrossState). x.printed) (lab_then kinds.Sync name s t crossed outcome ends (plans ends.runs.d (ends.is.held ends.runs.d ends.runs.at)))
