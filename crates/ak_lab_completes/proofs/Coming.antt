-- What comes in a session between whose calls nothing is planned: requests at one moment, none of which meets a fault of the server's keeper.
use Rattle.std.specs.List.{AllByRecursion}
use Rattle.std.specs.Prelude.{◌≡◌, ◌≢◌, ℕ, ℤ, true, false, List, [], ◌∷◌, ◌++◌, ⊤}
use Rattle.std.proofs.Common.{refl, sym, ap, subst, ◌∙◌, append_assoc, append-nil, arith}
use Rattle.ak_client.specs.Greetings.{are_far_apart}
use Rattle.ak_client.specs.declared.outcomes.Outcome.{Outcome}
use Rattle.ak_lab_devices.specs.declared.devices.Device.{Device}
use Rattle.ak_lab_devices.specs.declared.plans.Planned.{Planned}
use Rattle.ak_lab_wires.proofs.Keeping.{KeepsOn, calls_keep}
use Rattle.ak_lab_wires.proofs.Kept.{Any, any_calls}
use Rattle.ak_lab_wires.specs.CrossedSyncs.{ActsOnce, CrossesAt, cross_state, crosses_nothing}
use Rattle.ak_lab_wires.specs.LabSessions.{IsSessionOver}
use Rattle.ak_lab_wires.specs.Turns.{InTurn, due}
use Rattle.ak_lab_wires.specs.declared.crossed_syncs.Crossings.{Crossings}
use Rattle.ak_lab_wires.specs.declared.lab_sessions.SessionKind.{SessionKind}
use Rattle.ak_merge.specs.Edits.{second_of}
use Rattle.ak_messages.specs.declared.replies.Reply.{Reply}
use Rattle.ak_messages.specs.declared.requests.Request.{Request}
use Rattle.ak_openings.specs.declared.whole_collections.Opening.{Opening}
use Rattle.ak_protocol.specs.Logs.{View, with_growth}
use Rattle.ak_protocol.specs.Serving.{Undisturbed, KeeperFault, OutOfMemory}
use Rattle.ak_sync_completes.specs.Completing.{HasNoKeeperFault, IsMetaNear}
use Rattle.ak_sync_in_memory.proofs.Logging.{events_append}
use Rattle.ak_sync_in_memory.specs.Betweens.{ActEnd}
use Rattle.ak_sync_in_memory.specs.Entries.{LoggedState, entry_of, event_of, events_in, health_in, log_in, log_with, setback_of}
use Rattle.ak_sync_in_memory.specs.LoggedServers.{IsServed}
use Rattle.ak_sync_in_memory.specs.declared.logs.Entry.{Entry}
use Rattle.ak_sync_in_memory.specs.declared.logs.Logged.{Logged}
use Rattle.ak_sync_in_memory.specs.declared.logs.Logged.TheVariants as logged
use Rattle.ak_sync_in_memory.specs.declared.logs.Trouble.{Trouble}
use Rattle.ak_sync_in_memory.specs.declared.logs.Trouble.TheVariants as troubles
use Rattle.ak_sync_in_memory.specs.declared.mishaps.Mishap.{Mishap}

-- ---- what was added
-- what came at this moment, and met no fault of the server's keeper
abbrev pub CameCalm : ℤ → Logged → Type 0
CameCalm at (logged.Served request now trouble) = (now ≡ at) × (trouble ≢ troubles.Keeper)
CameCalm at logged.Viewed = ⊤

-- so it is of each of these
abbrev pub AllCameCalm : ℤ → List Entry → Type 0
AllCameCalm at entries = AllByRecursion (λ (entry : Entry). CameCalm at entry.what) entries

-- entries were added to a server, each of them so. Its host key and its opening stay
pub record AddsCalm (at : ℤ) (old new : LoggedState) : Type 0 where
  pub added : List Entry
  pub entries : new.entries ≡ old.entries ++ added
  pub host : new.host ≡ old.host
  pub opening : new.opening ≡ old.opening
  pub each : AllCameCalm at added

nothing_added : (at : ℤ) (old new : LoggedState) → new ≡ old → AddsCalm at old new
nothing_added at old new same = record {
  added = [];
  entries = ap (λ (s : LoggedState). s.entries) same ∙ sym (append-nil old.entries);
  host = ap (λ (s : LoggedState). s.host) same;
  opening = ap (λ (s : LoggedState). s.opening) same;
  each = tt;
}

both : (at : ℤ) (a b : List Entry) → AllCameCalm at a → AllCameCalm at b → AllCameCalm at (a ++ b)
both at [] b one two = two
both at (entry ∷ a) b one two = (one.0, both at a b one.1 two)

added_further : (at : ℤ) (a b c : LoggedState) → AddsCalm at a b → AddsCalm at b c → AddsCalm at a c
added_further at a b c one two = record {
  added = one.added ++ two.added;
  entries = two.entries ∙ ap (λ (l : List Entry). l ++ two.added) one.entries ∙ append_assoc a.entries one.added two.added;
  host = two.host ∙ one.host;
  opening = two.opening ∙ one.opening;
  each = both at one.added two.added one.each two.each;
}

-- ---- a session
-- where nothing is planned and the server's keeper is not to fail, it is so, and stays so
abbrev StaysCalm : ℤ → Crossings → Crossings → LoggedState → LoggedState → Type 0
StaysCalm at x y old new = x.acts ≡ [] → (health_in old).calm ≡ true → (y.acts ≡ []) × ((health_in new).calm ≡ true) × AddsCalm at old new

keeps_calm : (at : ℤ) → KeepsOn (StaysCalm at)
keeps_calm at = record {
  same = λ x s none calm. (none, calm, nothing_added at s s refl);
  further = λ x y z a b c one two none calm.
      let first = one none calm in
      let second = two first.0 first.1 in
      (second.0, second.1, added_further at a b c first.2 second.2);
}

acts_calm : (at : ℤ) (call session : ℕ) (x y : Crossings) (a b : LoggedState) (came : ActEnd) → CrossesAt call session x y a b came → StaysCalm at x y a b
acts_calm at call session x y a b came it none calm =
    let turn : InTurn (ActsOnce session) [] (cross_state x.lab) (cross_state y.lab) a b came =
    subst (λ (l : List Planned). InTurn (ActsOnce session) (due call l) (cross_state x.lab) (cross_state y.lab) a b came) none it.1 in
    (it.0 ∙ none, ap (λ (s : LoggedState). (health_in s).calm) turn.1 ∙ calm, nothing_added at a b turn.1)

served_calm : (at : ℤ) (x : Crossings) (a b : LoggedState) (request : Request) (reply : Reply) → Any request → IsServed a b request at reply → StaysCalm at x x a b
served_calm at x a b request reply any is none calm = (
  none,
  is.goes.calm calm,
  record {
    added = entry_of a.line (logged.Served request at is.trouble) ∷ [];
    entries = ap (λ (s : LoggedState). s.entries) is.adds;
    host = ap (λ (s : LoggedState). s.host) is.adds;
    opening = ap (λ (s : LoggedState). s.opening) is.adds;
    each = ((refl, is.unfailed calm), tt);
  },
)

pub session_adds : (kind : SessionKind) (key : ℕ) (at : ℤ) (moments : List ℤ) (mishaps : List Mishap) (d made : Device) (was became : Crossings) (old new : LoggedState) (outcome : Outcome)
    → IsSessionOver CrossesAt crosses_nothing kind key at moments mishaps d made was became old new outcome → was.acts ≡ [] → (health_in old).calm ≡ true → AddsCalm at old new
session_adds kind key at moments mishaps d made was became old new outcome ran none calm =
    let stays : StaysCalm at was became old new =
    calls_keep (StaysCalm at) (keeps_calm at) Any at (served_calm at) CrossesAt crosses_nothing (acts_calm at) mishaps 0
    ran.calls was became old new (any_calls ran.calls) ran.come in
    (stays none calm).2

-- ---- the events of what was added
pub log_grown : (at : ℤ) (old new : LoggedState) → (it : AddsCalm at old new) → log_in new ≡ with_growth (log_in old) (events_in old.host it.added)
log_grown at old new it =
    ap (λ (host : List ℕ). log_with host new.opening (events_in host new.entries)) it.host
    ∙ ap (λ (opening : Opening). log_with old.host opening (events_in old.host new.entries)) it.opening
    ∙ ap (λ (entries : List Entry). log_with old.host old.opening (events_in old.host entries)) it.entries
    ∙ ap (log_with old.host old.opening) (events_append old.host old.entries it.added)

no_fault : (trouble : Trouble) → trouble ≢ troubles.Keeper → setback_of trouble ≢ KeeperFault
no_fault troubles.Nothing other is = undisturbed is
  where
    undisturbed : Undisturbed ≡ KeeperFault → ⊥
    undisturbed wrong = grind (arith, wrong)
no_fault troubles.Memory other is = out is
  where
    out : OutOfMemory ≡ KeeperFault → ⊥
    out wrong = grind (arith, wrong)
no_fault troubles.Keeper other is = absurd (other refl)

pub none_at_fault : (at : ℤ) (host : List ℕ) (entries : List Entry) → AllCameCalm at entries → AllByRecursion HasNoKeeperFault (events_in host entries)
none_at_fault at host [] all = tt
none_at_fault at host (entry ∷ entries) all = (by entry.what all.0, none_at_fault at host entries all.1)
  where
    by : (what : Logged) → CameCalm at what → HasNoKeeperFault (event_of host what)
    by (logged.Served request now trouble) calm = no_fault trouble calm.1
    by logged.Viewed calm = tt

-- a meta came at the moment at which the server's clock stands
pub all_near : (at device_at : ℤ) → are_far_apart (second_of device_at) (second_of at) ≡ false → (host : List ℕ) (entries : List Entry) → AllCameCalm at entries
    → AllByRecursion (IsMetaNear device_at) (events_in host entries)
all_near at device_at near host [] all = tt
all_near at device_at near host (entry ∷ entries) all = (by entry.what all.0, all_near at device_at near host entries all.1)
  where
    by : (what : Logged) → CameCalm at what → IsMetaNear device_at (event_of host what)
    by (logged.Served request now trouble) calm = λ meta. ap (λ (m : ℤ). are_far_apart (second_of device_at) (second_of m)) calm.0 ∙ near
    by logged.Viewed calm = tt
