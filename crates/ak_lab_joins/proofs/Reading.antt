-- That a sync of a lab gets no bad reply: over a wire in memory each answer can be read.
use Rattle.std.specs.Prelude.{◌≡◌, ◌≢◌, ◌+ℤ◌, ℕ, ℤ, true, List, [], ◌∷◌, Some}
use Rattle.std.proofs.Common.{refl, sym, ap, subst, ◌∙◌}
use Rattle.std.proofs.lemmas.Option.{same_Some}
use Rattle.ak_call_counts.specs.CallCounts.{no_calls}
use Rattle.ak_client.specs.Outcomes.{HasOutcomeCause}
use Rattle.ak_client.specs.Syncs.{IsSyncEnded, MayBegin, Synced, Syncs, world_at}
use Rattle.ak_client.specs.declared.outcomes.Outcome.{Outcome}
use Rattle.ak_client.specs.declared.outcomes.Outcome.TheVariants as outcomes
use Rattle.ak_client_wire.specs.Wires.{WireKind, WireState}
use Rattle.ak_exchange.specs.Asked.{asker, asks_in}
use Rattle.ak_exchange.specs.Phases.{held_by, holding}
use Rattle.ak_exchange.specs.declared.envelopes.Ids.{Ids}
use Rattle.ak_faults.specs.Causes.{Health, one_more}
use Rattle.ak_keep.specs.Collections.{Collection, IsWellFormed}
use Rattle.ak_lab.specs.LabStates.{LabState}
use Rattle.ak_lab.specs.LabSyncs.{EndsSync, RunsAt, server_met}
use Rattle.ak_lab_devices.specs.Devices.{device_of, keeping_of}
use Rattle.ak_lab_devices.specs.RestingKeepers.{Holds}
use Rattle.ak_lab_devices.specs.declared.devices.Device.{Device}
use Rattle.ak_lab_devices.specs.declared.plans.Planned.{Planned}
use Rattle.ak_lab_joins.proofs.Synced.{held_once, holds_is, known_is, next_over}
use Rattle.ak_lab_joins.proofs.Syncs as syncs
use Rattle.ak_lab_joins.specs.LabCrossings.{IsCrossedFresh}
use Rattle.ak_lab_joins.specs.LabJoins.{DeviceHolds, HasSession, IsLinkedDevice, IsLinkedLab, PlansNothing, committed_of, lab_world, world_in}
use Rattle.ak_lab_wires.specs.CrossedSyncs.{CrossesAt, crosses_nothing}
use Rattle.ak_lab_wires.specs.LabSessions.{lab_host}
use Rattle.ak_lab_wires.specs.Turns.{plans_nothing}
use Rattle.ak_lab_wires.specs.declared.lab_sessions.SessionKind.TheVariants as kinds
use Rattle.ak_merge.specs.Links.{AreLinked}
use Rattle.ak_protocol.specs.Accounts.{AccountState}
use Rattle.ak_protocol.specs.Commits.{EachNewer, HasFreshSchema}
use Rattle.ak_protocol.specs.LawfulServers.{IsLawfulAccount}
use Rattle.ak_protocol.specs.Logs.{Log}
use Rattle.ak_protocol.specs.Syncs.{IsUnused}
use Rattle.ak_sync_completes.specs.Causes.{IsSyncTold}
use Rattle.ak_sync_completes.specs.Completing.{SyncEnds}
use Rattle.ak_sync_in_memory.specs.Entries.{LoggedState, log_in}
use Rattle.ak_sync_in_memory.specs.LoopWires.{health_over, inside_with, loop_kind, state_of_loop}

-- the kind of a lab's wires
abbrev pub lab_kind : WireKind
lab_kind = loop_kind CrossesAt crosses_nothing

-- ---- a law of others
-- a sync over such a wire ends as a bad reply only if an answer was counted that could not be read
abbrev pub ReadsReplies : Type 0
ReadsReplies = (ids : Ids) (c : Collection) (account : AccountState) (before after : SyncEnds lab_kind) (outcome : Outcome) → IsSyncTold ids c account before after outcome
    → HasOutcomeCause outcomes.BadReply before.wire.reading after.wire.reading outcome

-- no fault was counted
abbrev faultless : Health
faultless = record { faults = 0; calm = true }

-- ---- the sync
module _ (account : AccountState) (name : List ℕ) (s t : LabState) (c : Collection) (texts : List (List ℕ)) (outcome : Outcome) (linked : IsLinkedLab account s) (room : HasSession s)
    (holds : DeviceHolds name s c) (formed : IsWellFormed (held_by c)) (ended : EndsSync name s t texts outcome) where
  abbrev runs : RunsAt kinds.Sync ended.place s t texts outcome
  runs = ended.runs

  abbrev ids : Ids
  ids = runs.session.ids

  abbrev old : Log
  old = log_in s.server

  abbrev now : Log
  now = log_in t.server

  -- by the host key of the session, which is the lab's
  same_host : lab_host ≡ ids.host.digits
  same_host = sym runs.session.of.host

  -- ---- what the device holds
  found : device_of name s.devices ≡ Some runs.d
  found = ended.is.held runs.d runs.at

  abbrev own : IsLinkedDevice (committed_of account s) runs.d
  own = linked.devices name runs.d found

  known : keeping_of runs.d ≡ holding own.c
  known = known_is runs.d own.c own.holds

  here_held : Holds runs.d.collection c
  here_held = subst (λ (x : Device). Holds x.collection c) (same_Some holds.0 runs.d (sym holds.1 ∙ found)) holds.2

  own_formed : IsWellFormed (held_by own.c)
  own_formed = subst (λ (x : Collection). IsWellFormed (held_by x)) (held_once runs.d own.c c own.holds here_held) formed

  -- ---- it may begin
  may : MayBegin (asker ids) own.c account old
  may = record {
    unused = subst (λ (h : List ℕ). IsUnused h ids.session.0 account old) same_host
        (subst (λ (key : ℕ). IsUnused lab_host key account old) (sym runs.session.of.session)
        (linked.server.unused (one_more s.sessions) (next_over s.sessions room)));
    lawful = subst (λ (h : List ℕ). IsLawfulAccount (world_in h account s.server).state) same_host linked.server.lawful;
    linked = subst (λ (h : List ℕ). AreLinked own.c (world_in h account s.server).state.committed) same_host own.links.linked;
  }

  -- ---- its two ends
  abbrev device_at : ℤ
  device_at = s.clock +ℤ runs.d.shift

  abbrev wire_before : WireState lab_kind
  wire_before = state_of_loop CrossesAt crosses_nothing (inside_with (server_met kinds.Sync s) runs.was s.clock runs.d.mishaps no_calls)

  abbrev wire_after : WireState lab_kind
  wire_after = state_of_loop CrossesAt crosses_nothing runs.session.end

  abbrev before : SyncEnds lab_kind
  before = record {
    keeping = keeping_of runs.d;
    keeper = faultless;
    health = health_over no_calls runs.d.mishaps;
    wire = wire_before;
    moments = Some (device_at ∷ []);
  }

  abbrev after : SyncEnds lab_kind
  after = record {
    keeping = keeping_of runs.made;
    keeper = faultless;
    health = runs.session.health;
    wire = wire_after;
    moments = runs.session.to_come;
  }

  told_now : wire_after.log ≡ Some now
  told_now = ap (λ (z : LoggedState). Some (log_in z)) runs.session.server

  abbrev own_end : IsSyncEnded ids (keeping_of runs.d) (keeping_of runs.made) (health_over no_calls runs.d.mishaps) runs.session.health wire_before wire_after
      (Some (device_at ∷ [])) outcome
  own_end = runs.session.ended.ended

  -- ---- each commit meanwhile left the device's schema moment alone
  module _ (each : EachNewer (HasFreshSchema own.c) (world_at (asker ids) account old) (world_at (asker ids) account now)) (read : ReadsReplies) where
    synced : Synced (asker ids) own_end.sync.asked.moment (asks_in own_end.sync.asked.tries) own.c account old now (keeping_of runs.made) outcome
    synced =
        let sync = own_end.sync in
        let it = sync.told old refl in
        let same : it.0 ≡ now = same_Some it.0 now (sym it.1 ∙ told_now) in
        let promised : Syncs ids sync.asked.moment (asks_in sync.asked.tries) (keeping_of runs.d) (keeping_of runs.made) old now outcome =
        subst (λ (log : Log). Syncs ids sync.asked.moment (asks_in sync.asked.tries) (keeping_of runs.d) (keeping_of runs.made) old log outcome) same it.2 in
        promised own.c account known may each

    is_told : IsSyncTold ids own.c account before after outcome
    is_told = record {
      old = old;
      now = now;
      told = refl;
      told_now = told_now;
      holds = known;
      formed = own_formed;
      may = may;
      fresh = each;
      ended = own_end;
      synced = synced;
    }

    -- each answer can be read
    readable : outcome ≢ outcomes.BadReply
    readable = (read ids own.c account before after outcome is_told).unfailed refl

  -- ---- others may have crossed it
  pub crossed_reads : ReadsReplies → IsCrossedFresh runs.d (lab_world account s) (lab_world account t) → outcome ≢ outcomes.BadReply
  crossed_reads read fresh =
      readable
      (subst (λ (h : List ℕ). EachNewer (HasFreshSchema own.c) (world_in h account s.server) (world_in h account t.server)) same_host
      (fresh own.c (holds_is runs.d own.c own.holds))) read

  -- ---- nothing is planned: what it asked uploads nothing
  alone : PlansNothing name s → crosses_nothing runs.was ≡ true
  alone plans = ap (λ (l : List Planned). plans_nothing l) (runs.begins.acts ∙ plans runs.d found)

  pub alone_reads : ReadsReplies → PlansNothing name s → outcome ≢ outcomes.BadReply
  alone_reads read plans =
      readable
      (syncs.fresh ids account old now (keeping_of runs.d) (keeping_of runs.made) (health_over no_calls runs.d.mishaps) runs.session.health wire_before wire_after
      (Some (device_at ∷ [])) outcome own.c (alone plans) refl told_now known own_end.sync own_end.because may) read
