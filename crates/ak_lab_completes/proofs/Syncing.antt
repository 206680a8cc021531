-- That a sync of a lab which nothing hinders, unless its messages are lost, is such a sync over its wire, and how it ends.
use Rattle.std.specs.List.{AllByRecursion}
use Rattle.std.specs.Prelude.{◌≡◌, ◌≢◌, ◌⊎◌, ◌<◌, ◌≤◌, ◌+ℤ◌, ℕ, ℤ, true, List, [], ◌∷◌, Some}
use Rattle.std.proofs.Common.{refl, sym, ap, subst, ◌∙◌, inl, inr, arith}
use Rattle.std.proofs.lemmas.Option.{same_Some}
use Rattle.ak_call_counts.specs.CallCounts.{no_calls}
use Rattle.ak_client.proofs.Losing.{lost_cause}
use Rattle.ak_client.specs.Syncs.{IsSync, world_at}
use Rattle.ak_client.specs.declared.outcomes.Outcome.{Outcome}
use Rattle.ak_client.specs.declared.outcomes.Outcome.TheVariants as outcomes
use Rattle.ak_client_wire.specs.Wires.{WireKind, WireState}
use Rattle.ak_exchange.specs.Asked.{asker}
use Rattle.ak_exchange.specs.Phases.{held_by, holding}
use Rattle.ak_exchange.specs.declared.envelopes.Ids.{Ids}
use Rattle.ak_faults.proofs.Healths.{goes_nowhere}
use Rattle.ak_faults.specs.Causes.{Health, one_more}
use Rattle.ak_keep.specs.Collections.{Collection, Holding, IsWellFormed, collection_of}
use Rattle.ak_keep.specs.Keepers.{all_known}
use Rattle.ak_keep.specs.Marks.{WithMark}
use Rattle.ak_lab.specs.LabStates.{LabState}
use Rattle.ak_lab.specs.LabSyncs.{EndsSync, RunsAt, server_met, with_fails, without_plan_for}
use Rattle.ak_lab_completes.proofs.Coming.{AddsCalm, all_near, log_grown, none_at_fault, session_adds}
use Rattle.ak_lab_completes.specs.LabCompleting.{BeginsLeftAlone, LabEndsOrIsLost, LabEndsWith}
use Rattle.ak_lab_devices.specs.Devices.{device_of, keeping_of}
use Rattle.ak_lab_devices.specs.RestingKeepers.{Holds, kept_of}
use Rattle.ak_lab_devices.specs.declared.devices.Device.{Device}
use Rattle.ak_lab_devices.specs.declared.plans.Planned.{Planned}
use Rattle.ak_lab_joins.specs.LabBreaks.{HasBreak, HasNoBreak}
use Rattle.ak_lab_joins.specs.LabJoins.{IsLinkedDevice, committed_of, world_in}
use Rattle.ak_lab_joins.specs.LabMishaps.{LosesNothing}
use Rattle.ak_lab_wires.specs.CrossedSyncs.{CrossesAt, crosses_nothing}
use Rattle.ak_lab_wires.specs.LabSessions.{lab_host}
use Rattle.ak_lab_wires.specs.Turns.{plans_nothing}
use Rattle.ak_lab_wires.specs.declared.lab_sessions.SessionKind.TheVariants as kinds
use Rattle.ak_merge.specs.Links.{AreLinked}
use Rattle.ak_protocol.specs.Accounts.{AccountState}
use Rattle.ak_protocol.specs.LawfulServers.{IsLawfulAccount}
use Rattle.ak_protocol.specs.Logs.{Event, Log, with_growth}
use Rattle.ak_protocol.specs.Syncs.{IsUnused}
use Rattle.ak_sync_completes.specs.Completing.{AreJoinable, EndsWell, HasNoKeeperFault, IsMetaNear, IsSyncOver, IsUnhindered, SyncEnds}
use Rattle.ak_sync_in_memory.specs.Entries.{LoggedState, events_in, log_in}
use Rattle.ak_sync_in_memory.specs.LoopWires.{health_over, inside_with, loop_kind, state_of_loop}
use Rattle.ak_transfer_laws.specs.Completing.{EndsWith, IsLeftAlone, committed_before}

-- the kind of a lab's wires
abbrev pub lab_kind : WireKind
lab_kind = loop_kind CrossesAt crosses_nothing

-- ---- laws of others
-- a device's keeper fails only where a break of it stands
abbrev pub FailsByBreak : Type 0
FailsByBreak = (name : List ℕ) (s t : LabState) (crossed : List (List ℕ)) → EndsSync name s t crossed outcomes.Keep → HasBreak name s

-- and none stands where none is said to
abbrev pub NoneStands : Type 0
NoneStands = (name : List ℕ) (s : LabState) → HasNoBreak name s → HasBreak name s → ⊥

-- a sync that nothing hinders is finished, or lost, or memory ran out
abbrev pub SyncsComplete : Type 0
SyncsComplete = (ids : Ids) (c : Collection) (account : AccountState) (before after : SyncEnds lab_kind) (outcome : Outcome)
    → (it : IsUnhindered ids c account before after) → IsSyncOver ids before after outcome → EndsWell it.growth outcome ⊎ (outcome ≡ outcomes.Lost)

-- one that is left alone and stops at its meta, because of the two collections, comes to this
abbrev pub StopsAtMeta : (Collection → Collection → Type 0) → (Collection → Collection → Outcome) → Type 0
StopsAtMeta P wanted = (ids : Ids) (c : Collection) (account : AccountState) (before after : SyncEnds lab_kind) (outcome : Outcome)
    → (it : IsLeftAlone ids c account before after) → P c (committed_before ids account it.old) → IsSyncOver ids before after outcome
    → EndsWith (wanted c (committed_before ids account it.old)) it.growth outcome ⊎ (outcome ≡ outcomes.Lost)

-- ---- small facts
-- no fault was counted
abbrev faultless : Health
faultless = record { faults = 0; calm = true }

never_rises : one_more 0 ≤ 0 → ⊥
never_rises rose = omega (arith, rose)

next_over : (n : ℕ) → n < 18_446_744_073_709_551_615 → n < one_more n
next_over n low = omega (arith, low)

-- a sync that completes is finished, or memory ran out
finished_or_out : (growth : List Event) (o : Outcome) → EndsWell growth o → EndsWith outcomes.Finished growth o
finished_or_out growth outcomes.Finished well = inl refl
finished_or_out growth outcomes.NoChanges well = absurd well
finished_or_out growth (outcomes.FullSchema device server) well = absurd well
finished_or_out growth (outcomes.FullSequence usn) well = absurd well
finished_or_out growth (outcomes.BadRow fault) well = absurd well
finished_or_out growth (outcomes.BadCounts client server) well = absurd well
finished_or_out growth (outcomes.ClockOff device server) well = absurd well
finished_or_out growth (outcomes.OwnCheck fault) well = absurd well
finished_or_out growth outcomes.Stopped well = absurd well
finished_or_out growth (outcomes.Refused status word seen) well = inr (inr (status, word, seen, refl, well))
finished_or_out growth outcomes.Lost well = absurd well
finished_or_out growth outcomes.BadReply well = absurd well
finished_or_out growth outcomes.TooManyChunks well = absurd well
finished_or_out growth outcomes.Keep well = absurd well
finished_or_out growth outcomes.Memory well = inr (inl refl)

-- ---- without losses
-- no request is lost, if no message is to be
unlost : (name : List ℕ) (s t : LabState) (crossed : List (List ℕ)) (outcome : Outcome) → LosesNothing name s → EndsSync name s t crossed outcome → outcome ≢ outcomes.Lost
unlost name s t crossed outcome losses ended =
    ended.runs.session.unlost (losses ended.runs.d (ended.is.held ended.runs.d ended.runs.at))

pub ends_unlost : (wanted : Outcome) (name : List ℕ) (s t : LabState) (crossed : List (List ℕ)) (outcome : Outcome) → LosesNothing name s → EndsSync name s t crossed outcome
    → LabEndsOrIsLost wanted s t outcome → LabEndsWith wanted s t outcome
ends_unlost wanted name s t crossed outcome losses ended (inl ends) = ends
ends_unlost wanted name s t crossed outcome losses ended (inr lost) = absurd (unlost name s t crossed outcome losses ended lost)

-- ---- the sync
module _ (account : AccountState) (name : List ℕ) (s t : LabState) (c : Collection) (crossed : List (List ℕ)) (outcome : Outcome)
    (begins : BeginsLeftAlone account name s c) (ended : EndsSync name s t crossed outcome) (by_break : FailsByBreak) (stands : NoneStands) where
  abbrev runs : RunsAt kinds.Sync ended.place s t crossed outcome
  runs = ended.runs

  abbrev d : Device
  d = runs.d

  abbrev ids : Ids
  ids = runs.session.ids

  abbrev host : List ℕ
  host = ids.host.digits

  abbrev same_host : ids.host.digits ≡ lab_host
  same_host = runs.session.of.host

  found : device_of name s.devices ≡ Some runs.d
  found = ended.is.held runs.d runs.at

  -- ---- what the device holds
  abbrev own : IsLinkedDevice (committed_of account s) runs.d
  own = begins.linked.devices name runs.d found

  here_held : Holds runs.d.collection c
  here_held =
      subst (λ (x : Device). Holds x.collection c) (same_Some begins.holds.0 runs.d (sym begins.holds.1 ∙ found)) begins.holds.2

  own_is : own.c ≡ c
  own_is = same_Some own.c c (sym (ap (λ (k : WithMark Holding). collection_of k.current) own.holds) ∙ here_held)

  known : keeping_of (without_plan_for kinds.Sync runs.d) ≡ holding c
  known = ap all_known (own.holds ∙ ap kept_of own_is)

  -- ---- the log of the server
  nothing_planned : runs.was.acts ≡ []
  nothing_planned = runs.begins.acts ∙ begins.goes.plans runs.d found

  adds : AddsCalm s.clock (server_met kinds.Sync s) (with_fails runs.fails_left t.server)
  adds =
      session_adds kinds.Sync _ s.clock _ _ _ runs.made runs.was runs.became (server_met kinds.Sync s) (with_fails runs.fails_left t.server) outcome
      runs.session nothing_planned begins.goes.server

  abbrev growth : List Event
  growth = events_in s.server.host adds.added

  abbrev old : Log
  old = log_in s.server

  abbrev now : Log
  now = log_in t.server

  grown : now ≡ with_growth old growth
  grown = log_grown s.clock (server_met kinds.Sync s) (with_fails runs.fails_left t.server) adds

  all_calm : AllByRecursion HasNoKeeperFault growth
  all_calm = none_at_fault s.clock s.server.host adds.added adds.each

  metas_near : AllByRecursion (IsMetaNear (s.clock +ℤ runs.d.shift)) growth
  metas_near = all_near s.clock (s.clock +ℤ runs.d.shift) (begins.goes.clocks runs.d found) s.server.host adds.added adds.each

  -- ---- it may begin
  unused : IsUnused ids.host.digits ids.session.0 account old
  unused =
      subst (λ (h : List ℕ). IsUnused h ids.session.0 account old) (sym same_host)
      (begins.linked.server.unused ids.session.0
      (subst (λ (key : ℕ). s.sessions < key) (sym runs.session.of.session) (next_over s.sessions begins.goes.room)))

  lawful : IsLawfulAccount (world_at (asker ids) account old).state
  lawful = subst (λ (h : List ℕ). IsLawfulAccount (world_in h account s.server).state) (sym same_host) begins.linked.server.lawful

  base_is : (world_at (asker ids) account old).state.committed ≡ committed_of account s
  base_is = ap (λ (h : List ℕ). (world_in h account s.server).state.committed) same_host

  linked : AreLinked c (world_at (asker ids) account old).state.committed
  linked =
      subst (λ (base : Collection). AreLinked c base) (sym base_is)
      (subst (λ (x : Collection). AreLinked x (committed_of account s)) own_is own.links.linked)

  -- ---- its two ends
  abbrev device_at : ℤ
  device_at = s.clock +ℤ runs.d.shift

  abbrev wire_before : WireState lab_kind
  wire_before = state_of_loop CrossesAt crosses_nothing (inside_with (server_met kinds.Sync s) runs.was s.clock runs.d.mishaps no_calls)

  abbrev wire_after : WireState lab_kind
  wire_after = state_of_loop CrossesAt crosses_nothing runs.session.end

  abbrev before : SyncEnds lab_kind
  before = record {
    keeping = keeping_of (without_plan_for kinds.Sync runs.d);
    keeper = faultless;
    health = health_over no_calls runs.d.mishaps;
    wire = wire_before;
    moments = Some (device_at ∷ []);
  }

  abbrev after : SyncEnds lab_kind
  after = record {
    keeping = keeping_of runs.made;
    keeper = faultless;
    health = runs.session.health;
    wire = wire_after;
    moments = runs.session.to_come;
  }

  alone : crosses_nothing runs.was ≡ true
  alone = ap (λ (l : List Planned). plans_nothing l) nothing_planned

  told_now : wire_after.log ≡ Some now
  told_now = ap (λ (z : LoggedState). Some (log_in z)) runs.session.server

  -- the device's keeper did not fail
  unkept : outcome ≢ outcomes.Keep
  unkept is = stands name s begins.goes.device (by_break name s t crossed (subst (EndsSync name s t crossed) is ended))

  abbrev sync : IsSync ids (keeping_of (without_plan_for kinds.Sync runs.d)) (keeping_of runs.made) (health_over no_calls runs.d.mishaps) runs.session.health
      wire_before wire_after outcome
  sync = runs.session.ended.ended.sync

  over : IsSyncOver ids before after outcome
  over = record {
    ended = runs.session.ended.ended;
    kept = record { goes = goes_nowhere faultless; failed = λ is. absurd (unkept is); unfailed = λ calm. unkept };
    lost = lost_cause ids (keeping_of (without_plan_for kinds.Sync runs.d)) (keeping_of runs.made) (health_over no_calls runs.d.mishaps) runs.session.health
        wire_before wire_after outcome sync;
  }

  so : (wanted : Outcome) → EndsWith wanted growth outcome ⊎ (outcome ≡ outcomes.Lost) → LabEndsOrIsLost wanted s t outcome
  so wanted (inl ends) = inl (record { added = adds.added; entries = adds.entries; ends = ends })
  so wanted (inr lost) = inr lost

  -- ---- the two may be joined
  abbrev unhindered : AreJoinable c (committed_of account s) → IsUnhindered ids c account before after
  unhindered joinable = record {
    old = old;
    now = now;
    begins = record {
      alone = alone;
      holds = known;
      told = refl;
      told_now = told_now;
      may = record { unused = unused; lawful = lawful; linked = linked };
    };
    joinable = subst (AreJoinable c) (sym base_is) joinable;
    growth = growth;
    grown = grown;
    at = device_at;
    later = [];
    clock = refl;
    near = metas_near;
    server = all_calm;
    keeper = never_rises;
    reading = never_rises;
  }

  pub finishes : SyncsComplete → AreJoinable c (committed_of account s) → LabEndsOrIsLost outcomes.Finished s t outcome
  finishes completes joinable =
      so outcomes.Finished (by (completes ids c account before after outcome (unhindered joinable) over))
    where
      by : EndsWell growth outcome ⊎ (outcome ≡ outcomes.Lost) → EndsWith outcomes.Finished growth outcome ⊎ (outcome ≡ outcomes.Lost)
      by (inl well) = inl (finished_or_out growth outcome well)
      by (inr lost) = inr lost

  -- ---- the two collections stop it at its meta
  well_formed : IsWellFormed (held_by c)
  well_formed = begins.formed

  abbrev left_alone : IsLeftAlone ids c account before after
  left_alone = record {
    old = old;
    now = now;
    alone = alone;
    holds = known;
    formed = well_formed;
    told = refl;
    told_now = told_now;
    may = record { unused = unused; lawful = lawful };
    growth = growth;
    grown = grown;
    at = device_at;
    later = [];
    clock = refl;
    near = metas_near;
    server = all_calm;
    keeper = never_rises;
    reading = never_rises;
  }

  pub stops : (P : Collection → Collection → Type 0) (wanted : Collection → Collection → Outcome) → StopsAtMeta P wanted → P c (committed_of account s)
      → LabEndsOrIsLost (wanted c (committed_of account s)) s t outcome
  stops P wanted stopped holds =
      so (wanted c (committed_of account s))
      (subst (λ (base : Collection). EndsWith (wanted c base) growth outcome ⊎ (outcome ≡ outcomes.Lost)) base_is
      (stopped ids c account before after outcome left_alone (subst (P c) (sym base_is) holds) over))
