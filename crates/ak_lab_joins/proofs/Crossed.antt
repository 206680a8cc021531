-- What a sync of a lab leaves that others may have crossed.
use Rattle.std.specs.List.{AllByRecursion}
use Rattle.std.specs.Prelude.{◌≡◌, ◌≢◌, ℕ, ℤ, ◌+ℤ◌, Bool, List, [], ◌∷◌, Option, Some}
use Rattle.std.proofs.Common.{refl, sym, ap, subst, ◌∙◌}
use Rattle.std.proofs.lemmas.Option.{same_Some}
use Rattle.ak_base.specs.declared.heads.Head.{Head}
use Rattle.ak_client.specs.Syncs.{CommitsAtMostOnce, HasRaised, KeepsDevice, MayBegin, Synced, Syncs}
use Rattle.ak_client.specs.declared.outcomes.Outcome.{Outcome}
use Rattle.ak_client.specs.declared.outcomes.Outcome.TheVariants as outcomes
use Rattle.ak_device.specs.Devices.{advanced_moment, moments_raised}
use Rattle.ak_exchange.specs.Asked.{asker, asks_in}
use Rattle.ak_exchange.specs.Phases.{holding}
use Rattle.ak_faults.specs.Causes.{one_more}
use Rattle.ak_keep.specs.Collections.{Collection}
use Rattle.ak_keep.specs.Keepers.{changed}
use Rattle.ak_lab.specs.LabStates.{LabState}
use Rattle.ak_lab.specs.LabSyncs.{EndsSync, server_met, with_fails}
use Rattle.ak_lab_devices.specs.Devices.{keeping_of, with_plan}
use Rattle.ak_lab_devices.specs.RestingKeepers.{Holds}
use Rattle.ak_lab_devices.specs.declared.devices.Device.{Device}
use Rattle.ak_lab_devices.specs.declared.plans.Planned.{Planned}
use Rattle.ak_lab_joins.proofs.Level.{finishes_fresh}
use Rattle.ak_lab_joins.proofs.Synced.{holds_is, kept_is, known_is, next_over, stands_still}
use Rattle.ak_lab_joins.proofs.Worlds.{commit_as}
use Rattle.ak_lab_joins.specs.LabCrossings.{FinishesOver, IsCrossedFresh, JoinsLate, KeepsCrossed, LeavesJoin, asked_by}
use Rattle.ak_lab_joins.specs.LabJoins.{HasRisen, HasSession, IsFinish, IsLinkedDevice, IsLinkedLab, StillHolds, lab_world, world_in}
use Rattle.ak_lab_wires.specs.CrossedSyncs.{CrossesAt, crosses_nothing}
use Rattle.ak_lab_wires.specs.LabSessions.{IsSessionOver, lab_host}
use Rattle.ak_lab_wires.specs.declared.lab_sessions.SessionKind.TheVariants as kinds
use Rattle.ak_merge.specs.Links.{AreLinked}
use Rattle.ak_messages.specs.declared.requests.Request.{Request}
use Rattle.ak_protocol.specs.Accounts.{AccountState}
use Rattle.ak_protocol.specs.Commits.{CommitsGrow, EachNewer, HasFreshSchema}
use Rattle.ak_protocol.specs.LawfulServers.{IsLawfulAccount}
use Rattle.ak_protocol.specs.Logs.{Event, IsTimely, Log, World, commits_of, events_of, with_growth}
use Rattle.ak_protocol.specs.Sessions.{IsOwnOrOther}
use Rattle.ak_protocol.specs.Syncs.{IsUnused, world_of}
use Rattle.ak_sync_in_memory.specs.Betweens.{Acting}
use Rattle.ak_sync_in_memory.specs.Entries.{LoggedState, log_in}
use Rattle.ak_sync_in_memory.specs.declared.mishaps.Mishap.{Mishap}

-- ---- what a device holds after any end but a finished one
still_held : (c : Collection) (device_at : ℤ) (d made : Device) (to_come : Option (List ℤ)) → keeping_of d ≡ holding c → (o : Outcome)
    → KeepsDevice 1 (keeping_of d) (keeping_of made) (Some (device_at ∷ [])) to_come o → o ≢ outcomes.Finished → StillHolds device_at c o made
still_held c device_at d made to_come known o keeps other = by o keeps other
  where
    same : keeping_of made ≡ keeping_of d → Holds made.collection c
    same is = holds_is made c (kept_is made c (is ∙ known))

    risen : HasRaised 1 (keeping_of d) (keeping_of made) (Some (device_at ∷ [])) to_come → HasRisen device_at c made
    risen raised =
        let head : Head = record c.head { moment = advanced_moment raised.at c.head.moment; schema = advanced_moment raised.at c.head.schema } in
        let left : Collection = record c { head = head } in
        subst (λ (m : ℤ). HasRisen m c made) (stands_still device_at raised.at to_come raised.given)
        (holds_is made left (kept_is made left (raised.raises ∙ ap (changed (moments_raised raised.at)) known)))

    by : (o : Outcome) → KeepsDevice 1 (keeping_of d) (keeping_of made) (Some (device_at ∷ [])) to_come o → o ≢ outcomes.Finished → StillHolds device_at c o made
    by outcomes.Finished keeps other = absurd (other refl)
    by (outcomes.BadRow fault) keeps other = risen keeps
    by (outcomes.BadCounts client server) keeps other = risen keeps
    by outcomes.NoChanges keeps other = same keeps
    by (outcomes.FullSchema device server) keeps other = same keeps
    by (outcomes.FullSequence usn) keeps other = same keeps
    by (outcomes.ClockOff device server) keeps other = same keeps
    by (outcomes.OwnCheck fault) keeps other = same keeps
    by outcomes.Stopped keeps other = same keeps
    by (outcomes.Refused status word seen) keeps other = same keeps
    by outcomes.Lost keeps other = same keeps
    by outcomes.BadReply keeps other = same keeps
    by outcomes.TooManyChunks keeps other = same keeps
    by outcomes.Keep keeps other = same keeps
    by outcomes.Memory keeps other = same keeps

-- ---- a sync over a wire, of a device without what was planned
module _ {X : Type 0} (acts : Acting X) (idle : X → Bool) (account : AccountState) (key : ℕ) (at device_at : ℤ) (mishaps kept : List Mishap) (planned : List Planned) (d made : Device)
    (was became : X) (old new : LoggedState) (outcome : Outcome)
    (session : IsSessionOver acts idle kinds.Sync key at (device_at ∷ []) mishaps (with_plan kept planned d) made was became old new outcome)
    (unused : IsUnused lab_host key account (log_in old)) (lawful : IsLawfulAccount (world_in lab_host account old).state)
    (own : IsLinkedDevice (world_in lab_host account old).state.committed d) (fresh : IsCrossedFresh d (world_in lab_host account old) (world_in lab_host account new)) where
  known : keeping_of d ≡ holding own.c
  known = known_is d own.c own.holds

  held : Holds d.collection own.c
  held = holds_is d own.c own.holds

  -- by the host key of the session, which is the lab's
  same_host : lab_host ≡ session.ids.host.digits
  same_host = sym session.of.host

  unused_here : IsUnused session.ids.host.digits session.ids.session.0 account (log_in old)
  unused_here =
      subst (λ (h : List ℕ). IsUnused h session.ids.session.0 account (log_in old)) same_host
      (subst (λ (k : ℕ). IsUnused lab_host k account (log_in old)) (sym session.of.session) unused)

  pub may : MayBegin (asker session.ids) own.c account (log_in old)
  may = record {
    unused = unused_here;
    lawful = subst (λ (h : List ℕ). IsLawfulAccount (world_in h account old).state) same_host lawful;
    linked = subst (λ (h : List ℕ). AreLinked own.c (world_in h account old).state.committed) same_host own.links.linked;
  }

  each_here : EachNewer (HasFreshSchema own.c) (world_in session.ids.host.digits account old) (world_in session.ids.host.digits account new)
  each_here = subst (λ (h : List ℕ). EachNewer (HasFreshSchema own.c) (world_in h account old) (world_in h account new)) same_host (fresh own.c held)

  -- what the client promises
  pub synced : Synced (asker session.ids) session.ended.ended.sync.asked.moment (asks_in session.ended.ended.sync.asked.tries) own.c account (log_in old) (log_in new) (keeping_of made) outcome
  synced =
      let sync = session.ended.ended.sync in
      let it = sync.told (log_in old) refl in
      let now : it.0 ≡ log_in new = same_Some it.0 (log_in new) (sym it.1 ∙ ap (λ (z : LoggedState). Some (log_in z)) session.server) in
      let syncs : Syncs session.ids sync.asked.moment (asks_in sync.asked.tries) (keeping_of d) (keeping_of made) (log_in old) (log_in new) outcome =
      subst (λ (log : Log). Syncs session.ids sync.asked.moment (asks_in sync.asked.tries) (keeping_of d) (keeping_of made) (log_in old) log outcome) now it.2 in
      syncs own.c account known may each_here

  leads : CommitsGrow (world_in lab_host account old) (world_in lab_host account new)
  leads = subst (λ (h : List ℕ). CommitsGrow (world_in h account old) (world_in h account new)) (sym same_host) synced.server

  finishes_over : outcome ≡ outcomes.Finished → FinishesOver key d made (world_in lab_host account old) (world_in lab_host account new)
  finishes_over is =
      let it = synced.finished is in
      record {
        c = own.c;
        held = held;
        base = synced.base;
        after = it.after;
        device = it.device;
        holds = holds_is made it.device (kept_is made it.device it.holds);
        once = subst (λ (k : ℕ). commits_of k (world_in lab_host account new).commits ≡ commit_as k synced.base it.after ∷ []) session.of.session
            (subst (λ (h : List ℕ). commits_of session.ids.session.0 (world_in h account new).commits ≡ commit_as session.ids.session.0 synced.base it.after ∷ [])
            (sym same_host) it.only);
        joined = it.exchanged;
        leads = leads;
      }

  keeps_crossed : outcome ≢ outcomes.Finished → KeepsCrossed device_at d made (world_in lab_host account old) (world_in lab_host account new) outcome
  keeps_crossed other =
      record { c = own.c; held = held; still = still_held own.c device_at d made session.to_come known outcome session.device other; leads = leads }

  -- what it asked after its meta
  abbrev asked : List Request
  asked = asked_by session.ids session.ended.ended.sync.asked.moment session.ended.ended.sync.asked.tries

  joins_late : JoinsLate account key d session.ended.ended.sync.asked.moment asked (log_in new)
  joins_late = record { c = own.c; held = held; base = synced.base; once = λ later timely keys. once_by later timely keys }
    where
      once_by : (later : List Event) → AllByRecursion IsTimely later → AllByRecursion (IsOwnOrOther key asked session.ended.ended.sync.asked.moment) (events_of lab_host later)
          → CommitsAtMostOnce key own.c synced.base (world_of lab_host account (with_growth (log_in new) later)).commits
      once_by later timely keys =
          subst (λ (k : ℕ). CommitsAtMostOnce k own.c synced.base (world_of lab_host account (with_growth (log_in new) later)).commits) session.of.session
          (subst (λ (h : List ℕ). CommitsAtMostOnce session.ids.session.0 own.c synced.base (world_of h account (with_growth (log_in new) later)).commits) (sym same_host)
          (synced.once later timely
          (subst (λ (h : List ℕ). AllByRecursion (IsOwnOrOther session.ids.session.0 asked session.ended.ended.sync.asked.moment) (events_of h later)) same_host
          (subst (λ (k : ℕ). AllByRecursion (IsOwnOrOther k asked session.ended.ended.sync.asked.moment) (events_of lab_host later)) (sym session.of.session) keys))))

  pub leaves_join : LeavesJoin account key device_at d made session.ended.ended.sync.asked.moment asked (log_in old) (log_in new) outcome
  leaves_join = record { finished = finishes_over; others = keeps_crossed; late = joins_late }

-- ---- a sync of the lab
module _ (account : AccountState) (name : List ℕ) (s t : LabState) (crossed : List (List ℕ)) (outcome : Outcome) (linked : IsLinkedLab account s) (room : HasSession s)
    (ends : EndsSync name s t crossed outcome) (fresh : IsCrossedFresh ends.runs.d (lab_world account s) (lab_world account t)) where
  pub sync_leaves : LeavesJoin account (one_more s.sessions) (s.clock +ℤ ends.runs.d.shift) ends.runs.d ends.runs.made ends.runs.session.ended.ended.sync.asked.moment
      (asked_by ends.runs.session.ids ends.runs.session.ended.ended.sync.asked.moment ends.runs.session.ended.ended.sync.asked.tries) (log_in s.server) (log_in t.server) outcome
  sync_leaves =
      leaves_join CrossesAt crosses_nothing account (one_more s.sessions) s.clock (s.clock +ℤ ends.runs.d.shift) ends.runs.d.mishaps [] [] ends.runs.d ends.runs.made
      ends.runs.was ends.runs.became (server_met kinds.Sync s) (with_fails ends.runs.fails_left t.server) outcome ends.runs.session
      (linked.server.unused (one_more s.sessions) (next_over s.sessions room)) linked.server.lawful (linked.devices name ends.runs.d (ends.is.held ends.runs.d ends.runs.at)) fresh

-- if each commit is a finish
pub finishes_crossed_fresh : (d : Device) (before now : World) → EachNewer IsFinish before now → IsCrossedFresh d before now
finishes_crossed_fresh d before now each c holds newer is = finishes_fresh c newer (each newer is)
