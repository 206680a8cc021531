-- A sync that others cross leaves all devices linked with the server, as long as nothing but finishes is committed meanwhile.
use Rattle.std.specs.List.{AllByRecursion}
use Rattle.std.specs.Prelude.{◌≡◌, ◌≢◌, ◌⊎◌, ℕ, ℤ, ◌+ℤ◌, ◌<◌, ◌≤◌, ◌≤ℤ◌, ◌<ℤ◌, Bool, true, false, List, [], ◌∷◌, Some, slice_get, slice_set}
use Rattle.std.proofs.Common.{refl, sym, ap, subst, ◌∙◌, inl, inr, arith}
use Rattle.std.proofs.lemmas.Int.{ints}
use Rattle.std.proofs.lemmas.List.{append_cancel_left}
use Rattle.std.proofs.lemmas.Option.{same_Some}
use Rattle.ak_base.specs.Limits.{last_moment}
use Rattle.ak_call_counts.specs.CallCounts.{no_calls}
use Rattle.ak_client.proofs.Growing.{HasGrown, tried_grows}
use Rattle.ak_client.specs.Greetings.{meta_of}
use Rattle.ak_client.specs.declared.outcomes.Outcome.{Outcome}
use Rattle.ak_exchange.specs.Asked.{answers_in, asker, asks_in}
use Rattle.ak_faults.specs.Causes.{one_more}
use Rattle.ak_keep.specs.Collections.{Collection}
use Rattle.ak_lab.specs.LabStates.{LabState}
use Rattle.ak_lab.specs.LabSyncs.{EndsLabSession, EndsSync, mishaps_for, server_met, with_fails}
use Rattle.ak_lab_devices.specs.Devices.{device_of, with_plan}
use Rattle.ak_lab_devices.specs.RestingKeepers.{Holds}
use Rattle.ak_lab_devices.specs.declared.devices.Device.{Device}
use Rattle.ak_lab_joins.proofs.CrossedDevice.{crossed_device_linked, crossed_device_schema}
use Rattle.ak_lab_joins.proofs.Crossers.{calls_leave}
use Rattle.ak_lab_joins.proofs.Crossings.{AreKept, IsLinkedOver, Stays, base_in, fails_apart, kept_with, level_with, session_stays}
use Rattle.ak_lab_joins.proofs.Keys.{AreOwnCalls, own_calls}
use Rattle.ak_lab_joins.proofs.Level.{IsLevel, schema_now}
use Rattle.ak_lab_joins.proofs.Names.{has_place, place_found, put_back_names, put_or_old}
use Rattle.ak_lab_joins.proofs.NoUploads.{none_came, only_finishes}
use Rattle.ak_lab_joins.proofs.Synced.{holds_is, held_once, next_over}
use Rattle.ak_lab_joins.specs.EachCrossed.{HoldsOfEachCrossed}
use Rattle.ak_lab_joins.specs.LabCrossings.{CrossedLeavesJoin}
use Rattle.ak_lab_joins.specs.LabJoins.{AreUnlike, DeviceHolds, HasNoUpload, HasOrderedSchemas, HasSession, IsFinish, IsLevelFresh, IsLinkedDevice, IsLinkedLab, IsLinkedServer, committed_of, device_names, lab_world}
use Rattle.ak_lab_wires.specs.CrossedSyncs.{CrossState, CrossesAt, cross_state, crosses_nothing}
use Rattle.ak_lab_wires.specs.LabSessions.{fails_in, lab_host}
use Rattle.ak_lab_wires.specs.declared.lab_sessions.SessionKind.{SessionKind}
use Rattle.ak_lab_wires.specs.declared.lab_sessions.SessionKind.TheVariants as kinds
use Rattle.ak_protocol.specs.Accounts.{AccountState}
use Rattle.ak_protocol.specs.Commits.{EachNewer}
use Rattle.ak_protocol.specs.Logs.{Event, IsTimely, Log, with_growth}
use Rattle.ak_session.specs.Plans.{requests_from}
use Rattle.ak_sync_in_memory.specs.Entries.{LoggedState, log_in}
use Rattle.ak_sync_in_memory.specs.LoopWires.{health_over, inside_with, state_of_loop}

-- ---- a session of any kind
-- the lab before its first call: a device without a name stands in for the one that has the session
abbrev begun : (kind : SessionKind) (name : List ℕ) (s t : LabState) (crossed : List (List ℕ)) (outcome : Outcome) → EndsLabSession kind name s t crossed outcome → CrossState
begun kind name s t crossed outcome ends =
    record { clock = s.clock; sessions = one_more s.sessions; devices = slice_set s.devices ends.place ends.runs.begins.stand_in; printed = [] }

module _ (account : AccountState) (ordered : Bool) (kind : SessionKind) (name : List ℕ) (s t : LabState) (crossed : List (List ℕ)) (outcome : Outcome)
    (ends : EndsLabSession kind name s t crossed outcome) where
  abbrev begins : CrossState
  begins = begun kind name s t crossed outcome ends

  -- its own session has begun then
  pub begun_past : one_more s.sessions ≤ ends.runs.was.lab.sessions
  begun_past = no_more (one_more s.sessions) ends.runs.was.lab.sessions (ap (λ (x : CrossState). x.sessions) ends.runs.begins.lab)
    where
      no_more : (a b : ℕ) → b ≡ a → a ≤ b
      no_more a b is = omega (arith, is)

  pub calls_stay : AreOwnCalls (one_more s.sessions) ends.runs.session.calls → Stays account ordered ends.place begins (cross_state ends.runs.became.lab) s.server t.server
  calls_stay own =
      subst (λ (x : CrossState). Stays account ordered ends.place x (cross_state ends.runs.became.lab) s.server t.server) ends.runs.begins.lab
      (fails_apart account ordered ends.place (cross_state ends.runs.was.lab) (cross_state ends.runs.became.lab) s.server t.server (fails_in kind s.fails) ends.runs.fails_left
      (session_stays account ordered ends.place (one_more s.sessions) s.clock (mishaps_for kind ends.runs.d) 0 ends.runs.session.calls ends.runs.was ends.runs.became
      (server_met kind s) (with_fails ends.runs.fails_left t.server) own ends.runs.session.come begun_past))

-- ---- a sync
module _ (account : AccountState) (ordered : Bool) (name : List ℕ) (s t : LabState) (crossed : List (List ℕ)) (outcome : Outcome)
    (ends : EndsSync name s t crossed outcome) where
  own_asked : AreOwnCalls (one_more s.sessions) ends.runs.session.calls
  own_asked =
      let sync = ends.runs.session.ended.ended.sync in
      own_calls (one_more s.sessions) ends.runs.session.ids sync.asked.moment sync.asked.tries (sync.asked.meta ∷ answers_in sync.asked.tries) ends.runs.session.calls ends.runs.session.of.session sync.bounded.rows ends.runs.session.asked

  pub stays : Stays account ordered ends.place (begun kinds.Sync name s t crossed outcome ends) (cross_state ends.runs.became.lab) s.server t.server
  stays = calls_stay account ordered kinds.Sync name s t crossed outcome ends own_asked

  -- what came, at moments of a clock
  grown_timely : HasGrown (log_in s.server) (state_of_loop CrossesAt crosses_nothing ends.runs.session.end).log
  grown_timely =
      let sync = ends.runs.session.ended.ended.sync in
      tried_grows (meta_of ends.runs.session.ids ∷ requests_from (asker ends.runs.session.ids) sync.asked.moment 1 (asks_in sync.asked.tries)) (sync.asked.meta ∷ answers_in sync.asked.tries)
      (health_over no_calls ends.runs.d.mishaps) ends.runs.session.health
      (state_of_loop CrossesAt crosses_nothing (inside_with (server_met kinds.Sync s) ends.runs.was s.clock ends.runs.d.mishaps no_calls)) (state_of_loop CrossesAt crosses_nothing ends.runs.session.end)
      (log_in s.server) sync.asked.tried refl

  pub sync_timely : (growth : List Event) → log_in t.server ≡ with_growth (log_in s.server) growth → AllByRecursion IsTimely growth
  sync_timely growth is =
      let it = grown_timely in
      let now : it.now ≡ log_in t.server = same_Some it.now (log_in t.server) (sym it.is ∙ ap (λ (z : LoggedState). Some (log_in z)) ends.runs.session.server) in
      let same : it.growth ≡ growth =
      append_cancel_left (log_in s.server).events it.growth growth (ap (λ (log : Log). log.events) (sym it.grown ∙ now ∙ is)) in
      subst (AllByRecursion IsTimely) same it.timely

  -- nothing is uploaded if nothing was: so each commit is a finish
  pub sync_uploads_none : HasNoUpload s.server → HasNoUpload t.server
  sync_uploads_none none = stays.grows.uploads none

  pub sync_finishes : IsLinkedLab account s → HasNoUpload s.server → EachNewer IsFinish (lab_world account s) (lab_world account t)
  sync_finishes linked none =
      only_finishes account s.server t.server stays.grows.growth stays.grows.grown (sync_timely stays.grows.growth stays.grows.grown) linked.server.lawful
      (none_came s.server t.server stays.grows.growth stays.grows.grown (sync_uploads_none none))

-- ---- nothing but finishes is committed
module _ (account : AccountState) (ordered : Bool) (name : List ℕ) (s t : LabState) (crossed : List (List ℕ)) (outcome : Outcome) (linked : IsLinkedLab account s)
    (room : HasSession s) (ends : EndsSync name s t crossed outcome) (fresh : IsLevelFresh account s t)
    (low : ordered ≡ true → (other : List ℕ) (c : Collection) → DeviceHolds other s c → (committed_of account s).head.schema ≤ℤ c.head.schema) where
  abbrev key : ℕ
  key = one_more s.sessions

  abbrev stays_here : Stays account ordered ends.place (begun kinds.Sync name s t crossed outcome ends) (cross_state ends.runs.became.lab) s.server t.server
  stays_here = stays account ordered name s t crossed outcome ends

  level : IsLevel account s.server t.server
  level = record { finishes = fresh.1; timely = sync_timely account ordered name s t crossed outcome ends }

  -- ---- the lab before
  below_next : s.sessions < one_more s.sessions
  below_next = next_over s.sessions room

  server_before : IsLinkedServer lab_host account (one_more s.sessions) s.server
  server_before = record {
    host_is = linked.server.host_is;
    unused = λ other over. linked.server.unused other (later s.sessions (one_more s.sessions) other below_next over);
    lawful = linked.server.lawful;
    number = linked.server.number;
  }
    where
      later : (a b k : ℕ) → a < b → b < k → a < k
      later a b k low high = omega (arith, low, high)

  found_over : (other : List ℕ) (d : Device) → device_of other s.devices ≡ Some d → IsLinkedOver ordered (base_in account s.server) d
  found_over other d found =
      let it : IsLinkedDevice (base_in account s.server) d = linked.devices other d found in
      record { linked = it; order = λ asked. low asked other it.c (d, found, holds_is d it.c it.holds) }

  there_over : (at : ℕ) (d : Device) → slice_get s.devices at ≡ Some d → IsLinkedOver ordered (base_in account s.server) d
  there_over at d there = found_over d.name d (place_found s.devices at d linked.names there)

  begun_kept : AreKept account ordered ends.place (begun kinds.Sync name s t crossed outcome ends) s.server
  begun_kept = record {
    server = server_before;
    early = fresh.0;
    nameless = λ d there. no_name d (put_or_old s.devices ends.place ends.runs.begins.stand_in ends.place d there);
    devices = λ at d other there. by at d other (put_or_old s.devices ends.place ends.runs.begins.stand_in at d there);
  }
    where
      no_name : (d : Device) → ((ends.place ≡ ends.place) × (ends.runs.begins.stand_in ≡ d)) ⊎ ((ends.place ≢ ends.place) × (slice_get s.devices ends.place ≡ Some d)) → d.name ≡ []
      no_name d (inl (same, is)) = ap (λ (x : Device). x.name) (sym is) ∙ ends.runs.begins.nameless
      no_name d (inr (other, there)) = absurd (other refl)

      by : (at : ℕ) (d : Device) → at ≢ ends.place → ((at ≡ ends.place) × (ends.runs.begins.stand_in ≡ d)) ⊎ ((at ≢ ends.place) × (slice_get s.devices at ≡ Some d))
          → IsLinkedOver ordered (base_in account s.server) d
      by at d other (inl (same, is)) = absurd (other same)
      by at d other (inr (differs, there)) = there_over at d there

  -- ---- those that cross it
  pub crossers_leave : HoldsOfEachCrossed (CrossedLeavesJoin account) kinds.Sync name s t crossed outcome ends
  crossers_leave =
      calls_leave account ordered ends.place key ends.runs.d.mishaps s.clock 0 ends.runs.session.calls ends.runs.was ends.runs.became (server_met kinds.Sync s)
      (with_fails ends.runs.fails_left t.server) (own_asked account ordered name s t crossed outcome ends) ends.runs.session.come
      (begun_past account ordered kinds.Sync name s t crossed outcome ends)
      (level_with account ordered ends.place s.server t.server (fails_in kinds.Sync s.fails) ends.runs.fails_left level)
      (subst (λ (x : CrossState). AreKept account ordered ends.place x (server_met kinds.Sync s)) (sym ends.runs.begins.lab)
      (kept_with account ordered ends.place (begun kinds.Sync name s t crossed outcome ends) s.server (fails_in kinds.Sync s.fails) begun_kept))

  -- ---- the lab after
  kept : AreKept account ordered ends.place (cross_state ends.runs.became.lab) t.server
  kept = stays_here.kept level begun_kept

  schema_same : (committed_of account t).head.schema ≡ (committed_of account s).head.schema
  schema_same =
      schema_now account (one_more s.sessions) (cross_state ends.runs.became.lab).sessions s.server t.server stays_here.lab.later stays_here.grows level

  -- ---- the device that synced
  abbrev own : IsLinkedOver ordered (base_in account s.server) ends.runs.d
  own = found_over name ends.runs.d (ends.is.held ends.runs.d ends.runs.at)

  abbrev taken_linked : IsLinkedDevice (base_in account s.server) (with_plan [] [] ends.runs.d)
  taken_linked = record {
    c = own.linked.c;
    holds = own.linked.holds;
    named = own.linked.named;
    links = own.linked.links;
    suits = own.linked.suits;
  }

  made_linked : IsLinkedDevice (base_in account t.server) ends.runs.made
  made_linked =
      crossed_device_linked CrossesAt crosses_nothing account key s.clock (s.clock +ℤ ends.runs.d.shift) ends.runs.d.mishaps (with_plan [] [] ends.runs.d) ends.runs.made ends.runs.was ends.runs.became
      (server_met kinds.Sync s) (with_fails ends.runs.fails_left t.server) outcome ends.runs.session (linked.server.unused key below_next) linked.server.lawful fresh.0 taken_linked fresh.1

  made_schema : (x : Collection) → Holds ends.runs.made.collection x
      → (x.head.schema ≡ own.linked.c.head.schema) ⊎ ((base_in account s.server).head.schema <ℤ x.head.schema)
  made_schema x holds =
      crossed_device_schema CrossesAt crosses_nothing account key s.clock (s.clock +ℤ ends.runs.d.shift) ends.runs.d.mishaps (with_plan [] [] ends.runs.d) ends.runs.made ends.runs.was ends.runs.became
      (server_met kinds.Sync s) (with_fails ends.runs.fails_left t.server) outcome ends.runs.session (linked.server.unused key below_next) linked.server.lawful fresh.0 taken_linked fresh.1 x holds

  made_over : IsLinkedOver ordered (base_in account t.server) ends.runs.made
  made_over = record {
    linked = made_linked;
    order = λ asked. by asked (made_schema made_linked.c (holds_is ends.runs.made made_linked.c made_linked.holds));
  }
    where
      stays_low : (n b x c : ℤ) → n ≡ b → b ≤ℤ c → x ≡ c → n ≤ℤ x
      stays_low n b x c same low is = omega (arith, ints, same, low, is)

      rises : (n b x : ℤ) → n ≡ b → b <ℤ x → n ≤ℤ x
      rises n b x same up = omega (arith, ints, same, up)

      by : ordered ≡ true → (made_linked.c.head.schema ≡ own.linked.c.head.schema) ⊎ ((base_in account s.server).head.schema <ℤ made_linked.c.head.schema)
          → (base_in account t.server).head.schema ≤ℤ made_linked.c.head.schema
      by asked (inl same) =
          stays_low (base_in account t.server).head.schema (base_in account s.server).head.schema made_linked.c.head.schema own.linked.c.head.schema schema_same (own.order asked) same
      by asked (inr past) = rises (base_in account t.server).head.schema (base_in account s.server).head.schema made_linked.c.head.schema schema_same past

  -- ---- all devices
  abbrev put_back : List Device
  put_back = slice_set ends.runs.became.lab.devices.items ends.place ends.runs.made

  devices_over : (other : List ℕ) (d : Device) → device_of other put_back ≡ Some d → IsLinkedOver ordered (base_in account t.server) d
  devices_over other d found =
      let there = has_place other put_back d found in
      by there.0 (put_or_old ends.runs.became.lab.devices.items ends.place ends.runs.made there.0 d there.1)
    where
      by : (at : ℕ) → ((at ≡ ends.place) × (ends.runs.made ≡ d)) ⊎ ((at ≢ ends.place) × (slice_get ends.runs.became.lab.devices.items at ≡ Some d))
          → IsLinkedOver ordered (base_in account t.server) d
      by at (inl (same, is)) = subst (λ (x : Device). IsLinkedOver ordered (base_in account t.server) x) is made_over
      by at (inr (differs, there)) = kept.devices at d differs there

  names_stay : device_names put_back ≡ device_names s.devices
  names_stay =
      put_back_names ends.runs.became.lab.devices.items s.devices ends.place ends.runs.begins.stand_in ends.runs.d ends.runs.made stays_here.lab.faces ends.runs.at
      (ap (λ (x : Device). x.name) ends.runs.session.rest)

  pub crossed_linked : IsLinkedLab account t
  crossed_linked =
      subst (IsLinkedLab account) (sym ends.runs.left) (record {
        server = kept.server;
        names = subst AreUnlike (sym names_stay) linked.names;
        devices = λ other d found. (devices_over other d found).linked;
      })

  -- the order of the schema moments
  pub crossed_ordered : ordered ≡ true → HasOrderedSchemas account t
  crossed_ordered asked =
      subst (HasOrderedSchemas account) (sym ends.runs.left) (record {
        server = subst (λ (schema : ℤ). schema <ℤ last_moment) (sym schema_same) fresh.0;
        devices = λ other c held. by held.0 c held.2 (devices_over other held.0 held.1);
      })
    where
      by : (d : Device) (c : Collection) → Holds d.collection c → IsLinkedOver ordered (base_in account t.server) d → (committed_of account t).head.schema ≤ℤ c.head.schema
      by d c holds it =
          subst (λ (x : Collection). (committed_of account t).head.schema ≤ℤ x.head.schema) (sym (held_once d it.linked.c c it.linked.holds holds)) (it.order asked)

-- ---- with the order, and without it
never : false ≡ true → ⊥
never is = grind (arith, is)

module _ (account : AccountState) (name : List ℕ) (s t : LabState) (crossed : List (List ℕ)) (outcome : Outcome) (linked : IsLinkedLab account s)
    (room : HasSession s) (ends : EndsSync name s t crossed outcome) (fresh : IsLevelFresh account s t) where
  pub any_crossed_linked : IsLinkedLab account t
  any_crossed_linked = crossed_linked account false name s t crossed outcome linked room ends fresh (λ asked. absurd (never asked))

  pub any_crossers_leave : HoldsOfEachCrossed (CrossedLeavesJoin account) kinds.Sync name s t crossed outcome ends
  any_crossers_leave = crossers_leave account false name s t crossed outcome linked room ends fresh (λ asked. absurd (never asked))

  pub any_crossed_ordered : HasOrderedSchemas account s → HasOrderedSchemas account t
  any_crossed_ordered order = crossed_ordered account true name s t crossed outcome linked room ends fresh (λ asked. order.devices) refl
