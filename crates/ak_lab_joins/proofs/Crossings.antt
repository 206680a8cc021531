-- What comes between the calls of a sync, and its own requests, leave the other devices linked with the server, as long as nothing but finishes is
-- committed meanwhile.
use Rattle.std.specs.Prelude.{◌≡◌, ◌≢◌, ◌⊎◌, ℕ, ℤ, ◌+◌, ◌≤◌, ◌<◌, ◌≤ℤ◌, ◌<ℤ◌, ◌+ℤ◌, Bool, true, List, [], ◌∷◌, ◌++◌, Some, slice_get, slice_set, Ok, Err}
use Rattle.std.proofs.Common.{refl, sym, ap, subst, ◌∙◌, inl, inr, arith}
use Rattle.std.proofs.lemmas.Int.{ints}
use Rattle.ak_base.specs.Limits.{last_moment}
use Rattle.ak_client.specs.declared.outcomes.Outcome.{Outcome}
use Rattle.ak_keep.specs.Collections.{Collection}
use Rattle.ak_lab.specs.LabSyncs.{with_fails}
use Rattle.ak_lab_devices.specs.Devices.{with_plan}
use Rattle.ak_lab_devices.specs.Plans.{crossings_of}
use Rattle.ak_lab_devices.specs.declared.devices.Device.{Device}
use Rattle.ak_lab_devices.specs.declared.plans.Act.{Act}
use Rattle.ak_lab_devices.specs.declared.plans.Act.TheVariants as acts
use Rattle.ak_lab_joins.proofs.Crossed.{finishes_crossed_fresh, leaves_join}
use Rattle.ak_lab_joins.proofs.CrossedDevice.{crossed_device_linked, crossed_device_schema}
use Rattle.ak_lab_joins.proofs.Keys.{AreOwnCalls, IsOwnRequest, again_under, served_under, session_under}
use Rattle.ak_lab_joins.proofs.Level.{GrowsUnder, IsLevel, device_now, further_under, level_first, level_rest, nothing_under, schema_now, server_now, wider_under}
use Rattle.ak_lab_joins.proofs.Names.{put_or_old}
use Rattle.ak_lab_joins.proofs.Servers.{fails_set, fails_unset}
use Rattle.ak_lab_joins.proofs.Synced.{held_once, holds_is}
use Rattle.ak_lab_joins.specs.LabCrossings.{CrossedLeavesJoin, LeavesJoin, asked_by}
use Rattle.ak_lab_joins.specs.LabJoins.{HasNoUpload, IsFinish, IsLinkedDevice, IsLinkedServer, world_in}
use Rattle.ak_lab_lines.specs.LabTexts.{sync_text}
use Rattle.ak_lab_devices.specs.RestingKeepers.{Holds}
use Rattle.ak_lab_wires.proofs.Keeping.{KeepsOn, calls_keep, turns_keep}
use Rattle.ak_lab_wires.proofs.Kept.{StaysLab, face_of, same_faces}
use Rattle.ak_lab_wires.specs.CrossedSyncs.{ActsBy, ActsOnce, CrossState, CrossedSync, CrossesAt, TellsCrossed, cross_state, crosses_nothing}
use Rattle.ak_lab_wires.specs.LabSessions.{ComeInCalls, lab_host}
use Rattle.ak_lab_wires.specs.Replaying.{ReplaysAt, replays_nothing}
use Rattle.ak_lab_wires.specs.Servings.{with_line}
use Rattle.ak_lab_wires.specs.Turns.{due}
use Rattle.ak_lab_wires.specs.declared.crossed_syncs.Crossings.{Crossings}
use Rattle.ak_sync_in_memory.specs.Betweens.{ActEnd}
use Rattle.ak_sync_in_memory.specs.Entries.{LoggedState, log_in}
use Rattle.ak_sync_in_memory.specs.declared.mishaps.Mishap.{Mishap}
use Rattle.ak_messages.specs.declared.requests.Request.{Request}
use Rattle.ak_protocol.specs.Accounts.{AccountState}
use Rattle.ak_protocol.specs.Commits.{EachNewer}
use Rattle.ak_protocol.specs.Logs.{Log}
use Rattle.ak_protocol.specs.Syncs.{IsUnused, world_of}
use Rattle.ak_client_wire.specs.Tries.{MadeCall}

-- ---- a lab that stays
same_lab : (s : CrossState) → StaysLab s s
same_lab s = record { clock = refl; faces = refl; later = omega arith }

lab_further : (r s t : CrossState) → StaysLab r s → StaysLab s t → StaysLab r t
lab_further r s t one two = record {
  clock = two.clock ∙ one.clock;
  faces = two.faces ∙ one.faces;
  later = let a = one.later in let b = two.later in omega (arith, a, b);
}

-- ---- counts
no_more : (n : ℕ) → n ≤ n
no_more n = omega arith

one_past : (n : ℕ) → n < n + 1
one_past n = omega arith

one_over : (n : ℕ) → n ≤ n + 1
one_over n = omega arith

pub past_later : (key a b : ℕ) → key ≤ a → a ≤ b → key ≤ b
past_later key a b low high = omega (arith, low, high)

-- ---- a device
-- what the server of an account committed
abbrev pub base_in : AccountState → LoggedState → Collection
base_in account server = (world_in lab_host account server).state.committed

-- a device is linked with what is committed; and its schema moment is at least that one's, if it is asked for
pub record IsLinkedOver (ordered : Bool) (committed : Collection) (d : Device) : Type 0 where
  pub linked : IsLinkedDevice committed d
  pub order : ordered ≡ true → committed.head.schema ≤ℤ linked.c.head.schema

module _ (account : AccountState) (ordered : Bool) (place : ℕ) where
  -- each device is so but the one at the place, which has no name
  pub record AreKept (x : CrossState) (met : LoggedState) : Type 0 where
    pub server : IsLinkedServer lab_host account x.sessions met
    pub early : (base_in account met).head.schema <ℤ last_moment
    pub nameless : (d : Device) → slice_get x.devices place ≡ Some d → d.name ≡ []
    pub devices : (at : ℕ) (d : Device) → at ≢ place → slice_get x.devices at ≡ Some d → IsLinkedOver ordered (base_in account met) d

  -- what stays of a lab and of its server
  pub record Stays (was now : CrossState) (old new : LoggedState) : Type 0 where
    pub lab : StaysLab was now
    pub grows : GrowsUnder now.sessions old new
    pub kept : IsLevel account old new → AreKept was old → AreKept now new

  -- the same, once a session of this key began
  abbrev pub StaysPast : ℕ → CrossState → CrossState → LoggedState → LoggedState → Type 0
  StaysPast key was now old new = key ≤ was.sessions → Stays was now old new

  pub stays_same : (x : CrossState) (s : LoggedState) → Stays x x s s
  stays_same x s = record { lab = same_lab x; grows = nothing_under x.sessions s; kept = λ level is. is }

  pub stays_further : (x y z : CrossState) (a b c : LoggedState) → Stays x y a b → Stays y z b c → Stays x z a c
  stays_further x y z a b c one two =
      let first : GrowsUnder z.sessions a b = wider_under y.sessions z.sessions a b two.lab.later one.grows in
      record {
        lab = lab_further x y z one.lab two.lab;
        grows = further_under z.sessions a b c first two.grows;
        kept = λ level is. two.kept (level_rest account z.sessions z.sessions a b c first two.grows level)
            (one.kept (level_first account z.sessions z.sessions a b c first two.grows level) is);
      }

  pub keeps_past : (key : ℕ) → KeepsOn (StaysPast key)
  keeps_past key = record {
    same = λ x s past. stays_same x s;
    further = λ x y z a b c one two past. stays_further x y z a b c (one past) (two (past_later key x.sessions y.sessions past (one past).lab.later));
  }

  -- nothing happened
  pub stays_as : (was now : CrossState) (old new : LoggedState) → now ≡ was → new ≡ old → Stays was now old new
  stays_as was now old new is same =
      subst (λ (x : CrossState). Stays was x old new) (sym is) (subst (λ (s : LoggedState). Stays was was old s) (sym same) (stays_same was old))

  -- which calls of the server's keeper are to fail is no part of it
  pub kept_with : (x : CrossState) (met : LoggedState) (calls : List ℕ) → AreKept x met → AreKept x (with_fails calls met)
  kept_with x met calls is =
      record { server = fails_set lab_host account x.sessions met calls is.server; early = is.early; nameless = is.nameless; devices = is.devices }

  pub level_with : (old new : LoggedState) (before after : List ℕ) → IsLevel account old new → IsLevel account (with_fails before old) (with_fails after new)
  level_with old new before after level = record { finishes = level.finishes; timely = level.timely }

  pub fails_apart : (was now : CrossState) (old new : LoggedState) (before after : List ℕ) → Stays was now (with_fails before old) (with_fails after new) → Stays was now old new
  fails_apart was now old new before after stays = record {
    lab = stays.lab;
    grows = record {
      host = stays.grows.host;
      growth = stays.grows.growth;
      grown = stays.grows.grown;
      unused = stays.grows.unused;
      uploads = stays.grows.uploads;
    };
    kept = λ level is. kept_apart (stays.kept (level_with old new before after level) (kept_with was old before is));
  }
    where
      kept_apart : AreKept now (with_fails after new) → AreKept now new
      kept_apart is = record { server = fails_unset lab_host account now.sessions new after is.server; early = is.early; nameless = is.nameless; devices = is.devices }

  -- ---- something came, and the devices are as they were
  over_now : (few more : ℕ) (old new : LoggedState) → few ≤ more → GrowsUnder more old new → IsLevel account old new → IsLinkedServer lab_host account few old → (d : Device)
      → IsLinkedOver ordered (base_in account old) d → IsLinkedOver ordered (base_in account new) d
  over_now few more old new most grows level server d it =
      let now : IsLinkedDevice (base_in account new) d = device_now account few more old new most grows level server.lawful d it.linked in
      let same : now.c ≡ it.linked.c = held_once d it.linked.c now.c it.linked.holds (holds_is d now.c now.holds) in
      record {
        linked = now;
        order = λ asked. subst (λ (c : Collection). (base_in account new).head.schema ≤ℤ c.head.schema) (sym same)
            (subst (λ (schema : ℤ). schema ≤ℤ it.linked.c.head.schema) (sym (schema_now account few more old new most grows level)) (it.order asked));
      }

  pub stays_grown : (x : CrossState) (old new : LoggedState) → GrowsUnder x.sessions old new → Stays x x old new
  stays_grown x old new grows = record {
    lab = same_lab x;
    grows = grows;
    kept = λ level is. record {
      server = server_now account x.sessions x.sessions old new (no_more x.sessions) grows level is.server;
      early = subst (λ (schema : ℤ). schema <ℤ last_moment) (sym (schema_now account x.sessions x.sessions old new (no_more x.sessions) grows level)) is.early;
      nameless = is.nameless;
      devices = λ at d other there. over_now x.sessions x.sessions old new (no_more x.sessions) grows level is.server d (is.devices at d other there);
    };
  }

  -- ---- a crossing
  module _ (name : List ℕ) (line session : ℕ) (was now : CrossState) (old new : LoggedState) (came : ActEnd) (it : CrossedSync name line session was now old new came) where
    abbrev next_key : ℕ
    next_key = was.sessions + 1

    abbrev made : Device
    made = it.sync.made

    -- the device as its sync takes it
    abbrev taken : Device
    taken = with_plan [] (crossings_of it.d.planned) it.d

    -- the server as it was reached, and as it was
    reached_log : log_in new ≡ log_in it.sync.sync.reached
    reached_log = ap log_in it.sync.sync.back

    crossed_grows : GrowsUnder next_key old new
    crossed_grows =
        let sync = it.sync.sync in
        let inner : GrowsUnder next_key (with_line line old) sync.reached =
        session_under next_key next_key was.clock ((was.clock +ℤ it.d.shift) ∷ []) it.d.mishaps taken made sync.replays sync.replays_left
        (with_line line old) sync.reached it.outcome (no_more next_key) sync.session in
        record {
          host = ap (λ (s : LoggedState). s.host) sync.back ∙ inner.host;
          growth = inner.growth;
          grown = reached_log ∙ inner.grown;
          unused = λ account other over unused. subst (λ (log : Log). IsUnused lab_host other account log) (sym reached_log) (inner.unused account other over unused);
          uploads = λ none. subst HasNoUpload (sym sync.back) (inner.uploads none);
        }

    -- the lab once it synced, before its line is printed
    abbrev synced_lab : CrossState
    synced_lab = record was { sessions = was.sessions + 1; devices = slice_set was.devices it.place made }

    -- ---- the devices then
    module _ (level : IsLevel account old new) (is : AreKept was old) where
      not_there : it.place ≢ place
      not_there same = it.may.named (sym it.may.has ∙ is.nameless it.d (subst (λ (at : ℕ). slice_get was.devices at ≡ Some it.d) same it.may.at))

      abbrev own : IsLinkedOver ordered (base_in account old) it.d
      own = is.devices it.place it.d not_there it.may.at

      abbrev taken_linked : IsLinkedDevice (base_in account old) taken
      taken_linked = record {
        c = own.linked.c;
        holds = own.linked.holds;
        named = own.linked.named;
        links = own.linked.links;
        suits = own.linked.suits;
      }

      schema_same : (base_in account new).head.schema ≡ (base_in account old).head.schema
      schema_same = schema_now account was.sessions next_key old new (one_over was.sessions) crossed_grows level

      finishes_reached : EachNewer IsFinish (world_in lab_host account (with_line line old)) (world_in lab_host account it.sync.sync.reached)
      finishes_reached = subst (λ (log : Log). EachNewer IsFinish (world_in lab_host account old) (world_of lab_host account log)) reached_log level.finishes

      made_linked : IsLinkedDevice (base_in account new) made
      made_linked =
          let sync = it.sync.sync in
          subst (λ (log : Log). IsLinkedDevice (world_of lab_host account log).state.committed made) (sym reached_log)
          (crossed_device_linked ReplaysAt replays_nothing account next_key was.clock (was.clock +ℤ it.d.shift) it.d.mishaps taken made sync.replays sync.replays_left
          (with_line line old) sync.reached it.outcome sync.session (is.server.unused next_key (one_past was.sessions)) is.server.lawful is.early taken_linked finishes_reached)

      made_schema : (x : Collection) → Holds made.collection x → (x.head.schema ≡ own.linked.c.head.schema) ⊎ ((base_in account old).head.schema <ℤ x.head.schema)
      made_schema x holds =
          let sync = it.sync.sync in
          crossed_device_schema ReplaysAt replays_nothing account next_key was.clock (was.clock +ℤ it.d.shift) it.d.mishaps taken made sync.replays sync.replays_left
          (with_line line old) sync.reached it.outcome sync.session (is.server.unused next_key (one_past was.sessions)) is.server.lawful is.early taken_linked finishes_reached x holds

      made_over : IsLinkedOver ordered (base_in account new) made
      made_over = record {
        linked = made_linked;
        order = λ asked. by asked (made_schema made_linked.c (holds_is made made_linked.c made_linked.holds));
      }
        where
          stays_low : (n s x c : ℤ) → n ≡ s → s ≤ℤ c → x ≡ c → n ≤ℤ x
          stays_low n s x c same low is = omega (arith, ints, same, low, is)

          rises : (n s x : ℤ) → n ≡ s → s <ℤ x → n ≤ℤ x
          rises n s x same up = omega (arith, ints, same, up)

          by : ordered ≡ true → (made_linked.c.head.schema ≡ own.linked.c.head.schema) ⊎ ((base_in account old).head.schema <ℤ made_linked.c.head.schema)
              → (base_in account new).head.schema ≤ℤ made_linked.c.head.schema
          by asked (inl same) =
              stays_low (base_in account new).head.schema (base_in account old).head.schema made_linked.c.head.schema own.linked.c.head.schema schema_same (own.order asked) same
          by asked (inr past) = rises (base_in account new).head.schema (base_in account old).head.schema made_linked.c.head.schema schema_same past

      -- it leaves what a sync leaves
      pub crossed_leaves : CrossedLeavesJoin account name line session was now old new came it
      crossed_leaves =
          let sync = it.sync.sync in
          let ran = sync.session in
          let moment : ℤ = ran.ended.ended.sync.asked.moment in
          let asked : List Request = asked_by ran.ids moment ran.ended.ended.sync.asked.tries in
          subst (λ (log : Log). LeavesJoin account next_key (was.clock +ℤ it.d.shift) it.d made moment asked (log_in old) log it.outcome) (sym reached_log)
          (leaves_join ReplaysAt replays_nothing account next_key was.clock (was.clock +ℤ it.d.shift) it.d.mishaps [] (crossings_of it.d.planned) it.d made
          sync.replays sync.replays_left (with_line line old) sync.reached it.outcome ran (is.server.unused next_key (one_past was.sessions)) is.server.lawful own.linked
          (finishes_crossed_fresh it.d (world_in lab_host account (with_line line old)) (world_in lab_host account sync.reached) finishes_reached))

      synced_kept : AreKept synced_lab new
      synced_kept = record {
        server = server_now account was.sessions next_key old new (one_over was.sessions) crossed_grows level is.server;
        early = subst (λ (schema : ℤ). schema <ℤ last_moment) (sym schema_same) is.early;
        nameless = λ d there. no_name d (put_or_old was.devices it.place made place d there);
        devices = λ at d other there. by at d other (put_or_old was.devices it.place made at d there);
      }
        where
          no_name : (d : Device) → ((place ≡ it.place) × (made ≡ d)) ⊎ ((place ≢ it.place) × (slice_get was.devices place ≡ Some d)) → d.name ≡ []
          no_name d (inl (same, here)) = absurd (not_there (sym same))
          no_name d (inr (other, there)) = is.nameless d there

          by : (at : ℕ) (d : Device) → at ≢ place → ((at ≡ it.place) × (made ≡ d)) ⊎ ((at ≢ it.place) × (slice_get was.devices at ≡ Some d))
              → IsLinkedOver ordered (base_in account new) d
          by at d other (inl (same, here)) = subst (λ (x : Device). IsLinkedOver ordered (base_in account new) x) here made_over
          by at d other (inr (differs, there)) =
              over_now was.sessions next_key old new (one_over was.sessions) crossed_grows level is.server d (is.devices at d other there)

    synced_stays : Stays was synced_lab old new
    synced_stays = record {
      lab = record { clock = refl; faces = same_faces was.devices it.place it.d made it.may.at (ap face_of it.sync.sync.session.rest); later = one_over was.sessions };
      grows = crossed_grows;
      kept = λ level is. synced_kept level is;
    }

    -- what is printed is no part of it
    printed_stays : (x : CrossState) (printed : List (List ℕ)) → Stays was x old new → Stays was (record x { printed = printed }) old new
    printed_stays x printed stays = record {
      lab = record { clock = stays.lab.clock; faces = stays.lab.faces; later = stays.lab.later };
      grows = stays.grows;
      kept = λ level is. let k = stays.kept level is in record { server = k.server; early = k.early; nameless = k.nameless; devices = k.devices };
    }

    told_stays : (x : CrossState) (outcome : Outcome) (end : ActEnd) → TellsCrossed name outcome x now end → Stays was x old new → Stays was now old new
    told_stays x outcome (Ok done) told stays =
        subst (λ (y : CrossState). Stays was y old new) (sym told.2) (printed_stays x (x.printed ++ sync_text name told.0 ∷ []) stays)
    told_stays x outcome (Err end) told stays = subst (λ (y : CrossState). Stays was y old new) (sym told) stays

    crossed_stays : Stays was now old new
    crossed_stays = told_stays it.synced it.outcome came it.told (subst (λ (x : CrossState). Stays was x old new) (sym it.sync.left) synced_stays)

  -- ---- what lines planned
  pub act_stays : (act : Act) (line session : ℕ) (was now : CrossState) (old new : LoggedState) (came : ActEnd) → ActsBy act line session was now old new came → Stays was now old new
  act_stays (acts.Cross name) line session was now old new came (inl nothing) = stays_as was now old new nothing.0 nothing.1.0
  act_stays (acts.Cross name) line session was now old new came (inr it) = crossed_stays name line session was now old new came it
  act_stays (acts.Replay from count) line session was now old new came it =
      subst (λ (x : CrossState). Stays was x old new) (sym it.0)
      (stays_grown was old new (again_under was.sessions from count line was.clock old new came it.1))

  -- ---- a session
  module _ (key : ℕ) where
    abbrev StaysFor : Crossings → Crossings → LoggedState → LoggedState → Type 0
    StaysFor x y old new = StaysPast key (cross_state x.lab) (cross_state y.lab) old new

    crosses_stay : (call session : ℕ) (x y : Crossings) (a b : LoggedState) (came : ActEnd) → CrossesAt call session x y a b came → StaysFor x y a b
    crosses_stay call session x y a b came it =
        turns_keep (StaysPast key) (keeps_past key) (ActsOnce session) (λ one p q c d end acted past. act_stays one.act one.line session p q c d end acted)
        (due call x.acts) (cross_state x.lab) (cross_state y.lab) a b came it.1

    pub session_stays : (at : ℤ) (mishaps : List Mishap) (number : ℕ) (calls : List MadeCall) (was became : Crossings) (old new : LoggedState) → AreOwnCalls key calls
        → ComeInCalls CrossesAt crosses_nothing mishaps at number calls was became old new → key ≤ (cross_state was.lab).sessions
        → Stays (cross_state was.lab) (cross_state became.lab) old new
    session_stays at mishaps number calls was became old new own come past =
        calls_keep StaysFor
        (record {
          same = λ x s now. stays_same (cross_state x.lab) s;
          further = λ x y z a b c one two now. (keeps_past key).further (cross_state x.lab) (cross_state y.lab) (cross_state z.lab) a b c one two now;
        })
        (IsOwnRequest key) at
        (λ x a b request reply own served now. stays_grown (cross_state x.lab) a b (served_under (cross_state x.lab).sessions key at now a b request reply own served))
        CrossesAt crosses_nothing crosses_stay mishaps number calls was became old new own come past
