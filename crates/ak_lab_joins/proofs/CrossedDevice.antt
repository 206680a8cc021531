-- What a sync that others cross leaves on its device, as long as nothing but finishes is committed meanwhile: a collection that is linked with what
-- the server committed then.
use Rattle.std.specs.Prelude.{◌≡◌, ◌≢◌, ◌⊎◌, ℕ, zero, suc, ℤ, ◌≤ℤ◌, ◌<ℤ◌, Bool, true, false, List, [], ◌∷◌, ◌++◌, length, Option, Some}
use Rattle.std.proofs.Common.{refl, sym, ap, subst, ◌∙◌, inl, inr, arith}
use Rattle.std.proofs.lemmas.Int.{ints}
use Rattle.ak_base.specs.Limits.{last_moment}
use Rattle.ak_base.specs.declared.heads.Head.{Head}
use Rattle.ak_call_counts.specs.CallCounts.{no_calls}
use Rattle.ak_client.proofs.Growing.{linked_grown}
use Rattle.ak_client.specs.Outcomes.{is_told_by_meta}
use Rattle.ak_client.specs.Syncs.{EndsAt, EndsBecause, HasRaised, KeepsDevice, MayBegin, Synced, meta_tried, told_by, world_at}
use Rattle.ak_client.specs.declared.outcomes.Outcome.{Outcome}
use Rattle.ak_client.specs.declared.outcomes.Outcome.TheVariants as outcomes
use Rattle.ak_client_wire.specs.Wires.{WireState}
use Rattle.ak_client_wire.specs.declared.wires.MetaSaid.{MetaSaid}
use Rattle.ak_device.specs.Devices.{advanced_moment, moments_raised}
use Rattle.ak_edit.specs.Steps.{reversals_in}
use Rattle.ak_exchange.specs.Asked.{TriedAsk, answers_in, asker, asks_in}
use Rattle.ak_exchange.specs.Grants.{IsCheckedLast}
use Rattle.ak_exchange.specs.Phases.{holding}
use Rattle.ak_exchange.specs.declared.stops.Stop.TheVariants as stops
use Rattle.ak_keep.specs.Collections.{Collection}
use Rattle.ak_keep.specs.Keepers.{Keeping, changed}
use Rattle.ak_lab_devices.specs.Devices.{keeping_of}
use Rattle.ak_lab_devices.specs.RestingKeepers.{Holds, kept_of}
use Rattle.ak_lab_devices.specs.declared.devices.Device.{Device}
use Rattle.ak_lab_joins.proofs.Crossed as crossed
use Rattle.ak_lab_joins.proofs.Crossed.{finishes_crossed_fresh}
use Rattle.ak_lab_joins.proofs.Greeted.{schema_told}
use Rattle.ak_lab_joins.proofs.Level.{finishes_fresh, schema_led}
use Rattle.ak_lab_joins.proofs.Metas.{one_schema}
use Rattle.ak_lab_joins.proofs.Synced.{held_once, kept_is, known_is, nothing_to_undo, raised_past, single_of}
use Rattle.ak_lab_joins.specs.LabCrossings.{IsCrossedFresh}
use Rattle.ak_lab_joins.specs.LabJoins.{IsFinish, IsLinkedDevice, ends_at_check, world_in}
use Rattle.ak_lab_wires.specs.LabSessions.{IsSessionOver, lab_host}
use Rattle.ak_lab_wires.specs.declared.lab_sessions.SessionKind.TheVariants as kinds
use Rattle.ak_merge.specs.Holdings.{IsSingle, row_under}
use Rattle.ak_merge.specs.Links.{AreLinked}
use Rattle.ak_merge.specs.declared.checks.CheckFault.{CheckFault}
use Rattle.ak_protocol.specs.Accounts.{AccountState}
use Rattle.ak_protocol.specs.Commits.{EachNewer, HasFreshSchema}
use Rattle.ak_protocol.specs.LawfulServers.{IsLawfulAccount}
use Rattle.ak_protocol.specs.Logs.{Log, World}
use Rattle.ak_protocol.specs.Syncs.{IsUnused}
use Rattle.ak_session.specs.Plans.{requests_from}
use Rattle.ak_session.specs.Requests.{is_meta}
use Rattle.ak_sync_in_memory.specs.Betweens.{Acting}
use Rattle.ak_sync_in_memory.specs.Entries.{LoggedState, log_in}
use Rattle.ak_sync_in_memory.specs.LoopWires.{health_over, inside_with, loop_kind, state_of_loop}
use Rattle.ak_sync_in_memory.specs.declared.mishaps.Mishap.{Mishap}

-- ---- what was tried last
abbrev first_or : TriedAsk → List TriedAsk → TriedAsk
first_or it [] = it
first_or it (first ∷ others) = first

not_longer : (n : ℕ) → suc zero ≡ suc (suc n) → ⊥
not_longer n is = omega (arith, is)

-- what is last of one is that one
last_of_one : (one it : TriedAsk) (before : List TriedAsk) → one ∷ [] ≡ before ++ it ∷ [] → one ≡ it
last_of_one one it [] is = ap (first_or one) is
last_of_one one it (first ∷ []) is = absurd (not_longer zero (ap length is))
last_of_one one it (first ∷ second ∷ others) is = absurd (not_longer (length (others ++ it ∷ [])) (ap length is))

not_both : {b : Bool} → b ≡ true → b ≡ false → ⊥
not_both is not = grind (arith, is, not)

module _ {X : Type 0} (acts : Acting X) (idle : X → Bool) (account : AccountState) (key : ℕ) (at device_at : ℤ) (mishaps : List Mishap) (d made : Device) (was became : X)
    (old new : LoggedState) (outcome : Outcome) (session : IsSessionOver acts idle kinds.Sync key at (device_at ∷ []) mishaps d made was became old new outcome)
    (unused : IsUnused lab_host key account (log_in old)) (lawful : IsLawfulAccount (world_in lab_host account old).state)
    (early : (world_in lab_host account old).state.committed.head.schema <ℤ last_moment) (own : IsLinkedDevice (world_in lab_host account old).state.committed d)
    (finishes : EachNewer IsFinish (world_in lab_host account old) (world_in lab_host account new)) where
  -- what is known of the wire before the first call and after the last one
  abbrev first : WireState (loop_kind acts idle)
  first = state_of_loop acts idle (inside_with old was at mishaps no_calls)

  abbrev last : WireState (loop_kind acts idle)
  last = state_of_loop acts idle session.end

  log_now : last.log ≡ Some (log_in new)
  log_now = ap (λ (z : LoggedState). Some (log_in z)) session.server

  known : keeping_of d ≡ holding own.c
  known = known_is d own.c own.holds

  because : EndsBecause session.ended.ended.sync.asked.meta session.ended.ended.sync.asked.moment session.ended.ended.sync.asked.tries (holding own.c) (Some (device_at ∷ [])) outcome
  because =
      subst (λ (k : Keeping). EndsBecause session.ended.ended.sync.asked.meta session.ended.ended.sync.asked.moment session.ended.ended.sync.asked.tries k (Some (device_at ∷ [])) outcome) known session.ended.ended.because

  -- ---- by the host key of the session, which is the lab's
  same_host : lab_host ≡ session.ids.host.digits
  same_host = sym session.of.host

  abbrev before : World
  before = world_in session.ids.host.digits account old

  abbrev after : World
  after = world_in session.ids.host.digits account new

  unused_here : IsUnused session.ids.host.digits session.ids.session.0 account (log_in old)
  unused_here =
      subst (λ (h : List ℕ). IsUnused h session.ids.session.0 account (log_in old)) same_host
      (subst (λ (k : ℕ). IsUnused lab_host k account (log_in old)) (sym session.of.session) unused)

  finishes_here : EachNewer IsFinish before after
  finishes_here = subst (λ (h : List ℕ). EachNewer IsFinish (world_in h account old) (world_in h account new)) same_host finishes

  early_here : before.state.committed.head.schema <ℤ last_moment
  early_here = subst (λ (h : List ℕ). (world_in h account old).state.committed.head.schema <ℤ last_moment) same_host early

  fresh : EachNewer (HasFreshSchema own.c) before after
  fresh newer is = finishes_fresh own.c newer (finishes_here newer is)

  -- what the client promises
  fresh_over : IsCrossedFresh d (world_in lab_host account old) (world_in lab_host account new)
  fresh_over = finishes_crossed_fresh d (world_in lab_host account old) (world_in lab_host account new) finishes

  may : MayBegin (asker session.ids) own.c account (log_in old)
  may = crossed.may acts idle account key at device_at mishaps d.mishaps d.planned d made was became old new outcome session unused lawful own fresh_over

  synced : Synced (asker session.ids) session.ended.ended.sync.asked.moment (asks_in session.ended.ended.sync.asked.tries) own.c account (log_in old) (log_in new) (keeping_of made) outcome
  synced = crossed.synced acts idle account key at device_at mishaps d.mishaps d.planned d made was became old new outcome session unused lawful own fresh_over

  -- ---- the server's schema moment
  schema_stays : after.state.committed.head.schema ≡ before.state.committed.head.schema
  schema_stays =
      schema_led before.state.committed after.state.committed synced.server.newer synced.server.lead (finishes_here synced.server.newer synced.server.grown)

  -- a sync that found the join bad asked for its check, and so met the device's own
  asked_more : (fault : CheckFault) → outcome ≡ outcomes.BadRow fault → session.ended.ended.sync.asked.tries ≡ [] → ⊥
  asked_more fault is none =
      let ends : EndsAt (meta_tried session.ended.ended.sync.asked.meta ∷ []) last outcome =
      subst (λ (tries : List TriedAsk). EndsAt (meta_tried session.ended.ended.sync.asked.meta ∷ tries) last outcome) none session.ended.ended.sync.ends.why in
      let checked : IsCheckedLast (meta_tried session.ended.ended.sync.asked.meta ∷ []) (stops.BadRow fault) last =
      subst (λ (o : Outcome). EndsAt (meta_tried session.ended.ended.sync.asked.meta ∷ []) last o) is ends in
      let same : meta_tried session.ended.ended.sync.asked.meta ≡ checked.it = last_of_one (meta_tried session.ended.ended.sync.asked.meta) checked.it checked.last.0 checked.last.1 in
      not_both (ap (λ (t : TriedAsk). is_meta t.ask) (sym same)) (ap is_meta checked.asks)

  met_schema : (fault : CheckFault) → outcome ≡ outcomes.BadRow fault → own.c.head.schema ≡ before.state.committed.head.schema
  met_schema fault is = by because.more
    where
      not_kept : outcome ≢ outcomes.Keep
      not_kept other = not_both (ap ends_at_check is) (ap ends_at_check other)

      enough : outcome ≢ outcomes.Memory
      enough other = not_both (ap ends_at_check is) (ap ends_at_check other)

      by : (session.ended.ended.sync.asked.tries ≡ [])
          ⊎ ((said : MetaSaid) × (told_by session.ended.ended.sync.asked.meta ≡ Some said) × (session.ended.ended.sync.asked.moment ≡ said.moment) × (is_told_by_meta outcome ≡ false))
          → own.c.head.schema ≡ before.state.committed.head.schema
      by (inl none) = absurd (asked_more fault is none)
      by (inr (said, told, same, untold)) =
          let met = because.met said told in
          let tried = session.ended.ended.sync.asked.tried in
          one_schema said met.0 own.c outcome met.3 untold not_kept enough
          ∙ schema_told session.ids account (log_in old) (log_in new) unused_here finishes_here said
          (requests_from (asker session.ids) session.ended.ended.sync.asked.moment 1 (asks_in session.ended.ended.sync.asked.tries)) (answers_in session.ended.ended.sync.asked.tries)
          (health_over no_calls mishaps) tried.0 session.health first tried.1 last session.ended.ended.sync.asked.meta tried.2 tried.3 refl log_now told

  -- ---- the device
  undone : made.undo ≡ []
  undone = ap (λ (x : Device). x.undo) session.rest

  single : IsSingle (row_under own.c)
  single = single_of (reversals_in d.undo) (row_under own.c) own.c.head.tags own.suits

  linked_still : AreLinked own.c after.state.committed
  linked_still =
      subst (λ (log : Log). AreLinked own.c (world_at (asker session.ids) account log).state.committed) (sym synced.grown)
      (linked_grown (asker session.ids) account (log_in old) synced.growth synced.timely may.lawful own.c
      (subst (λ (log : Log). EachNewer (HasFreshSchema own.c) before (world_at (asker session.ids) account log)) synced.grown fresh) may.linked)

  -- its schema moment is as it was, or past the server's
  abbrev StaysOrRises : Collection → Type 0
  StaysOrRises x = (x.head.schema ≡ own.c.head.schema) ⊎ (before.state.committed.head.schema <ℤ x.head.schema)

  record LeavesLinked : Type 0 where
    pub linked : IsLinkedDevice after.state.committed made
    pub schema : (x : Collection) → Holds made.collection x → StaysOrRises x

  leaves : (left : Collection) → made.collection ≡ kept_of left → IsLinkedDevice after.state.committed made → StaysOrRises left → LeavesLinked
  leaves left kept linked so = record {
    linked = linked;
    schema = λ x holds. subst StaysOrRises (sym (held_once made left x kept holds)) so;
  }

  same_left : keeping_of made ≡ keeping_of d → LeavesLinked
  same_left is =
      let kept : made.collection ≡ kept_of own.c = kept_is made own.c (is ∙ known) in
      leaves own.c kept (nothing_to_undo after.state.committed own.c made kept undone own.named single linked_still) (inl refl)

  raised_left : (to_come : Option (List ℤ)) → own.c.head.schema ≡ before.state.committed.head.schema
      → HasRaised 1 (keeping_of d) (keeping_of made) (Some (device_at ∷ [])) to_come → LeavesLinked
  raised_left to_come same raised =
      let head : Head = record own.c.head { moment = advanced_moment raised.at own.c.head.moment; schema = advanced_moment raised.at own.c.head.schema } in
      let left : Collection = record own.c { head = head } in
      let kept : made.collection ≡ kept_of left = kept_is made left (raised.raises ∙ ap (changed (moments_raised raised.at)) known) in
      let past : before.state.committed.head.schema <ℤ left.head.schema =
      raised_past raised.at own.c.head.schema before.state.committed.head.schema (least own.c.head.schema before.state.committed.head.schema same) early_here in
      leaves left kept
      (nothing_to_undo after.state.committed left made kept undone own.named single
      (inl (λ is. over before.state.committed.head.schema left.head.schema past (is ∙ schema_stays)))) (inr past)
    where
      least : (a b : ℤ) → a ≡ b → b ≤ℤ a
      least a b is = omega (arith, ints, is)

      over : (a b : ℤ) → a <ℤ b → b ≡ a → ⊥
      over a b up is = omega (arith, ints, up, is)

  finished_left : outcome ≡ outcomes.Finished → LeavesLinked
  finished_left is =
      let it = synced.finished is in
      let kept : made.collection ≡ kept_of it.device = kept_is made it.device it.holds in
      leaves it.device kept (nothing_to_undo after.state.committed it.device made kept undone it.exchanged.named it.exchanged.linked.own_single it.linked) (inl it.schema)

  left_by : (o : Outcome) → outcome ≡ o → KeepsDevice 1 (keeping_of d) (keeping_of made) (Some (device_at ∷ [])) session.to_come o → LeavesLinked
  left_by outcomes.Finished is keeps = finished_left is
  left_by (outcomes.BadRow fault) is keeps = raised_left session.to_come (met_schema fault is) keeps
  left_by (outcomes.BadCounts client server) is keeps = absurd (synced.fair (stops.BadCounts client server) is)
  left_by outcomes.NoChanges is keeps = same_left keeps
  left_by (outcomes.FullSchema device server) is keeps = same_left keeps
  left_by (outcomes.FullSequence usn) is keeps = same_left keeps
  left_by (outcomes.ClockOff device server) is keeps = same_left keeps
  left_by (outcomes.OwnCheck fault) is keeps = same_left keeps
  left_by outcomes.Stopped is keeps = same_left keeps
  left_by (outcomes.Refused status word seen) is keeps = same_left keeps
  left_by outcomes.Lost is keeps = same_left keeps
  left_by outcomes.BadReply is keeps = same_left keeps
  left_by outcomes.TooManyChunks is keeps = same_left keeps
  left_by outcomes.Keep is keeps = same_left keeps
  left_by outcomes.Memory is keeps = same_left keeps

  left_so : LeavesLinked
  left_so = left_by outcome refl session.device

  pub crossed_device_linked : IsLinkedDevice (world_in lab_host account new).state.committed made
  crossed_device_linked = subst (λ (h : List ℕ). IsLinkedDevice (world_in h account new).state.committed made) (sym same_host) left_so.linked

  pub crossed_device_schema : (x : Collection) → Holds made.collection x
      → (x.head.schema ≡ own.c.head.schema) ⊎ ((world_in lab_host account old).state.committed.head.schema <ℤ x.head.schema)
  crossed_device_schema x holds =
      subst (λ (h : List ℕ). (x.head.schema ≡ own.c.head.schema) ⊎ ((world_in h account old).state.committed.head.schema <ℤ x.head.schema)) (sym same_host) (left_so.schema x holds)
