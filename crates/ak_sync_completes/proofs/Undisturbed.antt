-- That what is asked of a server to which nothing else comes is granted, if no setback comes.
use Rattle.std.specs.List.{AllByRecursion}
use Rattle.std.specs.Prelude.{◌≡◌, ◌⊎◌, ◌≤◌, ℕ, ℤ, true, List, [], ◌∷◌, ◌++◌, length, Some, Ok, IfOk}
use Rattle.std.proofs.Common.{refl, sym, ap, subst, ◌∙◌, inl, inr, append_assoc}
use Rattle.std.proofs.lemmas.Option.{same_Some}
use Rattle.ak_base.specs.declared.keys.HostKey.{HostKey}
use Rattle.ak_client.proofs.Growing.{world_grown}
use Rattle.ak_client.specs.Greetings.{meta_of}
use Rattle.ak_client.specs.Syncs.{meta_tried, world_at}
use Rattle.ak_client_wire.specs.Wires.{WireKind, IsServing, WireState}
use Rattle.ak_exchange.proofs.Tried.{answers_append}
use Rattle.ak_exchange.specs.Asked.{AreTried, TriedAsk, answers_in, asker, asks_in}
use Rattle.ak_exchange.specs.Grants.{AllGrantedButLast}
use Rattle.ak_exchange.specs.declared.envelopes.Ids.{Ids}
use Rattle.ak_faults.specs.Causes.{Health}
use Rattle.ak_keep.specs.Collections.{Collection}
use Rattle.ak_merge.specs.Holdings.{row_under}
use Rattle.ak_merge.specs.Joins.{joined_under}
use Rattle.ak_merge.specs.Soundness.{IsSound}
use Rattle.ak_messages.specs.declared.replies.Reply.{Reply}
use Rattle.ak_messages.specs.declared.requests.Ask.{Ask}
use Rattle.ak_messages.specs.declared.requests.Request.{Request}
use Rattle.ak_protocol.proofs.Syncs.{all_back, all_front}
use Rattle.ak_protocol.specs.Accounts.{AccountState}
use Rattle.ak_protocol.specs.Logs.{Event, View, Asked, IsReplyIn, Log, World, events_of, opened, with_growth, world_after}
use Rattle.ak_protocol.specs.Serving.{Setback, Undisturbed, KeeperFault, OutOfMemory, served}
use Rattle.ak_session.proofs.PlanLaws.{each_planned}
use Rattle.ak_session.specs.Plans.{Asker, plan, requests_from}
use Rattle.ak_session.specs.Sessions.{HaveRoom, MaySync}
use Rattle.ak_sync_completes.proofs.Asking.{IsAskedOf, first_and_others, granted_before, place_in_plan, replies_of, requests_of_host}
use Rattle.ak_sync_completes.proofs.Granting.{granted_again}
use Rattle.ak_sync_completes.proofs.Serving.{Answer, CameInOrder, IsQuiet, IsServedAlone, TriedLast, all_own, came_in_order, quiet_servings, reply_at_place, same_growth, served_alone, servings_are_of, tried_last}
use Rattle.ak_sync_completes.specs.Completing.{HasNoKeeperFault, RanOutOfMemory}

-- ---- setbacks
-- if the server's keeper never failed, nothing came in between, or memory ran out
pub quiet_or_out : (events : List Event) → AllByRecursion HasNoKeeperFault events → AllByRecursion IsQuiet events ⊎ RanOutOfMemory events
quiet_or_out [] all = inl tt
quiet_or_out (View host ∷ events) all = by (quiet_or_out events all.1)
  where
    by : AllByRecursion IsQuiet events ⊎ RanOutOfMemory events → AllByRecursion IsQuiet (View host ∷ events) ⊎ RanOutOfMemory events
    by (inl quiet) = inl (tt, quiet)
    by (inr out) = inr out
quiet_or_out (Asked request now OutOfMemory ∷ events) all = inr (inl refl)
quiet_or_out (Asked request now KeeperFault ∷ events) all = absurd (all.0 refl)
quiet_or_out (Asked request now Undisturbed ∷ events) all = by (quiet_or_out events all.1)
  where
    by : AllByRecursion IsQuiet events ⊎ RanOutOfMemory events → AllByRecursion IsQuiet (Asked request now Undisturbed ∷ events) ⊎ ((Undisturbed ≡ OutOfMemory) ⊎ RanOutOfMemory events)
    by (inl quiet) = inl (refl, quiet)
    by (inr out) = inr (inr out)

-- ---- a request that was not granted
module _ {kind : WireKind} (ids : Ids) (account : AccountState) (old now : Log) (growth : List Event) (opening : old.opening ids.host.digits ≡ Some account)
    (grown : now ≡ with_growth old growth) (quiet : AllByRecursion IsQuiet growth)
    (h0 h1 : Health) (w0 w1 : WireState kind) (alone : w0.alone ≡ true) (told_old : w0.log ≡ Some old) (told_now : w1.log ≡ Some now) where
  abbrev who : Asker
  who = asker ids

  abbrev host : List ℕ
  host = ids.host.digits

  abbrev world : World
  world = world_at who account old

  abbrev s : Collection
  s = world.state.committed

  -- the reply at a quiet place
  quiet_reply : (request : Request) (mid : Log) (mine : List Event) (reply : Reply) → (r : IsReplyIn mid mine request reply) → AllByRecursion IsQuiet mine
      → mid.opening request.host.digits ≡ Some account
      → (served (world_at (record { host = request.host; session = request.session }) account (with_growth mid r.before)).state request r.now Undisturbed).reply ≡ reply
  quiet_reply request mid mine reply r still told =
      let here : AllByRecursion IsQuiet (Asked request r.now r.setback ∷ r.after) =
      all_back IsQuiet r.before (Asked request r.now r.setback ∷ r.after) (subst (AllByRecursion IsQuiet) (sym r.place) still) in
      subst (λ (b : Setback). (served (world_at (record { host = request.host; session = request.session }) account (with_growth mid r.before)).state request r.now b).reply ≡ reply)
      here.0 (reply_at_place request account mid mine reply r told)

  module _ (c : Collection) (may : MaySync c s) (room : HaveRoom c s) (sound : IsSound (joined_under (row_under c) (row_under s)))
      (few : length (plan who c s) ≤ 9_223_372_036_854_775_807) where
    -- a request of the plan that was tried after those before it
    granted_in_plan : (front : List Request) (request : Request) (after : List Request) → front ++ request ∷ after ≡ plan who c s
        → (mid : Log) → (came : CameInOrder host (meta_of ids ∷ front) old mid) → AllByRecursion IsQuiet came.growth
        → (mine : List Event) → AllByRecursion (IsServing request) mine → AllByRecursion IsQuiet mine → (reply : Reply) → IsReplyIn mid mine request reply
        → reply.status ≡ 200
    granted_in_plan front request after place mid came still mine servings still_mine reply r =
        let own : request.host.digits ≡ host = ap (λ (key : HostKey). key.digits) (each_planned who c s front request after place).host in
        let told : mid.opening request.host.digits ≡ Some account =
        ap mid.opening own ∙ ap (λ (log : Log). log.opening host) came.grown ∙ opening in
        let before : AllByRecursion (IsServing request) r.before =
        all_front (IsServing request) r.before (Asked request r.now r.setback ∷ r.after) (subst (AllByRecursion (IsServing request)) (sym r.place) servings) in
        let still_before : AllByRecursion IsQuiet r.before =
        all_front IsQuiet r.before (Asked request r.now r.setback ∷ r.after) (subst (AllByRecursion IsQuiet) (sym r.place) still_mine) in
        let there : world_at who account mid ≡ world_after world came.growth =
        ap (world_at who account) came.grown ∙ world_grown who account old came.growth ∙ ap (world_after world) (all_own host came.growth came.own) in
        let here : world_at (record { host = request.host; session = request.session }) account (with_growth mid r.before) ≡ world_after (world_after world came.growth) r.before =
        ap (λ (digits : List ℕ). world_after (opened account) (events_of digits (mid.events ++ r.before))) own
        ∙ world_grown who account mid r.before
        ∙ ap (world_after (world_at who account mid)) (all_own host r.before (servings_are_of host request r.before own before))
        ∙ ap (λ (w : World). world_after w r.before) there in
        ap (λ (it : Reply). it.status) (sym (quiet_reply request mid mine reply r still_mine told))
        ∙ ap (λ (w : World). (served w.state request r.now Undisturbed).reply.status) here
        ∙ granted_again who c s may room sound few request after front place world (meta_of ids) refl refl refl r.now came.growth r.before (came.order still)
        (quiet_servings request r.before before still_before)

    module _ (moment : ℤ) (asks : List Ask) (asked : IsAskedOf c s moment asks) (request : Request) (mid : Log) (mine : List Event)
        (servings : AllByRecursion (IsServing request) mine) (still_mine : AllByRecursion IsQuiet mine) (reply : Reply) (r : IsReplyIn mid mine request reply) where
      -- a request that was tried after the meta and others
      granted_later : (more : List Request) → more ++ request ∷ [] ≡ requests_from who moment 1 asks → (came : CameInOrder host (meta_of ids ∷ more) old mid)
          → AllByRecursion IsQuiet came.growth → IsAskedOf c s moment asks → reply.status ≡ 200
      granted_later more others came still is =
          let there = place_in_plan who c s moment asks more request others is in
          granted_in_plan more request there.0 there.1 mid came still mine servings still_mine reply r

      -- the meta, or a later one
      granted_at : (front : List Request) → (came : CameInOrder host front old mid) → AllByRecursion IsQuiet came.growth
          → ((front ≡ []) × (request ≡ meta_of ids)) ⊎ ((more : List Request) × (front ≡ meta_of ids ∷ more) × (more ++ request ∷ [] ≡ requests_from who moment 1 asks))
          → reply.status ≡ 200
      granted_at front came still (inl (none, same)) =
          let it : IsReplyIn mid mine (meta_of ids) reply = subst (λ (q : Request). IsReplyIn mid mine q reply) same r in
          ap (λ (x : Reply). x.status) (sym (quiet_reply (meta_of ids) mid mine reply it still_mine (ap (λ (log : Log). log.opening host) came.grown ∙ opening)))
      granted_at front came still (inr (more, front_is, others)) =
          subst (λ (l : List Request). (it : CameInOrder host l old mid) → AllByRecursion IsQuiet it.growth → reply.status ≡ 200) (sym front_is)
          (λ it quiet_it. granted_later more others it quiet_it asked) came still

    -- so what was answered last was granted
    module _ (meta : Answer) (moment : ℤ) (tries : List TriedAsk) (granted : AllGrantedButLast (meta_tried meta ∷ tries)) (asked : IsAskedOf c s moment (asks_in tries))
        (it : TriedAsk) (before : List TriedAsk) (parts : meta_tried meta ∷ tries ≡ before ++ it ∷ []) (reply : Reply) (answered : it.answer ≡ Ok reply) where
      abbrev list : List Request
      list = meta_of ids ∷ requests_from who moment 1 (asks_in tries)

      module _ (last : TriedLast list (answers_in before) it.answer h0 h1 w0 w1) where
        hosts : AllByRecursion (λ (request : Request). request.host.digits ≡ host) last.front
        hosts =
            all_front (λ (request : Request). request.host.digits ≡ host) last.front (last.request ∷ [])
            (subst (AllByRecursion (λ (request : Request). request.host.digits ≡ host)) (sym last.parts) (refl, requests_of_host who moment 1 (asks_in tries)))

        granted_served : (mid end : Log) → w1.log ≡ Some end → (came : CameInOrder host last.front old mid) → (here : IsServedAlone mid end last.request it.answer) → reply.status ≡ 200
        granted_served mid end told came here =
            granted_at moment (asks_in tries) asked last.request mid here.growth here.servings (all_back IsQuiet came.growth here.growth still) reply
            (subst (λ (a : Answer). IfOk a (IsReplyIn mid here.growth last.request)) answered here.reply)
            last.front came (all_front IsQuiet came.growth here.growth still)
            (first_and_others last.front last.request (meta_of ids) (requests_from who moment 1 (asks_in tries)) last.parts)
          where
            whole : came.growth ++ here.growth ≡ growth
            whole =
                same_growth old now (came.growth ++ here.growth) growth
                (same_Some now end (sym told_now ∙ told) ∙ here.grown
                ∙ ap (λ (log : Log). with_growth log here.growth) came.grown
                ∙ ap (λ (events : List Event). record old { events = events }) (append_assoc old.events came.growth here.growth)) grown

            still : AllByRecursion IsQuiet (came.growth ++ here.growth)
            still = subst (AllByRecursion IsQuiet) (sym whole) quiet

        granted_came : (mid : Log) → last.wire.log ≡ Some mid → last.wire.alone ≡ true → CameInOrder host last.front old mid → reply.status ≡ 200
        granted_came mid told only came =
            let here = served_alone last.health h1 last.wire w1 last.request it.answer mid last.tried only told in
            granted_served mid here.0 here.1 came here.2

        granted_of : reply.status ≡ 200
        granted_of =
            let came = came_in_order host last.front (answers_in before) h0 last.health w0 last.wire old last.earlier hosts
            (replies_of before (granted_before before it (subst AllGrantedButLast parts granted))) alone told_old in
            granted_came came.0 came.1 came.2 came.3

      pub granted_last : AreTried list (meta ∷ answers_in tries) h0 h1 w0 w1 → reply.status ≡ 200
      granted_last tried =
          granted_of (tried_last list (answers_in before) it.answer h0 h1 w0 w1
          (subst (λ (x : List Answer). AreTried list x h0 h1 w0 w1) (ap answers_in parts ∙ answers_append before (it ∷ [])) tried))
