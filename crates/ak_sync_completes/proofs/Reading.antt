-- That each answer which can be read has the form of what was asked, if nothing else comes to the server.
use Rattle.std.specs.Result.{IsErrOf}
use Rattle.std.specs.Prelude.{◌≡◌, ◌⊎◌, ℕ, ℤ, Bool, true, false, List, [], ◌∷◌, ◌++◌, Option, Some, Ok}
use Rattle.std.proofs.Common.{refl, sym, ap, subst, ◌∙◌, inl, inr, append_assoc}
use Rattle.std.proofs.lemmas.Option.{same_Some}
use Rattle.ak_base.specs.declared.keys.HostKey.{HostKey}
use Rattle.ak_base.specs.declared.keys.SessionKey.{SessionKey}
use Rattle.ak_client.proofs.Alone.{alone_stays}
use Rattle.ak_client.specs.Greetings.{meta_of}
use Rattle.ak_client.specs.Syncs.{meta_tried, world_at}
use Rattle.ak_client_wire.specs.Forms.{is_meta_in_range, is_moment, meta_told}
use Rattle.ak_client_wire.specs.Tries.{Tried}
use Rattle.ak_client_wire.specs.Wires.{WireKind, Carries, WireState}
use Rattle.ak_client_wire.specs.declared.asks.Unanswered.TheVariants as unanswered
use Rattle.ak_client_wire.specs.declared.wires.WireEnd.{WireEnd}
use Rattle.ak_client_wire.specs.declared.wires.WireEnd.TheVariants as ends
use Rattle.ak_exchange.proofs.Tried.{answers_append, tried_reads}
use Rattle.ak_exchange.specs.Asked.{AreTried, TriedAsk, answers_in, asker, asks_in}
use Rattle.ak_exchange.specs.Grants.{AllGranted, AllGrantedButLast, IsNotGranted, is_in_form}
use Rattle.ak_exchange.specs.declared.envelopes.Ids.{Ids}
use Rattle.ak_faults.proofs.Healths.{cause_after}
use Rattle.ak_faults.specs.Causes.{HasCauseOf, Health, Rose}
use Rattle.ak_keep.specs.Collections.{Collection}
use Rattle.ak_merge.specs.Commits.{IsCommitted}
use Rattle.ak_messages.specs.declared.replies.Give.TheVariants as gives
use Rattle.ak_messages.specs.declared.replies.Reply.{Reply}
use Rattle.ak_messages.specs.declared.requests.Ask.{Ask}
use Rattle.ak_messages.specs.declared.requests.Ask.TheVariants as asks
use Rattle.ak_messages.specs.declared.requests.Request.{Request}
use Rattle.ak_protocol.proofs.Calls.{calls_tell, metas_are_read, syncs_ask_more}
use Rattle.ak_protocol.proofs.Commits.{not_both}
use Rattle.ak_protocol.proofs.Syncs.{calls_keep_syncs}
use Rattle.ak_protocol.specs.Accounts.{AccountState}
use Rattle.ak_protocol.specs.Logs.{Grows, Log, commits_of, with_growth}
use Rattle.ak_protocol.specs.Replies.{granted, meta_reply}
use Rattle.ak_protocol.specs.Serving.{commit_reply}
use Rattle.ak_protocol.specs.Sessions.{IsAsked, Tells}
use Rattle.ak_protocol.specs.Syncs.{IsOpened, IsUnderWay, IsUnused, world_of}
use Rattle.ak_session.proofs.PlanLaws.{asked_place, each_planned, finish_is_last}
use Rattle.ak_session.specs.Asks.{asks_of}
use Rattle.ak_session.specs.Contents.{answer, closed}
use Rattle.ak_session.specs.Plans.{Asker, plan, requests_from}
use Rattle.ak_session.specs.Requests.{asks_commit}
use Rattle.ak_session.specs.Sessions.{MaySync}
use Rattle.ak_sync_completes.proofs.Asking.{IsAskedOf, first_and_others, granted_before, last_ask, place_in_plan}
use Rattle.ak_sync_completes.proofs.Forming.{answers_fit, formed, metas_fit}
use Rattle.ak_sync_completes.proofs.Metas.{held_at_meta}
use Rattle.ak_sync_completes.proofs.Serving.{Answer, IsServedAlone, TriedLast, grows_by, served_alone, tried_last}

-- ---- a sync under way
module _ (who : Asker) (c s : Collection) (account : AccountState) where
  -- what came with the session key after its meta is of the plan
  abbrev pub IsOn : Log → Type 0
  IsOn log = IsUnderWay who.host.digits who.session.0 (plan who c s) s account log

  abbrev pub asked_at : (before : List Request) (request : Request) (after : List Request) → before ++ request ∷ after ≡ plan who c s → IsAsked (plan who c s) s.head.moment request
  asked_at before request after place =
      let one = each_planned who c s before request after place in
      record { before = before; after = after; place = place; step = one.step; base_is = one.base_is }

  -- a request of the plan has the host key and the session key
  pub own_keys : (before : List Request) (request : Request) (after : List Request) → before ++ request ∷ after ≡ plan who c s
      → (who.host.digits ≡ request.host.digits) × (who.session.0 ≡ request.session.0)
  own_keys before request after place =
      let one = each_planned who c s before request after place in
      (ap (λ (key : HostKey). key.digits) (sym one.host), ap (λ (key : SessionKey). key.0) (sym one.session))

  pub on_for : (before : List Request) (request : Request) (after : List Request) → before ++ request ∷ after ≡ plan who c s → (log : Log) → IsOn log
      → IsUnderWay request.host.digits request.session.0 (plan who c s) s account log
  on_for before request after place log on =
      let keys = own_keys before request after place in
      subst (λ (host : List ℕ). IsUnderWay host request.session.0 (plan who c s) s account log) keys.0
      (subst (λ (key : ℕ). IsUnderWay who.host.digits key (plan who c s) s account log) keys.1 on)

  still_on : (before : List Request) (request : Request) (after : List Request) → before ++ request ∷ after ≡ plan who c s → (old new : Log) (answer : Answer)
      → Grows old new request answer → IsOn old → IsOn new
  still_on before request after place old new answer grows on =
      let keys = own_keys before request after place in
      let kept : IsUnderWay request.host.digits request.session.0 (plan who c s) s account (with_growth old grows.growth) =
      calls_keep_syncs request account old grows.growth grows.may (plan who c s) s (on_for before request after place old on) (inr (asked_at before request after place)) in
      subst IsOn (sym grows.grown)
      (subst (λ (host : List ℕ). IsUnderWay host who.session.0 (plan who c s) s account (with_growth old grows.growth)) (sym keys.0)
      (subst (λ (key : ℕ). IsUnderWay request.host.digits key (plan who c s) s account (with_growth old grows.growth)) (sym keys.1) kept))

  -- requests of the plan that are tried leave it under way
  pub on_after : {kind : WireKind} (done list after : List Request) (answers : List Answer) (h0 h1 : Health) (w0 w1 : WireState kind) (old : Log) → done ++ (list ++ after) ≡ plan who c s
      → AreTried list answers h0 h1 w0 w1 → w0.log ≡ Some old → IsOn old → (mid : Log) × (w1.log ≡ Some mid) × IsOn mid
  on_after {kind} done [] after [] h0 h1 w0 w1 old place tried told on = (old, ap (λ (w : WireState kind). w.log) tried.1 ∙ told, on)
  on_after done [] after (answer ∷ answers) h0 h1 w0 w1 old place tried told on = absurd tried
  on_after done (request ∷ more) after [] h0 h1 w0 w1 old place tried told on = absurd tried
  on_after done (request ∷ more) after (answer ∷ answers) h0 h1 w0 w1 old place tried told on =
      let carried : (new : Log) × (tried.1.log ≡ Some new) × Grows old new request answer =
      subst (λ (o : Option Log). Carries o tried.1.log request answer) told tried.2.carries in
      on_after (done ++ request ∷ []) more after answers tried.0 h1 tried.1 w1 carried.0 (append_assoc done (request ∷ []) (more ++ after) ∙ place) tried.3 carried.1
      (still_on done request (more ++ after) place old carried.0 answer carried.2 on)

-- ---- replies
-- a meta that was granted brings a sync under way, over what was committed before it, and its reply has its form
module _ (ids : Ids) (c : Collection) (account : AccountState) (old : Log) (unused : IsUnused ids.host.digits ids.session.0 account old)
    (lawful : IsCommitted (world_at (asker ids) account old).state.committed) where
  abbrev held : Collection
  held = (world_at (asker ids) account old).state.committed

  module _ (new : Log) (reply : Reply) (served : IsServedAlone old new (meta_of ids) (Ok reply)) (ok : reply.status ≡ 200) where
    meta_opens : (it : IsOpened (meta_of ids) account (with_growth old served.growth) reply)
        × (it.base ≡ (world_of ids.host.digits account (with_growth old served.reply.before)).state.committed)
    meta_opens = metas_are_read (meta_of ids) account old served.growth served.may reply served.reply unused.opening unused refl ok

    base_is : meta_opens.0.base ≡ held
    base_is = meta_opens.1 ∙ held_at_meta ids account old served.growth reply served.servings served.reply

    pub meta_on : IsOn (asker ids) c held account new
    meta_on =
        subst (IsOn (asker ids) c held account) (sym served.grown)
        (subst (λ (s : Collection). IsUnderWay ids.host.digits ids.session.0 (plan (asker ids) c held) s account (with_growth old served.growth)) base_is
        (syncs_ask_more ids.host.digits ids.session.0 [] (plan (asker ids) c held) meta_opens.0.base account (with_growth old served.growth) meta_opens.0.under_way))

    pub meta_formed : is_in_form asks.Meta reply.give ≡ true
    meta_formed =
        ap (λ (r : Reply). is_in_form asks.Meta r.give) (meta_opens.0.told ∙ ap (λ (s : Collection). granted (gives.Meta (meta_reply s.head meta_opens.0.now))) base_is)
        ∙ formed (is_meta_in_range (meta_reply held.head meta_opens.0.now)) (meta_told (meta_reply held.head meta_opens.0.now)) (metas_fit held.head meta_opens.0.now lawful.head)

-- a granted request of the plan has the form of what was asked; a finish, if what was committed has a moment in its range
module _ (who : Asker) (c s : Collection) (may : MaySync c s) (account : AccountState) (old new : Log) (on : IsOn who c s account old)
    (before : List Request) (request : Request) (after : List Request) (place : before ++ request ∷ after ≡ plan who c s)
    (reply : Reply) (served : Grows {E = WireEnd} old new request (Ok reply)) (ok : reply.status ≡ 200)
    (committed : (it : Collection) → commits_of who.session.0 (world_at who account new).commits ≡ record { key = who.session.0; before = s; after = it } ∷ [] → is_moment it.head.moment ≡ true) where
  abbrev opening : old.opening request.host.digits ≡ Some account
  opening = (on_for who c s account before request after place old on).opening

  -- what it tells
  pub call_told : Tells request.session.0 (plan who c s) s request (asked_at who c s account before request after place)
      (world_of request.host.digits account (with_growth old served.reply.before)).state.committed
      (world_of request.host.digits account (with_growth old served.growth)).commits reply
  call_told =
      calls_tell request account old served.growth served.may reply served.reply opening (plan who c s) s (on_for who c s account before request after place old on)
      (asked_at who c s account before request after place) (each_planned who c s before request after place).later ok

  plain_formed : asks_commit request.ask ≡ false → is_in_form request.ask reply.give ≡ true
  unfolding answer
  plain_formed plain =
      let one = each_planned who c s before request after place in
      ap (λ (r : Reply). is_in_form request.ask r.give) (call_told.answers plain one.reads_nothing)
      ∙ answers_fit c s (asks_of before) (asks_of after) request.ask may (asked_place who c s before request after place) one.later one.reads_nothing plain

  finish_formed : asks_commit request.ask ≡ true → is_in_form request.ask reply.give ≡ true
  finish_formed commits =
      let finish : request.ask ≡ asks.Finish = (finish_is_last who c s before request after place commits).0 in
      let made = call_told.commits commits in
      let it : Collection = closed s before request made.0 in
      let keys = own_keys who c s account before request after place in
      let only : commits_of who.session.0 (world_at who account new).commits ≡ record { key = who.session.0; before = s; after = it } ∷ [] =
      ap (λ (log : Log). commits_of who.session.0 (world_at who account log).commits) served.grown
      ∙ ap (λ (host : List ℕ). commits_of who.session.0 (world_of host account (with_growth old served.growth)).commits) keys.0
      ∙ ap (λ (key : ℕ). commits_of key (world_of request.host.digits account (with_growth old served.growth)).commits) keys.1
      ∙ made.2
      ∙ ap (λ (key : ℕ). record { key = key; before = s; after = it } ∷ []) (sym keys.1) in
      ap (λ (r : Reply). is_in_form request.ask r.give) made.1
      ∙ ap (λ (a : Ask). is_in_form a (commit_reply a it.head).give) finish
      ∙ formed (is_moment it.head.moment) it.head.moment (committed it only)

  pub plan_formed : is_in_form request.ask reply.give ≡ true
  plan_formed = by (asks_commit request.ask) refl
    where
      by : (b : Bool) → asks_commit request.ask ≡ b → is_in_form request.ask reply.give ≡ true
      by true commits = finish_formed commits
      by false plain = plain_formed plain

-- ---- what was answered last
-- an answer that could not be read was counted
pub last_is_counted : {kind : WireKind} (list : List Request) (answers : List Answer) (answer : Answer) (h0 h1 : Health) (w0 w1 : WireState kind)
    → TriedLast list answers answer h0 h1 w0 w1 → HasCauseOf ends.BadReply w0.reading w1.reading answer
last_is_counted list answers answer h0 h1 w0 w1 last =
    cause_after (tried_reads last.front answers h0 last.health w0 last.wire last.earlier) last.tried.unread

module _ {kind : WireKind} (ids : Ids) (c : Collection) (account : AccountState) (old now : Log) (unused : IsUnused ids.host.digits ids.session.0 account old)
    (lawful : IsCommitted (world_at (asker ids) account old).state.committed) (may : MaySync c (world_at (asker ids) account old).state.committed)
    (h0 h1 : Health) (w0 w1 : WireState kind) (alone : w0.alone ≡ true) (told_old : w0.log ≡ Some old) (told_now : w1.log ≡ Some now)
    (committed : (it : Collection) → commits_of ids.session.0 (world_at (asker ids) account now).commits
    ≡ record { key = ids.session.0; before = (world_at (asker ids) account old).state.committed; after = it } ∷ [] → is_moment it.head.moment ≡ true) where
  abbrev s : Collection
  s = (world_at (asker ids) account old).state.committed

  -- the requests before it left the sync under way
  on_before : (front : List Request) (before : List TriedAsk) (h : Health) (w : WireState kind) → AllGranted before → AreTried front (answers_in before) h0 h w0 w
      → (more : List Request) (request : Request) (after : List Request) → front ≡ meta_of ids ∷ more → more ++ request ∷ after ≡ plan (asker ids) c s
      → (mid : Log) × (w.log ≡ Some mid) × IsOn (asker ids) c s account mid
  on_before front before h w granted tried more request after is place =
      by before granted (subst (λ (l : List Request). AreTried l (answers_in before) h0 h w0 w) is tried)
    where
      by : (b : List TriedAsk) → AllGranted b → AreTried (meta_of ids ∷ more) (answers_in b) h0 h w0 w → (mid : Log) × (w.log ≡ Some mid) × IsOn (asker ids) c s account mid
      by [] all it = absurd it
      by (one ∷ rest) all it =
          let first = served_alone h0 it.0 w0 it.1 (meta_of ids) (Ok all.0.reply) old (subst (λ (a : Answer). Tried h0 it.0 w0 it.1 (meta_of ids) a) all.0.is it.2) alone told_old in
          on_after (asker ids) c s account [] more (request ∷ after) (answers_in rest) it.0 h it.1 w first.0 place it.3 first.1
          (meta_on ids c account old unused lawful first.0 all.0.reply first.2 all.0.status)

  module _ (meta : Answer) (moment : ℤ) (tries : List TriedAsk) (granted : AllGrantedButLast (meta_tried meta ∷ tries)) (asked : IsAskedOf c s moment (asks_in tries))
      (it : TriedAsk) (before : List TriedAsk) (parts : meta_tried meta ∷ tries ≡ before ++ it ∷ []) where
    abbrev list : List Request
    list = meta_of ids ∷ requests_from (asker ids) moment 1 (asks_in tries)

    module _ (last : TriedLast list (answers_in before) it.answer h0 h1 w0 w1) where
      only : last.wire.alone ≡ true
      only = alone_stays last.front (answers_in before) h0 last.health w0 last.wire last.earlier ∙ alone

      module _ (reply : Reply) (answered : it.answer ≡ Ok reply) (ok : reply.status ≡ 200) where
        tried_so : Tried last.health h1 last.wire w1 last.request (Ok reply)
        tried_so = subst (λ (a : Answer). Tried last.health h1 last.wire w1 last.request a) answered last.tried

        formed_meta : (answers : List Answer) → AreTried [] answers h0 last.health w0 last.wire → last.request ≡ meta_of ids → is_in_form last.request.ask reply.give ≡ true
        formed_meta [] tried is =
            let told : last.wire.log ≡ Some old = ap (λ (w : WireState kind). w.log) tried.1 ∙ told_old in
            let here = served_alone last.health h1 last.wire w1 (meta_of ids) (Ok reply) old (subst (λ (r : Request). Tried last.health h1 last.wire w1 r (Ok reply)) is tried_so) only told in
            ap (λ (r : Request). is_in_form r.ask reply.give) is ∙ meta_formed ids c account old unused lawful here.0 reply here.2 ok
        formed_meta (answer ∷ answers) tried is = absurd tried

        formed_later : (more : List Request) → last.front ≡ meta_of ids ∷ more → more ++ last.request ∷ [] ≡ requests_from (asker ids) moment 1 (asks_in tries)
            → is_in_form last.request.ask reply.give ≡ true
        formed_later more is others =
            let there = place_in_plan (asker ids) c s moment (asks_in tries) more last.request others asked in
            let on = on_before last.front before last.health last.wire (granted_before before it (subst AllGrantedButLast parts granted)) last.earlier more last.request there.0 is there.1 in
            let here = served_alone last.health h1 last.wire w1 last.request (Ok reply) on.0 tried_so only on.1 in
            plan_formed (asker ids) c s may account on.0 here.0 on.2 more last.request there.0 there.1 reply
            (grows_by on.0 here.0 last.request (Ok reply) here.2) ok
            (subst (λ (log : Log). (k : Collection) → commits_of ids.session.0 (world_at (asker ids) account log).commits
            ≡ record { key = ids.session.0; before = s; after = k } ∷ [] → is_moment k.head.moment ≡ true) (same_Some now here.0 (sym told_now ∙ here.1)) committed)

        formed_last : is_in_form it.ask reply.give ≡ true
        formed_last =
            ap (λ (a : Ask). is_in_form a reply.give) (sym (last_ask ids moment meta tries before it last.front last.request parts last.parts))
            ∙ by (first_and_others last.front last.request (meta_of ids) (requests_from (asker ids) moment 1 (asks_in tries)) last.parts)
          where
            by : ((last.front ≡ []) × (last.request ≡ meta_of ids))
                ⊎ ((more : List Request) × (last.front ≡ meta_of ids ∷ more) × (more ++ last.request ∷ [] ≡ requests_from (asker ids) moment 1 (asks_in tries)))
                → is_in_form last.request.ask reply.give ≡ true
            by (inl (none, is)) = formed_meta (answers_in before) (subst (λ (l : List Request). AreTried l (answers_in before) h0 last.health w0 last.wire) none last.earlier) is
            by (inr (more, is, others)) = formed_later more is others

    -- a sync that ends at an answer that it could not use has counted it
    pub unread_counted : AreTried list (meta ∷ answers_in tries) h0 h1 w0 w1 → IsNotGranted it unanswered.BadReply → Rose w0.reading w1.reading
    unread_counted tried = by
        (tried_last list (answers_in before) it.answer h0 h1 w0 w1
        (subst (λ (x : List Answer). AreTried list x h0 h1 w0 w1) (ap answers_in parts ∙ answers_append before (it ∷ [])) tried))
      where
        by : TriedLast list (answers_in before) it.answer h0 h1 w0 w1 → IsNotGranted it unanswered.BadReply → Rose w0.reading w1.reading
        by last (inl is) =
            (last_is_counted list (answers_in before) it.answer h0 h1 w0 w1 last).failed (subst (λ (a : Answer). IsErrOf a ends.BadReply) (sym is) refl)
        by last (inr (reply, answered, ok, wrong)) = absurd (not_both (formed_last last reply answered ok) wrong)
