-- The one request that a transfer asks after its meta: it is granted if nothing comes in between, and what is granted has its form.
use Rattle.std.specs.List.{AllByRecursion}
use Rattle.std.specs.Prelude.{◌≡◌, ◌≤◌, ℕ, ℤ, pos, true, false, List, [], ◌∷◌, ◌++◌, Some, None, Ok, ◌⊎◌}
use Rattle.std.proofs.Common.{refl, sym, ap, subst, ◌∙◌, inl, inr, arith, append_assoc}
use Rattle.std.proofs.lemmas.Option.{same_Some}
use Rattle.ak_base.specs.Limits.{last_moment}
use Rattle.ak_client.proofs.Growing.{lawful_grown, timely_growth, world_grown}
use Rattle.ak_client.specs.Greetings.{meta_of}
use Rattle.ak_client.specs.Syncs.{world_at}
use Rattle.ak_client_wire.specs.Tries.{Tried}
use Rattle.ak_client_wire.specs.Wires.{WireKind, IsServing, WireState}
use Rattle.ak_exchange.specs.Asked.{asker, request_at}
use Rattle.ak_exchange.specs.declared.envelopes.Ids.{Ids}
use Rattle.ak_faults.specs.Causes.{Health}
use Rattle.ak_keep.specs.Collections.{Collection}
use Rattle.ak_merge.specs.Commits.{IsCommitted}
use Rattle.ak_messages.specs.declared.replies.Reply.{Reply}
use Rattle.ak_messages.specs.declared.requests.Ask.{Ask}
use Rattle.ak_messages.specs.declared.requests.Ask.TheVariants as asks
use Rattle.ak_messages.specs.declared.requests.Request.{Request}
use Rattle.ak_messages.specs.declared.requests.Whole.{Whole}
use Rattle.ak_protocol.proofs.Calls.{calls_tell, metas_are_read, syncs_ask_more}
use Rattle.ak_protocol.proofs.InARow.{AreSingle, each_once, reply_again}
use Rattle.ak_protocol.proofs.Kept.{next_is_done}
use Rattle.ak_protocol.proofs.PastReplies.{next_is_no_repeat}
use Rattle.ak_protocol.proofs.Syncs.{all_append, all_back, all_front}
use Rattle.ak_protocol.specs.Accounts.{AccountState, SessionState}
use Rattle.ak_protocol.specs.Lawful.{IsNext}
use Rattle.ak_protocol.specs.LawfulServers.{IsLawfulAccount}
use Rattle.ak_protocol.specs.Logs.{Event, View, Asked, IsAgain, IsReplyIn, IsTimely, Log, World, commits_of, with_growth, world_after, world_next, world_served}
use Rattle.ak_protocol.specs.Replies.{download_reply, whole_of}
use Rattle.ak_protocol.specs.Serving.{Setback, Undisturbed, Served, begun, commit_reply, served}
use Rattle.ak_protocol.specs.Sessions.{AreUndisturbed, IsAsked, Tells}
use Rattle.ak_protocol.specs.Syncs.{IsUnderWay}
use Rattle.ak_session.proofs.Accepting.{between}
use Rattle.ak_session.specs.Contents.{closed, refusal}
use Rattle.ak_session.specs.Requests.{asks_commit, is_download, is_meta}
use Rattle.ak_sync_completes.proofs.Granting.{meta_begins}
use Rattle.ak_sync_completes.proofs.Metas.{held_at_meta}
use Rattle.ak_sync_completes.proofs.Serving.{IsQuiet, IsServedAlone, all_own, came_in_order, quiet_servings, reply_at_place, same_growth, served_alone, servings_are_of}
use Rattle.ak_sync_completes.proofs.Undisturbed.{quiet_or_out}
use Rattle.ak_sync_completes.specs.Completing.{RanOutOfMemory, SyncEnds}
use Rattle.ak_transfer_laws.proofs.Linking.{commit_is_lawful}
use Rattle.ak_transfer_laws.proofs.Wholes.{committed_may_be_held}
use Rattle.ak_transfer_laws.specs.Completing.{IsLeftAlone, committed_before}
use Rattle.ak_transfers.specs.Forms.{MayBeHeld, uploaded_in, whole_in}
use Rattle.ak_transfers.specs.declared.asks.UploadMoments.{UploadMoments}

-- ---- a request that is next after a meta
module _ (w : World) (meta request : Request) (begins : is_meta meta.ask ≡ true) (key : meta.session.0 ≡ request.session.0) (step : request.step ≡ 1)
    (base : request.base ≡ w.state.committed.head.moment) (later : is_meta request.ask ≡ false) (allowed : refusal w.state.committed [] request ≡ None) where
  -- what is granted in a world
  abbrev IsGrantedIn : ℤ → World → Type 0
  IsGrantedIn now v = (served v.state request now Undisturbed).reply.status ≡ 200

  small : (n : ℕ) → n ≡ 1 → n ≤ 9_223_372_036_854_775_807
  small n is = omega (arith, is)

  after_single : (now : ℤ) (events : List Event) → AreSingle (meta ∷ []) events → IsGrantedIn now (world_after w events)
  after_single now [] quiet = absurd quiet
  after_single now (View host ∷ events) quiet = absurd quiet
  after_single now (Asked other at setback ∷ events) quiet =
      let session : SessionState = record { key = meta.session.0; accepted = [] } in
      let met : World = record { state = (begun w.state meta at).next; commits = w.commits } in
      let is : world_after w (Asked other at setback ∷ events) ≡ met =
      ap (λ (i : Served). world_after (world_served w other i) events) (meta_begins w meta other at setback begins quiet.0 quiet.1)
      ∙ ap (world_after met) quiet.2 in
      let next : IsNext met.state session request = record {
        live = refl;
        key = key;
        step = step;
        base = base;
        later = later;
        in_range = small request.step step;
        allowed = allowed;
      } in
      subst (IsGrantedIn now) (sym is) (next_is_done met.state session request now next (next_is_no_repeat met.state session request tt next)).granted

  granted_next : (now : ℤ) (events : List Event) → AreUndisturbed (meta ∷ []) events → IsGrantedIn now (world_after w events)
  granted_next now events quiet = let once = each_once w (meta ∷ []) events quiet in subst (IsGrantedIn now) (sym once.2) (after_single now once.0 once.1)

  -- also once it came already
  pub granted_again : (now : ℤ) (events more : List Event) → AreUndisturbed (meta ∷ []) events → AllByRecursion (IsAgain request) more
      → (served (world_after (world_after w events) more).state request now Undisturbed).reply.status ≡ 200
  granted_again now events [] quiet all = granted_next now events quiet
  granted_again now events (View host ∷ more) quiet all = absurd all.0
  granted_again now events (Asked other first setback ∷ more) quiet all =
      let there : World = world_after w events in
      subst (λ (v : World). IsGrantedIn now (world_after v more))
      (sym (ap (λ (r : Request). world_next there (Asked r first setback)) all.0.0 ∙ ap (λ (b : Setback). world_next there (Asked request first b)) all.0.1))
      (subst (λ (reply : Reply). reply.status ≡ 200) (sym (reply_again there request first now more later all.1)) (granted_next first events quiet))

-- ---- the request of a session that is left alone
module _ {kind : WireKind} (ids : Ids) (c : Collection) (account : AccountState) (before after : SyncEnds kind) (it : IsLeftAlone ids c account before after)
    (h : Health) (w : WireState kind) (told : Reply) (ok : told.status ≡ 200) (meta : Tried before.health h before.wire w (meta_of ids) (Ok told))
    (ask : Ask) (later : is_meta ask ≡ false) (reply : Reply)
    (tried : Tried h after.health w after.wire (request_at (asker ids) (committed_before ids account it.old).head.moment 1 ask) (Ok reply)) where
  abbrev held : Collection
  held = committed_before ids account it.old

  abbrev request : Request
  request = request_at (asker ids) held.head.moment 1 ask

  abbrev world : World
  world = world_at (asker ids) account it.old

  -- the meta came, and then the request
  first : (mid : Log) × (w.log ≡ Some mid) × IsServedAlone it.old mid (meta_of ids) (Ok told)
  first = served_alone before.health h before.wire w (meta_of ids) (Ok told) it.old meta it.alone it.told

  abbrev mid : Log
  mid = first.0

  second : (new : Log) × (after.wire.log ≡ Some new) × IsServedAlone mid new request (Ok reply)
  second = served_alone h after.health w after.wire request (Ok reply) mid tried (meta.alone.stays ∙ it.alone) first.1

  abbrev mine : IsServedAlone mid second.0 request (Ok reply)
  mine = second.2

  abbrev r : IsReplyIn mid mine.growth request reply
  r = mine.reply

  opening : mid.opening ids.host.digits ≡ Some account
  opening = ap (λ (log : Log). log.opening ids.host.digits) first.2.grown ∙ it.may.unused.opening

  now_is : it.now ≡ second.0
  now_is = same_Some it.now second.0 (sym it.told_now ∙ second.1)

  whole : first.2.growth ++ mine.growth ≡ it.growth
  whole =
      same_growth it.old it.now (first.2.growth ++ mine.growth) it.growth
      (now_is
      ∙ mine.grown
      ∙ ap (λ (log : Log). with_growth log mine.growth) first.2.grown
      ∙ ap (λ (events : List Event). record it.old { events = events }) (append_assoc it.old.events first.2.growth mine.growth)) it.grown

  before_servings : AllByRecursion (IsServing request) r.before
  before_servings =
      all_front (IsServing request) r.before (Asked request r.now r.setback ∷ r.after) (subst (AllByRecursion (IsServing request)) (sym r.place) mine.servings)

  -- the account at its place
  here : world_at (asker ids) account (with_growth mid r.before) ≡ world_after (world_after world first.2.growth) r.before
  here =
      world_grown (asker ids) account mid r.before
      ∙ ap (world_after (world_at (asker ids) account mid)) (all_own ids.host.digits r.before (servings_are_of ids.host.digits request r.before refl before_servings))
      ∙ ap (λ (v : World). world_after v r.before)
      (ap (world_at (asker ids) account) first.2.grown
      ∙ world_grown (asker ids) account it.old first.2.growth
      ∙ ap (world_after world) (all_own ids.host.digits first.2.growth (servings_are_of ids.host.digits (meta_of ids) first.2.growth refl first.2.servings)))

  module _ (allowed : refusal (committed_before ids account it.old) [] (request_at (asker ids) (committed_before ids account it.old).head.moment 1 ask) ≡ None) where
    granted_if_quiet : AllByRecursion IsQuiet (first.2.growth ++ mine.growth) → reply.status ≡ 200
    granted_if_quiet quiet =
        let still_mine : AllByRecursion IsQuiet mine.growth = all_back IsQuiet first.2.growth mine.growth quiet in
        let still : AllByRecursion IsQuiet (r.before ++ Asked request r.now r.setback ∷ r.after) = subst (AllByRecursion IsQuiet) (sym r.place) still_mine in
        let undisturbed : r.setback ≡ Undisturbed = (all_back IsQuiet r.before (Asked request r.now r.setback ∷ r.after) still).0 in
        ap (λ (x : Reply). x.status)
        (sym (subst (λ (b : Setback). (served (world_at (asker ids) account (with_growth mid r.before)).state request r.now b).reply ≡ reply) undisturbed
        (reply_at_place request account mid mine.growth reply r opening)))
        ∙ ap (λ (v : World). (served v.state request r.now Undisturbed).reply.status) here
        ∙ granted_again world (meta_of ids) request refl refl refl refl later allowed r.now first.2.growth r.before
        (in_order (all_front IsQuiet first.2.growth mine.growth quiet))
        (quiet_servings request r.before before_servings (all_front IsQuiet r.before (Asked request r.now r.setback ∷ r.after) still))
      where
        in_order : AllByRecursion IsQuiet first.2.growth → AreUndisturbed (meta_of ids ∷ []) first.2.growth
        in_order quiet_first =
            let came = came_in_order ids.host.digits (meta_of ids ∷ []) (Ok told ∷ []) before.health h before.wire w it.old (h, w, meta, (refl, refl)) (refl, tt)
            ((told, refl), tt) it.alone it.told in
            let same_mid : came.0 ≡ mid = same_Some came.0 mid (sym came.1 ∙ first.1) in
            let same : came.3.growth ≡ first.2.growth =
            same_growth it.old mid came.3.growth first.2.growth (sym same_mid ∙ came.3.grown) first.2.grown in
            subst (AreUndisturbed (meta_of ids ∷ [])) same (came.3.order (subst (AllByRecursion IsQuiet) (sym same) quiet_first))

    -- memory ran out for one that was not granted
    pub granted_or_out : (reply.status ≡ 200) ⊎ RanOutOfMemory it.growth
    granted_or_out = by (quiet_or_out it.growth it.server)
      where
        by : AllByRecursion IsQuiet it.growth ⊎ RanOutOfMemory it.growth → (reply.status ≡ 200) ⊎ RanOutOfMemory it.growth
        by (inl quiet) = inl (granted_if_quiet (subst (AllByRecursion IsQuiet) (sym whole) quiet))
        by (inr out) = inr out

  -- ---- what is granted
  module _ (granted : reply.status ≡ 200) where
    under : IsUnderWay ids.host.digits ids.session.0 (request ∷ []) held account mid
    under =
        let read = metas_are_read (meta_of ids) account it.old first.2.growth first.2.may told first.2.reply it.may.unused.opening it.may.unused refl ok in
        let base_is : read.0.base ≡ held = read.1 ∙ held_at_meta ids account it.old first.2.growth told first.2.servings first.2.reply in
        subst (λ (log : Log). IsUnderWay ids.host.digits ids.session.0 (request ∷ []) held account log) (sym first.2.grown)
        (subst (λ (s : Collection). IsUnderWay ids.host.digits ids.session.0 (request ∷ []) s account (with_growth it.old first.2.growth)) base_is
        (syncs_ask_more ids.host.digits ids.session.0 [] (request ∷ []) read.0.base account (with_growth it.old first.2.growth) read.0.under_way))

    asked : IsAsked (request ∷ []) held.head.moment request
    asked = record { before = []; after = []; place = refl; step = refl; base_is = refl }

    tells : Tells ids.session.0 (request ∷ []) held request asked (world_at (asker ids) account (with_growth mid r.before)).state.committed
        (world_at (asker ids) account (with_growth mid mine.growth)).commits reply
    tells = calls_tell request account mid mine.growth mine.may reply r opening (request ∷ []) held under asked later granted

    timely : AllByRecursion IsTimely it.growth
    timely =
        subst (AllByRecursion IsTimely) whole
        (all_append IsTimely first.2.growth mine.growth (timely_growth it.old.events (meta_of ids) first.2.growth first.2.may)
        (timely_growth mid.events request mine.growth mine.may))

    -- what was committed, by what was asked
    abbrev CommitsSo : Ask → Type 0
    CommitsSo a = (now : ℤ) × (made : Collection) × (reply ≡ commit_reply a made.head)
        × (commits_of ids.session.0 (world_at (asker ids) account (with_growth mid mine.growth)).commits ≡ record { key = ids.session.0; before = held; after = made } ∷ [])

    commits_so : asks_commit ask ≡ true → CommitsSo ask
    unfolding asked
    commits_so commits = let told_so = tells.commits commits in (told_so.0, closed held [] request told_so.0, told_so.1, told_so.2)

    -- an upload tells the moments of what was committed
    pub upload_formed : (sent : Whole) → ask ≡ asks.Upload sent → (given : UploadMoments) × (uploaded_in reply.give ≡ Some given)
    upload_formed sent is =
        let made = subst (λ (a : Ask). CommitsSo a) is (commits_so (ap asks_commit is)) in
        let after_it : Collection = made.1 in
        let lawful : IsCommitted after_it =
        commit_is_lawful (asker ids) account it.old it.now it.growth it.grown it.may.unused it.may.lawful timely held after_it
        (ap (λ (log : Log). commits_of ids.session.0 (world_at (asker ids) account log).commits) (now_is ∙ mine.grown) ∙ made.3) in
        let given : UploadMoments = record { moment = after_it.head.moment; schema = after_it.head.schema } in (
          given,
          ap (λ (x : Reply). uploaded_in x.give) made.2
              ∙ rw (between (pos 0) last_moment after_it.head.moment lawful.head.moment, between (pos 0) last_moment after_it.head.schema lawful.head.schema) refl,
        )

    -- a download gives what a device may hold
    pub download_formed : ask ≡ asks.Download → (given : Whole) × (whole_in reply.give ≡ Some given) × MayBeHeld given
    download_formed is =
        let base : Collection = (world_at (asker ids) account (with_growth mid r.before)).state.committed in
        let gives : reply ≡ download_reply base = tells.reads (ap is_download is) in
        (whole_of base, ap (λ (x : Reply). whole_in x.give) gives, committed_may_be_held base lawful_there)
      where
        lawful_there : IsCommitted (world_at (asker ids) account (with_growth mid r.before)).state.committed
        lawful_there =
            let earlier = lawful_grown (asker ids) account it.old first.2.growth (timely_growth it.old.events (meta_of ids) first.2.growth first.2.may) it.may.lawful in
            let front : AllByRecursion IsTimely r.before =
            all_front IsTimely r.before (Asked request r.now r.setback ∷ r.after)
            (subst (AllByRecursion IsTimely) (sym r.place) (timely_growth mid.events request mine.growth mine.may)) in
            (lawful_grown (asker ids) account mid r.before front
            (subst (λ (log : Log). IsLawfulAccount (world_at (asker ids) account log).state) (sym first.2.grown) earlier)).committed
