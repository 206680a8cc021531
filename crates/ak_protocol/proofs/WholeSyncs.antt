-- A whole sync, if nothing comes in between.
use Rattle.std.specs.Prelude.{◌≡◌, ◌≤◌, ℕ, ℤ, ◌+◌, if◌then◌else◌, Bool, true, false, List, [], ◌∷◌, ◌++◌, length, Some, None}
use Rattle.std.proofs.Common.{refl, sym, ap, subst, ◌∙◌, arith, append_assoc}
use Rattle.std.proofs.lemmas.List.{length-append}
use Rattle.ak_base.specs.declared.keys.SessionKey.{SessionKey}
use Rattle.ak_keep.specs.Collections.{Collection}
use Rattle.ak_merge.specs.Exchanges.{IsServerHalf}
use Rattle.ak_merge.specs.Holdings.{row_under}
use Rattle.ak_merge.specs.Joins.{joined_under}
use Rattle.ak_merge.specs.Soundness.{IsSound}
use Rattle.ak_messages.specs.declared.requests.Ask.{Ask}
use Rattle.ak_messages.specs.declared.requests.Ask.TheVariants as asks
use Rattle.ak_messages.specs.declared.requests.Request.{Request}
use Rattle.ak_session.specs.Asks.{asks_of}
use Rattle.ak_session.specs.Contents.{refusal, ends, closed}
use Rattle.ak_session.specs.Plans.{Asker, planned_check, given_by_sync, sent_by_sync, requests_from, plan}
use Rattle.ak_session.specs.Requests.{is_meta, asks_commit}
use Rattle.ak_session.specs.Sessions.{MaySync, HaveRoom}
use Rattle.ak_session.proofs.Accepted.{plans_allowed, plans_go_on}
use Rattle.ak_session.proofs.PlanLaws.{each_planned, finish_is_last}
use Rattle.ak_session.proofs.SyncLaws.{syncs_exchange}
use Rattle.ak_protocol.specs.Accounts.{SessionState, repeated}
use Rattle.ak_protocol.specs.Commits.{CommitsSync}
use Rattle.ak_protocol.specs.Kept.{HasPastReply}
use Rattle.ak_protocol.specs.Lawful.{IsNext, AreAccepted}
use Rattle.ak_protocol.specs.Logs.{Event, View, Asked, Commit, World, world_served, world_after}
use Rattle.ak_protocol.specs.Serving.{Setback, Undisturbed, Served, begun, by_repeat, ended, went_on, finished, served}
use Rattle.ak_protocol.specs.Sessions.{AreUndisturbed}
use Rattle.ak_protocol.proofs.Kept.{reaches}
use Rattle.ak_protocol.proofs.InARow.{AreSingle, each_once, single_requests_go_on, last_single}
use Rattle.ak_protocol.proofs.PastReplies.{replies_are_past, next_is_no_repeat}
use Rattle.ak_protocol.proofs.Syncs.{world_append}

-- the requests of asks with one more at their end
requests_and_last : (who : Asker) (base : ℤ) (step : ℕ) (list : List Ask) (last : Ask) → (request : Request) × (requests_from who base step (list ++ last ∷ []) ≡ requests_from who base step list ++ request ∷ [])
    × (request.ask ≡ last)
requests_and_last who base step [] last = (record { host = who.host; session = who.session; step = step; base = base; ask = last }, refl, refl)
requests_and_last who base step (ask ∷ list) last =
    let more = requests_and_last who base (step + 1) list last in
    (more.0, ap (λ (l : List Request). record { host = who.host; session = who.session; step = step; base = base; ask = ask } ∷ l) more.1, more.2)

asks_back : (who : Asker) (base : ℤ) (step : ℕ) (list : List Ask) → asks_of (requests_from who base step list) ≡ list
asks_back who base step [] = refl
asks_back who base step (ask ∷ list) = ap (λ (l : List Ask). ask ∷ l) (asks_back who base (step + 1) list)

not_nothing : (xs : List Request) (x : Request) → xs ++ x ∷ [] ≡ [] → ⊥
not_nothing xs x is = let long = length-append xs (x ∷ []) in omega (arith, long, ap (λ (l : List Request). length l) is)

module _ (who : Asker) (c s : Collection) (may : MaySync c s) (room : HaveRoom c s) (sound : IsSound (joined_under (row_under c) (row_under s)))
    (short : length (plan who c s) ≤ 9_223_372_036_854_775_807) where
  -- all but the finish
  abbrev front : List Request
  front = requests_from who s.head.moment 1 (planned_check c s)

  abbrev finish : Request
  finish = (requests_and_last who s.head.moment 1 (planned_check c s) asks.Finish).0

  plan_is : front ++ finish ∷ [] ≡ plan who c s
  plan_is = sym (requests_and_last who s.head.moment 1 (planned_check c s) asks.Finish).1

  is_finish : finish.ask ≡ asks.Finish
  is_finish = (requests_and_last who s.head.moment 1 (planned_check c s) asks.Finish).2

  step_fits : (before : List Request) (request : Request) (after : List Request) → before ++ request ∷ after ≡ plan who c s → request.step ≤ 9_223_372_036_854_775_807
  step_fits before request after is =
      let step = (each_planned who c s before request after is).step in
      let long = length-append before (request ∷ after) in
      let same : length (before ++ request ∷ after) ≡ length (plan who c s) = ap (λ (l : List Request). length l) is in
      omega (arith, step, long, same, short)

  front_accepted : AreAccepted who.session.0 s front
  front_accepted before request after is =
      let place : before ++ request ∷ (after ++ finish ∷ []) ≡ plan who c s =
      sym (append_assoc before (request ∷ after) (finish ∷ [])) ∙ ap (λ (l : List Request). l ++ finish ∷ []) is ∙ plan_is in
      let one = each_planned who c s before request (after ++ finish ∷ []) place in
      record {
        own = ap (λ (key : SessionKey). key.0) one.session;
        step = one.step;
        in_range = step_fits before request (after ++ finish ∷ []) place;
        base = one.base_is;
        later = one.later;
        stays = by_commit (asks_commit request.ask) refl place;
        allowed = plans_allowed who c s before request (after ++ finish ∷ []) may room place;
        goes_on = plans_go_on who c s before request (after ++ finish ∷ []) may sound place;
      }
    where
      by_commit : (b : Bool) → asks_commit request.ask ≡ b → before ++ request ∷ (after ++ finish ∷ []) ≡ plan who c s → asks_commit request.ask ≡ false
      by_commit false e place = e
      by_commit true e place = absurd (not_nothing after finish (finish_is_last who c s before request (after ++ finish ∷ []) place e).2)

  abbrev ready : SessionState
  ready = record { key = who.session.0; accepted = front }

  -- once the session accepted the others, the finish is next, and commits
  module _ (w : World) (now : ℤ) (same : w.state.committed ≡ s) (live : w.state.live ≡ Some ready) (past : HasPastReply w.state) where
    own_key : finish.session.0 ≡ who.session.0
    own_key = ap (λ (key : SessionKey). key.0) (each_planned who c s front finish [] plan_is).session

    finish_is_next : IsNext w.state ready finish
    finish_is_next =
        let one = each_planned who c s front finish [] plan_is in
        record {
          live = live;
          key = sym own_key;
          step = one.step;
          base = one.base_is ∙ ap (λ (k : Collection). k.head.moment) (sym same);
          later = one.later;
          in_range = step_fits front finish [] plan_is;
          allowed = subst (λ (k : Collection). refusal k front finish ≡ None) (sym same) (plans_allowed who c s front finish [] may room plan_is);
        }

    is_finished : served w.state finish now Undisturbed ≡ finished w.state ready finish now
    is_finished =
        reaches w.state ready finish now finish_is_next (next_is_no_repeat w.state ready finish past finish_is_next)
        ∙ ap (λ (b : Bool). if b then finished w.state ready finish now else if ends w.state.committed front finish then ended w.state ready finish else went_on w.state ready finish)
        (ap asks_commit is_finish)

    half_is_committed : IsServerHalf (given_by_sync c s) (sent_by_sync c s) c s (closed w.state.committed front finish now)
    half_is_committed =
        subst (λ (k : Collection). IsServerHalf (given_by_sync c s) (sent_by_sync c s) c s (closed k front finish now)) (sym same)
        (syncs_exchange c s front finish now may (asks_back who s.head.moment 1 (planned_check c s)) is_finish)

single_syncs_commit : (who : Asker) (c : Collection) (w : World) (meta : Request) (events : List Event)
    → MaySync c w.state.committed → HaveRoom c w.state.committed → IsSound (joined_under (row_under c) (row_under w.state.committed))
    → length (plan who c w.state.committed) ≤ 9_223_372_036_854_775_807 → is_meta meta.ask ≡ true → meta.session ≡ who.session
    → AreSingle (meta ∷ plan who c w.state.committed) events → CommitsSync who c w (world_after w events)
single_syncs_commit who c w meta [] may room sound short begins own quiet = absurd quiet
single_syncs_commit who c w meta (View host ∷ events) may room sound short begins own quiet = absurd quiet
single_syncs_commit who c w meta (Asked other now setback ∷ events) may room sound short begins own quiet =
    let s = w.state.committed in
    let list = front who c s may room sound short in
    let last = finish who c s may room sound short in
    let session : SessionState = record { key = meta.session.0; accepted = [] } in
    let it : served w.state other now setback ≡ begun w.state meta now =
    ap (λ (r : Request). served w.state r now setback) quiet.0
    ∙ ap (λ (b : Setback). served w.state meta now b) quiet.1
    ∙ ap (λ (b : Bool). if b then begun w.state meta now else by_repeat (repeated w.state.kept meta) w.state meta now) begins in
    let met : World = record { state = (begun w.state meta now).next; commits = w.commits } in
    let key : meta.session.0 ≡ who.session.0 = ap (λ (k : SessionKey). k.0) own in
    let rest = last_single list last events (subst (λ (l : List Request). AreSingle l events) (sym (plan_is who c s may room sound short)) quiet.2) in
    let longer = single_requests_go_on met session list rest.0 tt refl
    (subst (λ (k : ℕ). AreAccepted k s list) (sym key) (front_accepted who c s may room sound short)) rest.3 in
    let pushed : World = world_after met rest.0 in
    let live : pushed.state.live ≡ Some (record { key = who.session.0; accepted = list }) =
    longer.live ∙ ap (λ (k : ℕ). Some (record { key = k; accepted = list })) key in
    let past = replies_are_past met rest.0 tt in
    let done : World = world_served pushed last (finished pushed.state (record { key = who.session.0; accepted = list }) last rest.1) in
    let end : world_after w (Asked other now setback ∷ events) ≡ done =
    ap (λ (i : Served). world_after (world_served w other i) events) it
    ∙ ap (world_after met) (sym rest.2)
    ∙ world_append met rest.0 (Asked last rest.1 Undisturbed ∷ [])
    ∙ ap (λ (i : Served). world_served pushed last i) (is_finished who c s may room sound short pushed rest.1 longer.committed live past) in
    subst (CommitsSync who c w) (sym end) (record {
      half = half_is_committed who c s may room sound short pushed rest.1 longer.committed live past;
      commits = commit_is list last s pushed rest.1 w.commits who.session.0 longer.committed (own_key who c s may room sound short pushed rest.1 longer.committed live past) longer.commits;
    })
  where
    commit_is : (list : List Request) (last : Request) (s : Collection) (pushed : World) (at : ℤ) (past : List Commit) (key : ℕ) → pushed.state.committed ≡ s → last.session.0 ≡ key → pushed.commits ≡ past
        → let after = closed pushed.state.committed list last at in
        record { key = last.session.0; before = pushed.state.committed; after = after } ∷ pushed.commits ≡ record { key = key; before = s; after = after } ∷ past
    commit_is list last s pushed at past key same own is =
        let after = closed pushed.state.committed list last at in
        ap (λ (k : ℕ). record { key = k; before = pushed.state.committed; after = after } ∷ pushed.commits) own
        ∙ ap (λ (b : Collection). record { key = key; before = b; after = after } ∷ pushed.commits) same
        ∙ ap (λ (l : List Commit). record { key = key; before = s; after = after } ∷ l) is

pub undisturbed_syncs_commit : (who : Asker) (c : Collection) (w : World) (meta : Request) (events : List Event)
    → MaySync c w.state.committed → HaveRoom c w.state.committed → IsSound (joined_under (row_under c) (row_under w.state.committed))
    → length (plan who c w.state.committed) ≤ 9_223_372_036_854_775_807 → is_meta meta.ask ≡ true → meta.session ≡ who.session
    → AreUndisturbed (meta ∷ plan who c w.state.committed) events → CommitsSync who c w (world_after w events)
undisturbed_syncs_commit who c w meta events may room sound short begins own quiet =
    let once = each_once w (meta ∷ plan who c w.state.committed) events quiet in
    subst (CommitsSync who c w) (sym once.2) (single_syncs_commit who c w meta once.0 may room sound short begins own once.1)
