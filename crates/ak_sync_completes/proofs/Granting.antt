-- Each request of a sync is granted, if nothing comes in between.
use Rattle.std.specs.List.{AllByRecursion}
use Rattle.std.specs.Prelude.{◌≡◌, ◌≤◌, ℕ, ℤ, if◌then◌else◌, Bool, true, false, List, [], ◌∷◌, ◌++◌, length, Some, None}
use Rattle.std.proofs.Common.{refl, sym, ap, subst, ◌∙◌, arith, append_assoc}
use Rattle.std.proofs.lemmas.List.{length-append}
use Rattle.ak_base.specs.declared.keys.SessionKey.{SessionKey}
use Rattle.ak_keep.specs.Collections.{Collection}
use Rattle.ak_merge.specs.Holdings.{row_under}
use Rattle.ak_merge.specs.Joins.{joined_under}
use Rattle.ak_merge.specs.Soundness.{IsSound}
use Rattle.ak_messages.specs.declared.replies.Reply.{Reply}
use Rattle.ak_messages.specs.declared.requests.Request.{Request}
use Rattle.ak_protocol.proofs.InARow.{AreSingle, each_once, reply_again, single_requests_go_on}
use Rattle.ak_protocol.proofs.Kept.{next_is_done}
use Rattle.ak_protocol.proofs.PastReplies.{next_is_no_repeat, replies_are_past}
use Rattle.ak_protocol.specs.Accounts.{SessionState, repeated}
use Rattle.ak_protocol.specs.Lawful.{AreAccepted, IsNext}
use Rattle.ak_protocol.specs.Logs.{Event, View, Asked, World, IsAgain, world_after, world_next, world_served}
use Rattle.ak_protocol.specs.Serving.{Setback, Undisturbed, Served, begun, by_repeat, served}
use Rattle.ak_protocol.specs.Sessions.{AreUndisturbed}
use Rattle.ak_session.proofs.Accepted.{plans_allowed, plans_go_on}
use Rattle.ak_session.proofs.PlanLaws.{each_planned, finish_is_last}
use Rattle.ak_session.specs.Contents.{refusal}
use Rattle.ak_session.specs.Plans.{Asker, plan}
use Rattle.ak_session.specs.Requests.{asks_commit, is_meta}
use Rattle.ak_session.specs.Sessions.{HaveRoom, MaySync}

-- a meta begins a session
pub meta_begins : (w : World) (meta other : Request) (now : ℤ) (setback : Setback) → is_meta meta.ask ≡ true → other ≡ meta → setback ≡ Undisturbed
    → served w.state other now setback ≡ begun w.state meta now
meta_begins w meta other now setback begins same quiet =
    ap (λ (r : Request). served w.state r now setback) same
    ∙ ap (λ (b : Setback). served w.state meta now b) quiet
    ∙ ap (λ (b : Bool). if b then begun w.state meta now else by_repeat (repeated w.state.kept meta) w.state meta now) begins

module _ (who : Asker) (c s : Collection) (may : MaySync c s) (room : HaveRoom c s) (sound : IsSound (joined_under (row_under c) (row_under s)))
    (short : length (plan who c s) ≤ 9_223_372_036_854_775_807) where
  step_fits : (before : List Request) (request : Request) (after : List Request) → before ++ request ∷ after ≡ plan who c s → request.step ≤ 9_223_372_036_854_775_807
  step_fits before request after is =
      let step = (each_planned who c s before request after is).step in
      let long = length-append before (request ∷ after) in
      let same : length (before ++ request ∷ after) ≡ length (plan who c s) = ap (λ (l : List Request). length l) is in
      omega (arith, step, long, same, short)

  module _ (request : Request) (after : List Request) where
    -- a session accepts the requests that come before another of the plan
    earlier_accepted : (before : List Request) → before ++ request ∷ after ≡ plan who c s → AreAccepted who.session.0 s before
    earlier_accepted before is front one rest parts =
        let place : front ++ one ∷ (rest ++ request ∷ after) ≡ plan who c s =
        sym (append_assoc front (one ∷ rest) (request ∷ after)) ∙ ap (λ (l : List Request). l ++ request ∷ after) parts ∙ is in
        let planned = each_planned who c s front one (rest ++ request ∷ after) place in
        record {
          own = ap (λ (key : SessionKey). key.0) planned.session;
          step = planned.step;
          in_range = step_fits front one (rest ++ request ∷ after) place;
          base = planned.base_is;
          later = planned.later;
          stays = by_commit (asks_commit one.ask) refl place;
          allowed = plans_allowed who c s front one (rest ++ request ∷ after) may room place;
          goes_on = plans_go_on who c s front one (rest ++ request ∷ after) may sound place;
        }
      where
        not_last : (xs : List Request) → xs ++ request ∷ after ≡ [] → ⊥
        not_last xs none = let long = length-append xs (request ∷ after) in omega (arith, long, ap (λ (l : List Request). length l) none)

        by_commit : (b : Bool) → asks_commit one.ask ≡ b → front ++ one ∷ (rest ++ request ∷ after) ≡ plan who c s → asks_commit one.ask ≡ false
        by_commit false e place = e
        by_commit true e place = absurd (not_last rest (finish_is_last who c s front one (rest ++ request ∷ after) place e).2)

    module _ (before : List Request) (place : before ++ request ∷ after ≡ plan who c s) where
      -- the session that accepted those before it
      abbrev ready : SessionState
      ready = record { key = who.session.0; accepted = before }

      next : (w : World) → w.state.committed ≡ s → w.state.live ≡ Some ready → IsNext w.state ready request
      next w same live =
          let one = each_planned who c s before request after place in
          record {
            live = live;
            key = sym (ap (λ (key : SessionKey). key.0) one.session);
            step = one.step;
            base = one.base_is ∙ ap (λ (k : Collection). k.head.moment) (sym same);
            later = one.later;
            in_range = step_fits before request after place;
            allowed = subst (λ (k : Collection). refusal k before request ≡ None) (sym same) (plans_allowed who c s before request after may room place);
          }

      module _ (w : World) (meta : Request) (begins : is_meta meta.ask ≡ true) (own : meta.session ≡ who.session) (same : w.state.committed ≡ s) where
        -- what is granted in a world
        abbrev IsGrantedIn : ℤ → World → Type 0
        IsGrantedIn now v = (served v.state request now Undisturbed).reply.status ≡ 200

        granted_after_single : (now : ℤ) (events : List Event) → AreSingle (meta ∷ before) events → IsGrantedIn now (world_after w events)
        granted_after_single now [] quiet = absurd quiet
        granted_after_single now (View host ∷ events) quiet = absurd quiet
        granted_after_single now (Asked other at setback ∷ events) quiet =
            let session : SessionState = record { key = meta.session.0; accepted = [] } in
            let key : meta.session.0 ≡ who.session.0 = ap (λ (k : SessionKey). k.0) own in
            let met : World = record { state = (begun w.state meta at).next; commits = w.commits } in
            let is : world_after w (Asked other at setback ∷ events) ≡ world_after met events =
            ap (λ (i : Served). world_after (world_served w other i) events) (meta_begins w meta other at setback begins quiet.0 quiet.1) in
            let longer = single_requests_go_on met session before events tt refl
            (subst (λ (k : Collection). AreAccepted meta.session.0 k before) (sym same)
            (subst (λ (n : ℕ). AreAccepted n s before) (sym key) (earlier_accepted before place))) quiet.2 in
            let pushed : World = world_after met events in
            let live : pushed.state.live ≡ Some ready = longer.live ∙ ap (λ (k : ℕ). Some (record { key = k; accepted = before })) key in
            let is_next = next pushed (longer.committed ∙ same) live in
            subst (IsGrantedIn now) (sym is)
            (next_is_done pushed.state ready request now is_next (next_is_no_repeat pushed.state ready request (replies_are_past met events tt) is_next)).granted

        granted_next : (now : ℤ) (events : List Event) → AreUndisturbed (meta ∷ before) events → IsGrantedIn now (world_after w events)
        granted_next now events quiet =
            let once = each_once w (meta ∷ before) events quiet in
            subst (IsGrantedIn now) (sym once.2) (granted_after_single now once.0 once.1)

        -- also once it came already
        pub granted_again : (now : ℤ) (events more : List Event) → AreUndisturbed (meta ∷ before) events → AllByRecursion (IsAgain request) more
            → IsGrantedIn now (world_after (world_after w events) more)
        granted_again now events [] quiet all = granted_next now events quiet
        granted_again now events (View host ∷ more) quiet all = absurd all.0
        granted_again now events (Asked other first setback ∷ more) quiet all =
            let there : World = world_after w events in
            subst (λ (v : World). IsGrantedIn now (world_after v more))
            (sym (ap (λ (r : Request). world_next there (Asked r first setback)) all.0.0 ∙ ap (λ (b : Setback). world_next there (Asked request first b)) all.0.1))
            (subst (λ (reply : Reply). reply.status ≡ 200)
            (sym (reply_again there request first now more (each_planned who c s before request after place).later all.1))
            (granted_next first events quiet))
