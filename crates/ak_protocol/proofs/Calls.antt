-- What the reply of a call tells, wherever in the growth of the log it comes from.
use Rattle.std.specs.Prelude.{◌≡◌, ℕ, ℤ, ◌==◌, if◌then◌else◌, true, false, List, [], ◌∷◌, ◌++◌, Option, Some, ◌⊎◌}
use Rattle.std.proofs.Common.{refl, sym, ap, subst, ◌∙◌, inl, inr, arith, append_assoc}
use Rattle.ak_keep.specs.Collections.{Collection}
use Rattle.ak_messages.specs.declared.replies.Give.TheVariants as gives
use Rattle.ak_messages.specs.declared.replies.Reply.{Reply}
use Rattle.ak_messages.specs.declared.requests.Request.{Request}
use Rattle.ak_protocol.specs.Accounts.{AccountState}
use Rattle.ak_protocol.specs.Logs.{Event, View, Asked, Commit, World, Log, MayCome, IsReplyIn, with_growth, with_commit, world_served, world_next, world_after, opened, commits_of, events_of, server_after}
use Rattle.ak_protocol.specs.Replies.{granted, meta_reply}
use Rattle.ak_session.specs.Requests.{is_meta}
use Rattle.ak_protocol.specs.Servers.{by_account}
use Rattle.ak_protocol.specs.Serving.{Setback, Served, served}
use Rattle.ak_protocol.specs.Sessions.{IsAsked, IsOfSync, IsMetaOrOther, IsOwnOrOther, Tells}
use Rattle.ak_protocol.specs.Syncs.{IsUnused, IsUnderWay, IsOpened, world_of}
use Rattle.ak_protocol.proofs.Cases.{by_cases}
use Rattle.ak_protocol.proofs.Commits.{not_both}
use Rattle.ak_protocol.proofs.Isolation.{account_after, same_as_itself}
use Rattle.ak_protocol.proofs.Replies.{not_granted, told}
use Rattle.ak_protocol.proofs.Sessions.{KeptAt, IsMade, all_weaker, metas_alone}
use Rattle.ak_protocol.proofs.Syncs.{All, all_append, all_front, all_back, own_append, own_first, world_append, growth_is, past_is_own, kept_more, kept_now, calls_keep_syncs}

-- ---- commits never go
-- the commits of a session, after a serving: with one more before them, or the same
commits_next : (key : ℕ) (request : Request) (s : AccountState) (it : Served) (past : List Commit)
    → (newer : List Commit) × (commits_of key (with_commit request s it past) ≡ newer ++ commits_of key past)
commits_next key request s it past =
    let commit : Commit = record { key = request.session.0; before = s.committed; after = it.next.committed } in
    elim (it.is_commit) as (λ b. (newer : List Commit) × (commits_of key (if b then commit ∷ past else past) ≡ newer ++ commits_of key past)) [
      | true ↦ elim (commit.key == key) as (λ b. (newer : List Commit) × ((if b then commit ∷ commits_of key past else commits_of key past) ≡ newer ++ commits_of key past)) [
        | true ↦ (commit ∷ [], refl)
        | false ↦ ([], refl)
      ]
      | false ↦ ([], refl)
    ]

-- the commits of a session stay, whatever comes
pub commits_grow : (key : ℕ) (w : World) (events : List Event) → (newer : List Commit) × (commits_of key (world_after w events).commits ≡ newer ++ commits_of key w.commits)
commits_grow key w [] = ([], refl)
commits_grow key w (View host ∷ events) = commits_grow key (world_next w (View host)) events
commits_grow key w (Asked request now setback ∷ events) =
    let more = commits_grow key (world_next w (Asked request now setback)) events in
    let one = commits_next key request w.state (served w.state request now setback) w.commits in
    (more.0 ++ one.0, more.1 ∙ ap (λ (l : List Commit). more.0 ++ l) one.1 ∙ sym (append_assoc more.0 one.0 (commits_of key w.commits)))

none_follow : (newer : List Commit) (one x : Commit) → newer ++ one ∷ [] ≡ x ∷ [] → newer ++ one ∷ [] ≡ one ∷ []
none_follow [] one x is = refl
none_follow (n ∷ []) one x is = absurd (grind (arith, is))
none_follow (n ∷ m ∷ newer) one x is = absurd (grind (arith, is))

none_missing : (newer : List Commit) (one : Commit) → newer ++ one ∷ [] ≡ [] → ⊥
none_missing [] one is = grind (arith, is)
none_missing (n ∷ newer) one is = grind (arith, is)

-- the one commit of a sync is its one commit in any later log
stays_only : (key : ℕ) (plan : List Request) (base : Collection) (past : List Commit) (moment : ℤ) (newer : List Commit) (one : Commit)
    → commits_of key past ≡ newer ++ one ∷ [] → (commits_of key past ≡ []) ⊎ IsMade key plan base past moment → commits_of key past ≡ one ∷ []
stays_only key plan base past moment newer one is (inl none) = absurd (none_missing newer one (sym is ∙ none))
stays_only key plan base past moment newer one is (inr made) = is ∙ none_follow newer one _ (sym is ∙ made.is.only)

-- ---- the reply to a meta
meta_told : (s : AccountState) (request : Request) (now : ℤ) → is_meta request.ask ≡ true → (setback : Setback)
    → let it = served s request now setback in it.reply.status ≡ 200 → it.reply ≡ granted (gives.Meta (meta_reply s.committed.head now))
meta_told s request now meta = by_cases s request now (λ it. it.reply.status ≡ 200 → it.reply ≡ granted (gives.Meta (meta_reply s.committed.head now))) (record {
  strikes = λ reply failed ok. absurd (failed ok);
  begins = λ _ _. refl;
  repeats = λ kept is repeat later _. absurd (not_both meta later);
  refuses_it = λ why ok. absurd (not_granted why ok);
  goes_on = λ session next none goes _. absurd (not_both meta next.later);
  stops = λ session next none _. absurd (not_both meta next.later);
  finishes = λ session next commits _. absurd (not_both meta next.later);
})

-- ---- calls
module _ (request : Request) (account : AccountState) (old : Log) (growth : List Event) (may : All (MayCome old.events request) growth)
    (reply : Reply) (r : IsReplyIn old growth request reply) (opening : old.opening request.host.digits ≡ Some account) where
  abbrev here : World
  here = world_after (opened account) (events_of request.host.digits (old.events ++ r.before))

  -- the reply is what the account gives at its place
  reply_here : (served here.state request r.now r.setback).reply ≡ reply
  reply_here =
      sym (ap (λ (o : Option AccountState). (by_account o (server_after old.opening (old.events ++ r.before)) request r.now r.setback).reply)
      (account_after request.host.digits old.opening (opened account) (old.events ++ r.before) opening))
      ∙ r.is

  -- the world at the end of the growth, from the place of the reply on
  world_on : world_of request.host.digits account (with_growth old growth)
      ≡ world_after (world_next here (Asked request r.now r.setback)) (events_of request.host.digits r.after)
  world_on =
      let host = request.host.digits in
      let event = Asked request r.now r.setback in
      ap (λ (events : List Event). world_after (opened account) (events_of host events))
      (ap (λ (events : List Event). old.events ++ events) (sym r.place) ∙ sym (append_assoc old.events r.before (event ∷ r.after)))
      ∙ ap (world_after (opened account)) (own_append host (old.events ++ r.before) (event ∷ r.after))
      ∙ world_append (opened account) (events_of host (old.events ++ r.before)) (events_of host (event ∷ r.after))
      ∙ ap (world_after here) (own_first host event r.after (same_as_itself host))

  -- what holds of the growth at this account holds before the place, and from it on
  before_place : (P : Event → Type 0) → All P (events_of request.host.digits growth) → All P (events_of request.host.digits r.before)
  before_place P all =
      let host = request.host.digits in
      all_front P (events_of host r.before) (events_of host (Asked request r.now r.setback ∷ r.after))
      (subst (All P) (ap (events_of host) (sym r.place) ∙ own_append host r.before (Asked request r.now r.setback ∷ r.after)) all)

  from_place : (P : Event → Type 0) → All P (events_of request.host.digits growth) → All P (events_of request.host.digits (Asked request r.now r.setback ∷ r.after))
  from_place P all =
      let host = request.host.digits in
      all_back P (events_of host r.before) (events_of host (Asked request r.now r.setback ∷ r.after))
      (subst (All P) (ap (events_of host) (sym r.place) ∙ own_append host r.before (Asked request r.now r.setback ∷ r.after)) all)

  -- a granted meta was answered over what was committed at its place, and the sync is under way from there on
  pub metas_open_syncs : IsUnused request.host.digits request.session.0 account old → is_meta request.ask ≡ true → reply.status ≡ 200
      → IsOpened request account (with_growth old growth) reply
  metas_open_syncs u meta ok =
      let host = request.host.digits in
      let key = request.session.0 in
      let metas = growth_is (λ r. is_meta r.ask ≡ true) old.events request u.metas meta growth may in
      record {
        base = here.state.committed;
        now = r.now;
        timely = (all_back (MayCome old.events request) r.before (Asked request r.now r.setback ∷ r.after) (subst (All (MayCome old.events request)) (sym r.place) may)).0.0;
        told = sym reply_here ∙ meta_told here.state request r.now meta r.setback (ap (λ (x : Reply). x.status) reply_here ∙ ok);
        under_way = record {
          opening = opening;
          fresh = u.fresh;
          first = old.events ++ r.before;
          later = Asked request r.now r.setback ∷ r.after;
          events = append_assoc old.events r.before (Asked request r.now r.setback ∷ r.after) ∙ ap (λ (events : List Event). old.events ++ events) r.place;
          metas = subst (All (IsMetaOrOther key)) (sym (own_append host old.events r.before))
              (all_append (IsMetaOrOther key) (events_of host old.events) (events_of host r.before) u.metas (before_place (IsMetaOrOther key) metas));
          base_is = refl;
          own = all_weaker (IsMetaOrOther key) (IsOwnOrOther key [] here.state.committed.head.moment) (metas_alone key [] here.state.committed.head.moment)
              (events_of host (Asked request r.now r.setback ∷ r.after)) (from_place (IsMetaOrOther key) metas);
        };
      }

  -- it is under way over what was committed at that place
  pub metas_are_read : IsUnused request.host.digits request.session.0 account old → is_meta request.ask ≡ true → reply.status ≡ 200
      → (it : IsOpened request account (with_growth old growth) reply) × (it.base ≡ (world_of request.host.digits account (with_growth old r.before)).state.committed)
  unfolding metas_open_syncs
  metas_are_read u meta ok = (metas_open_syncs u meta ok, refl)

  module _ (plan : List Request) (base : Collection) (u : IsUnderWay request.host.digits request.session.0 plan base account old) (asked : IsAsked plan base.head.moment request)
      (later : is_meta request.ask ≡ false) (ok : reply.status ≡ 200) where
    abbrev given : Served
    given = served here.state request r.now r.setback

    growth_own : All (IsOwnOrOther request.session.0 plan base.head.moment) (events_of request.host.digits growth)
    growth_own = growth_is (IsOfSync plan base.head.moment) old.events request (past_is_own request.host.digits request.session.0 plan base account old u) (inr asked) growth may

    kept_here : KeptAt request.session.0 plan base here
    kept_here = kept_more request.host.digits request.session.0 plan base account old u r.before (before_place (IsOwnOrOther request.session.0 plan base.head.moment) growth_own)

    told_here : Tells request.session.0 plan base request asked here.state.committed (world_served here request given).commits given.reply
    told_here = told request.session.0 plan base here.state here.commits request r.now kept_here asked refl later r.setback (ap (λ (x : Reply). x.status) reply_here ∙ ok)

    -- a commit that stands at the place stands at the end
    still : (one : Commit) → commits_of request.session.0 (world_served here request given).commits ≡ one ∷ []
        → commits_of request.session.0 (world_of request.host.digits account (with_growth old growth)).commits ≡ one ∷ []
    still one is =
        let key = request.session.0 in
        let end = world_of request.host.digits account (with_growth old growth) in
        let more = commits_grow key (world_next here (Asked request r.now r.setback)) (events_of request.host.digits r.after) in
        stays_only key plan base end.commits end.state.committed.head.moment more.0 one
        (ap (λ (w : World). commits_of key w.commits) world_on ∙ more.1 ∙ ap (λ (l : List Commit). more.0 ++ l) is)
        (kept_now request.host.digits key plan base account (with_growth old growth) (calls_keep_syncs request account old growth may plan base u (inr asked))).once

    -- a granted request of a sync tells the same, wherever its reply comes from
    pub calls_tell : Tells request.session.0 plan base request asked (world_of request.host.digits account (with_growth old r.before)).state.committed
        (world_of request.host.digits account (with_growth old growth)).commits reply
    calls_tell = record {
      allowed = told_here.allowed;
      reads = λ whole. sym reply_here ∙ told_here.reads whole;
      commits = λ commits. let m = told_here.commits commits in (m.0, sym reply_here ∙ m.1, still _ m.2);
      answers = λ none no_whole. sym reply_here ∙ told_here.answers none no_whole;
    }

-- ---- more to ask
asked_longer : (plan more : List Request) (base : ℤ) (request : Request) → IsAsked plan base request → IsAsked (plan ++ more) base request
asked_longer plan more base request a = record {
  before = a.before;
  after = a.after ++ more;
  place = sym (append_assoc a.before (request ∷ a.after) more) ∙ ap (λ (l : List Request). l ++ more) a.place;
  step = a.step;
  base_is = a.base_is;
}

own_longer : (key : ℕ) (plan more : List Request) (base : ℤ) (event : Event) → IsOwnOrOther key plan base event → IsOwnOrOther key (plan ++ more) base event
own_longer key plan more base (View host) may = tt
own_longer key plan more base (Asked request now setback) may = λ own. by_kind (may own)
  where
    by_kind : IsOfSync plan base request → IsOfSync (plan ++ more) base request
    by_kind (inl meta) = inl meta
    by_kind (inr asked) = inr (asked_longer plan more base request asked)

-- a sync that is under way may ask more
pub syncs_ask_more : (host : List ℕ) (key : ℕ) (plan more : List Request) (base : Collection) (account : AccountState) (log : Log)
    → IsUnderWay host key plan base account log → IsUnderWay host key (plan ++ more) base account log
syncs_ask_more host key plan more base account log u = record {
  opening = u.opening;
  fresh = u.fresh;
  first = u.first;
  later = u.later;
  events = u.events;
  metas = u.metas;
  base_is = u.base_is;
  own = all_weaker (IsOwnOrOther key plan base.head.moment) (IsOwnOrOther key (plan ++ more) base.head.moment) (own_longer key plan more base.head.moment) (events_of host u.later) u.own;
}
