-- What a client knows of the log of its wire, from call to call.
use Rattle.std.specs.List.{AllByRecursion}
use Rattle.std.specs.Prelude.{◌≡◌, ℕ, if◌then◌else◌, Bool, true, false, List, [], ◌∷◌, ◌++◌, Option, None, ◌⊎◌}
use Rattle.std.proofs.Common.{refl, sym, ap, subst, ◌∙◌, inl, inr, append_assoc}
use Rattle.std.proofs.lemmas.List.{append-nil}
use Rattle.std.proofs.lemmas.List.Elements.{filter-append}
use Rattle.ak_keep.specs.Collections.{Collection}
use Rattle.ak_messages.specs.declared.replies.Reply.{Reply}
use Rattle.ak_messages.specs.declared.requests.Request.{Request}
use Rattle.ak_protocol.specs.Accounts.{AccountState}
use Rattle.ak_protocol.specs.Logs.{Event, View, Asked, World, Log, HasAsked, MayCome, IsGrowth, IsReplyIn, opened, server_after, world_next, world_after, host_of, events_of, commits_of, with_growth}
use Rattle.ak_protocol.specs.Replies.{unknown_key}
use Rattle.ak_session.specs.Requests.{is_meta}
use Rattle.ak_protocol.specs.Servers.{same_host, by_account, server_served}
use Rattle.ak_protocol.specs.Sessions.{IsOtherOr, IsOfSync, IsMetaOrOther, IsOwnOrOther, IsFresh, HoldsSync}
use Rattle.ak_protocol.specs.Syncs.{IsUnused, IsUnderWay, world_of}
use Rattle.ak_protocol.proofs.Isolation.{host_is, same_as_itself, none_after}
use Rattle.ak_protocol.proofs.Sessions.{KeptAt, kept_on, kept_of_fresh, fresh_on, all_weaker, metas_alone, revived}

-- ---- lists
abbrev pub All : (Event → Type 0) → List Event → Type 0
All P events = AllByRecursion P events

pub all_append : {X : Type 0} (P : X → Type 0) (xs ys : List X) → AllByRecursion P xs → AllByRecursion P ys → AllByRecursion P (xs ++ ys)
all_append P [] ys one other = other
all_append P (x ∷ xs) ys one other = (one.0, all_append P xs ys one.1 other)

pub all_front : {X : Type 0} (P : X → Type 0) (xs ys : List X) → AllByRecursion P (xs ++ ys) → AllByRecursion P xs
all_front P [] ys all = tt
all_front P (x ∷ xs) ys all = (all.0, all_front P xs ys all.1)

pub all_back : {X : Type 0} (P : X → Type 0) (xs ys : List X) → AllByRecursion P (xs ++ ys) → AllByRecursion P ys
all_back P [] ys all = all
all_back P (x ∷ xs) ys all = all_back P xs ys all.1

pub own_append : (host : List ℕ) (xs ys : List Event) → events_of host (xs ++ ys) ≡ events_of host xs ++ events_of host ys
own_append host xs ys = filter-append (λ event. same_host host (host_of event)) xs ys

pub world_append : (w : World) (xs ys : List Event) → world_after w (xs ++ ys) ≡ world_after (world_after w xs) ys
world_append w [] ys = refl
world_append w (x ∷ xs) ys = world_append (world_next w x) xs ys

-- ---- what may come
-- what holds of an event of this account holds of the first of the list, and of the others
first_holds : (P : Event → Type 0) (host : List ℕ) (event : Event) (events : List Event) → same_host host (host_of event) ≡ true → All P (events_of host (event ∷ events)) → P event
first_holds P host event events own all =
    let now = subst (λ (b : Bool). All P (if b then event ∷ events_of host events else events_of host events)) own all in now.0

others_hold : (P : Event → Type 0) (host : List ℕ) (event : Event) (events : List Event) → All P (events_of host (event ∷ events)) → All P (events_of host events)
others_hold P host event events all =
    elim (same_host host (host_of event)) as (λ b. All P (if b then event ∷ events_of host events else events_of host events) → All P (events_of host events)) [
      | true ↦ λ all. all.1
      | false ↦ λ all. all
    ] all

-- what came before with this session key is of the kind
came_before : (key : ℕ) (kind : Request → Type 0) (host : List ℕ) (past : List Event) (request : Request) → All (IsOtherOr key kind) (events_of host past)
    → host ≡ request.host.digits → request.session.0 ≡ key → HasAsked past request → kind request
came_before key kind host [] request all same own asked = absurd asked
came_before key kind host (View h ∷ past) request all same own asked =
    came_before key kind host past request (others_hold (IsOtherOr key kind) host (View h) past all) same own asked
came_before key kind host (Asked r now setback ∷ past) request all same own (inl is) =
    let here : same_host host r.host.digits ≡ true = subst (λ (h : List ℕ). same_host host h ≡ true) (same ∙ ap (λ (q : Request). q.host.digits) (sym is)) (same_as_itself host) in
    let holds = first_holds (IsOtherOr key kind) host (Asked r now setback) past here all in
    subst kind is (holds (ap (λ (q : Request). q.session.0) is ∙ own))
came_before key kind host (Asked r now setback ∷ past) request all same own (inr asked) =
    came_before key kind host past request (others_hold (IsOtherOr key kind) host (Asked r now setback) past all) same own asked

one_may : (kind : Request → Type 0) (past : List Event) (request : Request) → All (IsOtherOr request.session.0 kind) (events_of request.host.digits past) → kind request
    → (event : Event) → MayCome past request event → same_host request.host.digits (host_of event) ≡ true → IsOtherOr request.session.0 kind event
one_may kind past request all good (View host) may here = tt
one_may kind past request all good (Asked other now setback) may here = λ own.
    let same = host_is request.host.digits other.host.digits here in
    by_origin same own (may.1 (sym same) own)
  where
    by_origin : request.host.digits ≡ other.host.digits → other.session.0 ≡ request.session.0 → (other ≡ request) ⊎ HasAsked past other → kind other
    by_origin same own (inl is) = subst kind (sym is) good
    by_origin same own (inr asked) = came_before request.session.0 kind request.host.digits past other all same own asked

-- all that comes while a request is under way is of its kind, or bears another key
pub growth_is : (kind : Request → Type 0) (past : List Event) (request : Request) → All (IsOtherOr request.session.0 kind) (events_of request.host.digits past) → kind request
    → (growth : List Event) → All (MayCome past request) growth → All (IsOtherOr request.session.0 kind) (events_of request.host.digits growth)
growth_is kind past request all good [] may = tt
growth_is kind past request all good (event ∷ growth) may =
    let host = request.host.digits in
    let more = growth_is kind past request all good growth may.1 in
    elim (same_host host (host_of event)) as (λ b. same_host host (host_of event) ≡ b → All (IsOtherOr request.session.0 kind) (if b then event ∷ events_of host growth else events_of host growth)) [
      | true ↦ λ here. (one_may kind past request all good event may.0 here, more)
      | false ↦ λ other. more
    ] refl

-- ---- what is kept
-- an event that comes to this account is the first of its events
pub own_first : (host : List ℕ) (event : Event) (events : List Event) → same_host host (host_of event) ≡ true → events_of host (event ∷ events) ≡ event ∷ events_of host events
own_first host event events own = ap (λ (b : Bool). if b then event ∷ events_of host events else events_of host events) own

kept_after : (key : ℕ) (plan : List Request) (base : Collection) (met : World) (events : List Event) → IsFresh key met → met.state.committed ≡ base
    → All (IsOwnOrOther key plan base.head.moment) events → KeptAt key plan base (world_after met events)
kept_after key plan base met events fresh base_is =
    subst (λ (b : Collection). All (IsOwnOrOther key plan b.head.moment) events → KeptAt key plan b (world_after met events)) base_is
    (kept_on key plan met.state.committed met events (kept_of_fresh key plan met fresh))

module _ (host : List ℕ) (key : ℕ) (plan : List Request) (base : Collection) (account : AccountState) (log : Log) (u : IsUnderWay host key plan base account log) where
  abbrev Own : Event → Type 0
  Own = IsOwnOrOther key plan base.head.moment

  -- all of the log with this key is of the sync
  pub past_is_own : All Own (events_of host log.events)
  past_is_own =
      subst (λ (events : List Event). All Own (events_of host events)) u.events
      (subst (All Own) (sym (own_append host u.first u.later))
      (all_append Own (events_of host u.first) (events_of host u.later)
      (all_weaker (IsMetaOrOther key) Own (metas_alone key plan base.head.moment) (events_of host u.first) u.metas) u.own))

  world_split : (more : List Event) → world_after (opened account) (events_of host (log.events ++ more))
      ≡ world_after (world_after (opened account) (events_of host u.first)) (events_of host (u.later ++ more))
  world_split more =
      ap (λ (events : List Event). world_after (opened account) (events_of host (events ++ more))) (sym u.events)
      ∙ ap (λ (events : List Event). world_after (opened account) (events_of host events)) (append_assoc u.first u.later more)
      ∙ ap (world_after (opened account)) (own_append host u.first (u.later ++ more))
      ∙ world_append (opened account) (events_of host u.first) (events_of host (u.later ++ more))

  -- what is kept of the sync is kept after more events of this kind
  pub kept_more : (more : List Event) → All Own (events_of host more) → KeptAt key plan base (world_after (opened account) (events_of host (log.events ++ more)))
  kept_more more own =
      subst (KeptAt key plan base) (sym (world_split more))
      (kept_after key plan base (world_after (opened account) (events_of host u.first)) (events_of host (u.later ++ more))
      (fresh_on key (opened account) (events_of host u.first) u.fresh u.metas) u.base_is
      (subst (All Own) (sym (own_append host u.later more)) (all_append Own (events_of host u.later) (events_of host more) u.own own)))

  pub kept_now : KeptAt key plan base (world_of host account log)
  kept_now = subst (λ (events : List Event). KeptAt key plan base (world_after (opened account) (events_of host events))) (append-nil log.events) (kept_more [] tt)

  -- events of this kind leave a sync under way
  pub events_keep_syncs : (more : List Event) → All Own (events_of host more) → IsUnderWay host key plan base account (with_growth log more)
  events_keep_syncs more own = record {
    opening = u.opening;
    fresh = u.fresh;
    first = u.first;
    later = u.later ++ more;
    events = sym (append_assoc u.first u.later more) ∙ ap (λ (events : List Event). events ++ more) u.events;
    metas = u.metas;
    base_is = u.base_is;
    own = subst (All Own) (sym (own_append host u.later more)) (all_append Own (events_of host u.later) (events_of host more) u.own own);
  }

  -- a server holds a sync that is under way
  pub syncs_are_held : HoldsSync key plan base (world_of host account log)
  syncs_are_held = revived key plan base (world_of host account log) kept_now

-- ---- calls
module _ (request : Request) (account : AccountState) (old : Log) (growth : List Event) (may : All (MayCome old.events request) growth) where
  abbrev host : List ℕ
  host = request.host.digits

  abbrev key : ℕ
  key = request.session.0

  abbrev new : Log
  new = with_growth old growth

  -- the metas of a session leave its key unused
  pub metas_leave_unused : IsUnused host key account old → is_meta request.ask ≡ true → IsUnused host key account new
  metas_leave_unused u meta = record {
    opening = u.opening;
    fresh = u.fresh;
    metas = subst (All (IsMetaOrOther key)) (sym (own_append host old.events growth))
        (all_append (IsMetaOrOther key) (events_of host old.events) (events_of host growth) u.metas (growth_is (λ r. is_meta r.ask ≡ true) old.events request u.metas meta growth may));
  }

  -- a request of a sync leaves it under way
  pub calls_keep_syncs : (plan : List Request) (base : Collection) → IsUnderWay host key plan base account old → IsOfSync plan base.head.moment request
      → IsUnderWay host key plan base account new
  calls_keep_syncs plan base u of_sync =
      events_keep_syncs host key plan base account old u growth
      (growth_is (IsOfSync plan base.head.moment) old.events request (past_is_own host key plan base account old u) of_sync growth may)

-- ---- a key that stays unused
-- metas alone leave a key unused, whatever else comes
pub events_leave_unused : (host : List ℕ) (key : ℕ) (account : AccountState) (log : Log) → IsUnused host key account log
    → (more : List Event) → All (IsMetaOrOther key) (events_of host more) → IsUnused host key account (with_growth log more)
events_leave_unused host key account log u more metas = record {
  opening = u.opening;
  fresh = u.fresh;
  metas = subst (All (IsMetaOrOther key)) (sym (own_append host log.events more))
      (all_append (IsMetaOrOther key) (events_of host log.events) (events_of host more) u.metas metas);
}

-- a key that is unused committed nothing
pub unused_keys_commit_nothing : (host : List ℕ) (key : ℕ) (account : AccountState) (log : Log) → IsUnused host key account log
    → commits_of key (world_of host account log).commits ≡ []
unused_keys_commit_nothing host key account log u = (fresh_on key (opened account) (events_of host log.events) u.fresh u.metas).commits

-- ---- a request that is tried again
asked_in : (xs ys : List Event) (request : Request) → HasAsked (xs ++ ys) request → HasAsked xs request ⊎ HasAsked ys request
asked_in [] ys request asked = inr asked
asked_in (View host ∷ xs) ys request asked = asked_in xs ys request asked
asked_in (Asked other now setback ∷ xs) ys request (inl is) = inl (inl is)
asked_in (Asked other now setback ∷ xs) ys request (inr asked) = or_later (asked_in xs ys request asked)
  where
    or_later : HasAsked xs request ⊎ HasAsked ys request → ((other ≡ request) ⊎ HasAsked xs request) ⊎ HasAsked ys request
    or_later (inl one) = inl (inr one)
    or_later (inr two) = inr two

-- what came while a request was under way, with its session key, is this request or came before
origin : (past : List Event) (request : Request) (growth : List Event) → All (MayCome past request) growth → (other : Request)
    → other.host.digits ≡ request.host.digits → other.session.0 ≡ request.session.0 → HasAsked growth other → (other ≡ request) ⊎ HasAsked past other
origin past request [] may other same own asked = absurd asked
origin past request (View host ∷ growth) may other same own asked = origin past request growth may.1 other same own asked
origin past request (Asked r now setback ∷ growth) may other same own (inl is) =
    subst (λ (q : Request). q.host.digits ≡ request.host.digits → q.session.0 ≡ request.session.0 → (q ≡ request) ⊎ HasAsked past q) is may.0.1 same own
origin past request (Asked r now setback ∷ growth) may other same own (inr asked) = origin past request growth may.1 other same own asked

tried_again : (past : List Event) (request : Request) (growth : List Event) → All (MayCome past request) growth → (event : Event)
    → MayCome (past ++ growth) request event → MayCome past request event
tried_again past request growth may (View host) one = tt
tried_again past request growth may (Asked other now setback) one = (one.0, λ same own. by_origin same own (one.1 same own))
  where
    by_place : other.host.digits ≡ request.host.digits → other.session.0 ≡ request.session.0 → HasAsked past other ⊎ HasAsked growth other → (other ≡ request) ⊎ HasAsked past other
    by_place same own (inl before) = inr before
    by_place same own (inr here) = origin past request growth may other same own here

    by_origin : other.host.digits ≡ request.host.digits → other.session.0 ≡ request.session.0 → (other ≡ request) ⊎ HasAsked (past ++ growth) other → (other ≡ request) ⊎ HasAsked past other
    by_origin same own (inl is) = inl is
    by_origin same own (inr asked) = by_place same own (asked_in past growth other asked)

-- what came while a request was under way twice may come while it is under way once
pub tries_are_one_growth : (request : Request) (old : Log) (growth more : List Event) → IsGrowth old request growth → IsGrowth (with_growth old growth) request more
    → IsGrowth old request (growth ++ more)
tries_are_one_growth request old growth more may again =
    all_append (MayCome old.events request) growth more may
    (all_weaker (MayCome (old.events ++ growth) request) (MayCome old.events request) (tried_again old.events request growth may) more again)

-- the reply to the second try is one of both
pub tries_reply : (request : Request) (old : Log) (growth more : List Event) (reply : Reply) → IsReplyIn (with_growth old growth) more request reply
    → IsReplyIn old (growth ++ more) request reply
tries_reply request old growth more reply r = record {
  before = growth ++ r.before;
  after = r.after;
  now = r.now;
  setback = r.setback;
  place = append_assoc growth r.before (Asked request r.now r.setback ∷ r.after) ∙ ap (λ (events : List Event). growth ++ events) r.place;
  is = ap (λ (events : List Event). (server_served (server_after old.opening events) request r.now r.setback).reply) (sym (append_assoc old.events growth r.before)) ∙ r.is;
}

-- ---- a host key that is no account's
pub unknown_keys_are_told : (request : Request) (old : Log) (growth : List Event) (reply : Reply) → old.opening request.host.digits ≡ None
    → IsReplyIn old growth request reply → reply ≡ unknown_key
unknown_keys_are_told request old growth reply none r =
    sym r.is
    ∙ ap (λ (o : Option AccountState). (by_account o (server_after old.opening (old.events ++ r.before)) request r.now r.setback).reply)
    (none_after request.host.digits old.opening (old.events ++ r.before) none)
