-- A sync's session holds a front of what the sync asked, over the collection that was committed at its meta.
use Rattle.std.specs.List.{AllByRecursion}
use Rattle.std.specs.Prelude.{◌≡◌, if◌then◌else◌, ◌≢◌, ℕ, ℤ, ◌==◌, ◌≤ℤ◌, ◌<ℤ◌, Bool, true, false, List, [], ◌∷◌, ◌++◌, length, take, drop, Option, Some, None, IfSome, ⊤, ◌⊎◌}
use Rattle.std.proofs.Common.{refl, sym, ap, subst, ◌∙◌, inl, inr, arith, append_assoc}
use Rattle.std.proofs.Math.Seq.{take-append_seam, drop-append_seam}
use Rattle.std.proofs.lemmas.Bool.{eqb-true}
use Rattle.std.proofs.lemmas.Bool.Decides.{eqb_tells}
use Rattle.std.proofs.lemmas.Int.{ints}
use Rattle.ak_keep.specs.Collections.{Collection}
use Rattle.ak_messages.specs.declared.requests.Request.{Request}
use Rattle.ak_protocol.specs.Accounts.{SessionState, KeptReply, AccountState}
use Rattle.ak_session.specs.Contents.{refusal, closed}
use Rattle.ak_protocol.specs.Lawful.{IsNext}
use Rattle.ak_protocol.specs.Logs.{Event, View, Asked, Commit, World, commits_of, with_commit, world_next, world_after}
use Rattle.ak_session.specs.Requests.{is_meta, asks_commit}
use Rattle.ak_protocol.specs.Serving.{Setback, Served, served, kept_of, reply_to, commit_reply}
use Rattle.ak_protocol.specs.Sessions.{IsAsked, IsMetaOrOther, IsOwnOrOther, IsFresh, SyncComes, IsFront, IsOnlyCommit, HoldsSync}
use Rattle.ak_protocol.proofs.Cases.{by_cases}
use Rattle.ak_protocol.proofs.Commits.{not_both}
use Rattle.ak_session.proofs.CommitLaws.{commits_are_later}

-- ---- lists
-- two fronts of one list that are as long are the same, and so is what comes after them
pub same_front : (a b c d : List Request) → a ++ c ≡ b ++ d → length a ≡ length b → a ≡ b
same_front a b c d is long =
    sym (take-append_seam a c) ∙ ap (λ (n : ℕ). take n (a ++ c)) long ∙ ap (take (length b)) is ∙ take-append_seam b d

pub same_rest : (a b c d : List Request) → a ++ c ≡ b ++ d → length a ≡ length b → c ≡ d
same_rest a b c d is long =
    sym (drop-append_seam a c) ∙ ap (λ (n : ℕ). drop n (a ++ c)) long ∙ ap (drop (length b)) is ∙ drop-append_seam b d

-- ---- the commits of one session
pub commits_own : (key : ℕ) (commit : Commit) (past : List Commit) → commit.key ≡ key → commits_of key (commit ∷ past) ≡ commit ∷ commits_of key past
commits_own key commit past is =
    elim (commit.key == key) as (λ b. (commit.key == key) ≡ b → (if b then commit ∷ commits_of key past else commits_of key past) ≡ commit ∷ commits_of key past) [
      | true ↦ λ e. refl
      | false ↦ λ e. absurd (grind (arith, e, is))
    ] refl

pub commits_other : (key : ℕ) (commit : Commit) (past : List Commit) → commit.key ≢ key → commits_of key (commit ∷ past) ≡ commits_of key past
commits_other key commit past other =
    elim (commit.key == key) as (λ b. (commit.key == key) ≡ b → (if b then commit ∷ commits_of key past else commits_of key past) ≡ commits_of key past) [
      | true ↦ λ e. absurd (other (eqb-true commit.key key e))
      | false ↦ λ e. refl
    ] refl

-- ---- what is kept of a sync
-- the list of the live session, if it is this sync's
pub record IsLiveFront (plan : List Request) (base moment : ℤ) (accepted : List Request) : Type 0 where
  pub after : List Request
  pub front : accepted ++ after ≡ plan
  pub same : (accepted ≡ []) ⊎ (moment ≡ base)

abbrev pub LiveIs : ℕ → List Request → ℤ → ℤ → Option SessionState → Type 0
LiveIs key plan base moment None = ⊤
LiveIs key plan base moment (Some session) = session.key ≡ key → IsLiveFront plan base moment session.accepted

-- a commit of this sync, by this request
pub record IsMadeBy (key : ℕ) (plan : List Request) (base : Collection) (past : List Commit) (moment : ℤ) (before : List Request) (request : Request) (now : ℤ) : Type 0 where
  pub only : commits_of key past ≡ record { key = key; before = base; after = closed base before request now } ∷ []
  pub later : base.head.moment <ℤ moment

-- the kept reply, if it is this sync's
pub record IsKeptReply (key : ℕ) (plan : List Request) (base : Collection) (past : List Commit) (moment : ℤ) (kept : KeptReply) : Type 0 where
  pub request : Request
  pub asked : IsAsked plan base.head.moment request
  pub allowed : refusal base asked.before request ≡ None
  pub plain : asks_commit request.ask ≡ false → kept ≡ kept_of request (reply_to base asked.before request)
  pub made : asks_commit request.ask ≡ true → (now : ℤ)
      × (kept ≡ kept_of request (commit_reply request.ask (closed base asked.before request now).head))
      × IsMadeBy key plan base past moment asked.before request now

abbrev pub KeptIs : ℕ → List Request → Collection → List Commit → ℤ → Option KeptReply → Type 0
KeptIs key plan base past moment None = ⊤
KeptIs key plan base past moment (Some kept) = kept.key ≡ key → IsKeptReply key plan base past moment kept

-- the one commit of this sync
pub record IsMade (key : ℕ) (plan : List Request) (base : Collection) (past : List Commit) (moment : ℤ) : Type 0 where
  pub request : Request
  pub asked : IsAsked plan base.head.moment request
  pub commits : asks_commit request.ask ≡ true
  pub allowed : refusal base asked.before request ≡ None
  pub now : ℤ
  pub is : IsMadeBy key plan base past moment asked.before request now

-- what is kept by each event that may come, from the place on where the meta is answered
pub record IsKept (key : ℕ) (plan : List Request) (base committed : Collection) (live : Option SessionState) (kept : Option KeptReply) (past : List Commit) : Type 0 where
  pub later : base.head.moment ≤ℤ committed.head.moment
  pub same : committed.head.moment ≡ base.head.moment → committed ≡ base
  pub live_is : LiveIs key plan base.head.moment committed.head.moment live
  pub kept_is : KeptIs key plan base past committed.head.moment kept
  pub once : (commits_of key past ≡ []) ⊎ IsMade key plan base past committed.head.moment

-- the same of a world
abbrev pub KeptAt : ℕ → List Request → Collection → World → Type 0
KeptAt key plan base w = IsKept key plan base w.state.committed w.state.live w.state.kept w.commits

-- ---- one request
-- where an accepted request stands in what its sync asked: after those that its session accepted, over the collection of the meta
pub record IsPlaced (plan : List Request) (base moment : ℤ) (accepted : List Request) (request : Request) : Type 0 where
  pub asked : IsAsked plan base request
  pub before_is : asked.before ≡ accepted
  pub moment_is : moment ≡ base

-- what may come of a request with this key
abbrev MayBe : ℕ → List Request → ℤ → Request → Type 0
MayBe key plan base request = request.session.0 ≡ key → (is_meta request.ask ≡ true) ⊎ IsAsked plan base request

asked_of : (plan : List Request) (base : ℤ) (request : Request) → is_meta request.ask ≡ false → (is_meta request.ask ≡ true) ⊎ IsAsked plan base request → IsAsked plan base request
asked_of plan base request later (inl meta) = absurd (not_both meta later)
asked_of plan base request later (inr asked) = asked

placed : (key : ℕ) (plan : List Request) (base : ℤ) (s : AccountState) (session : SessionState) (request : Request)
    → IsNext s session request → LiveIs key plan base s.committed.head.moment s.live → MayBe key plan base request → request.session.0 ≡ key
    → IsPlaced plan base s.committed.head.moment session.accepted request
placed key plan base s session request next live may own =
    let asked = asked_of plan base request next.later (may own) in
    let front = subst (LiveIs key plan base s.committed.head.moment) next.live live (next.key ∙ own) in
    record {
      asked = asked;
      before_is = same_front asked.before session.accepted (request ∷ asked.after) front.after (asked.place ∙ sym front.front) (omega (arith, asked.step, next.step));
      moment_is = sym next.base ∙ asked.base_is;
    }

live_on : (plan : List Request) (base moment : ℤ) (accepted : List Request) (request : Request) → IsPlaced plan base moment accepted request
    → IsLiveFront plan base moment (accepted ++ request ∷ [])
live_on plan base moment accepted request p = record {
  after = p.asked.after;
  front = append_assoc accepted (request ∷ []) p.asked.after ∙ ap (λ (l : List Request). l ++ request ∷ p.asked.after) (sym p.before_is) ∙ p.asked.place;
  same = inr p.moment_is;
}

allowed_of : (plan : List Request) (base : Collection) (s : AccountState) (session : SessionState) (request : Request)
    → (p : IsPlaced plan base.head.moment s.committed.head.moment session.accepted request) → s.committed ≡ base → IsNext s session request → refusal base p.asked.before request ≡ None
allowed_of plan base s session request p same next =
    subst (λ (l : List Request). refusal base l request ≡ None) (sym p.before_is)
    (subst (λ (c : Collection). refusal c session.accepted request ≡ None) same next.allowed)

kept_plain : (key : ℕ) (plan : List Request) (base : Collection) (past : List Commit) (s : AccountState) (session : SessionState) (request : Request)
    → IsPlaced plan base.head.moment s.committed.head.moment session.accepted request → s.committed ≡ base → IsNext s session request → asks_commit request.ask ≡ false
    → IsKeptReply key plan base past s.committed.head.moment (kept_of request (reply_to s.committed session.accepted request))
kept_plain key plan base past s session request p same next none = record {
  request = request;
  asked = p.asked;
  allowed = allowed_of plan base s session request p same next;
  plain = λ _.
      ap (λ (c : Collection). kept_of request (reply_to c session.accepted request)) same
      ∙ ap (λ (l : List Request). kept_of request (reply_to base l request)) (sym p.before_is);
  made = λ commits. absurd (not_both commits none);
}

kept_unless : (key : ℕ) (plan : List Request) (base : Collection) (past : List Commit) (moment : ℤ) (kept : Option KeptReply) (meta : Bool)
    → KeptIs key plan base past moment kept → KeptIs key plan base past moment (if meta then None else kept)
kept_unless key plan base past moment kept true is = tt
kept_unless key plan base past moment kept false is = is

-- ---- a commit
abbrev pub commit_by : AccountState → SessionState → Request → ℤ → Commit
commit_by s session request now = record { key = request.session.0; before = s.committed; after = closed s.committed session.accepted request now }

pub none_before : (key : ℕ) (plan : List Request) (base : Collection) (past : List Commit) (moment : ℤ) → moment ≡ base.head.moment
    → (commits_of key past ≡ []) ⊎ IsMade key plan base past moment → commits_of key past ≡ []
none_before key plan base past moment is (inl none) = none
none_before key plan base past moment is (inr made) = absurd (omega (arith, ints, is, made.is.later))

pub made_by : (key : ℕ) (plan : List Request) (base : Collection) (past : List Commit) (s : AccountState) (session : SessionState) (request : Request) (now : ℤ)
    → (p : IsPlaced plan base.head.moment s.committed.head.moment session.accepted request) → s.committed ≡ base → request.session.0 ≡ key → commits_of key past ≡ []
    → IsMadeBy key plan base (commit_by s session request now ∷ past) (closed s.committed session.accepted request now).head.moment p.asked.before request now
made_by key plan base past s session request now p same own none = record {
  only = commits_own key (commit_by s session request now) past own
      ∙ ap (λ (l : List Commit). commit_by s session request now ∷ l) none
      ∙ ap (λ (k : ℕ). record { key = k; before = s.committed; after = closed s.committed session.accepted request now } ∷ []) own
      ∙ ap (λ (c : Collection). record { key = key; before = c; after = closed c session.accepted request now } ∷ []) same
      ∙ ap (λ (l : List Request). record { key = key; before = base; after = closed base l request now } ∷ []) (sym p.before_is);
  later = subst (λ (m : ℤ). m <ℤ (closed s.committed session.accepted request now).head.moment) p.moment_is (commits_are_later s.committed session.accepted request now);
}

made_later : (key : ℕ) (plan : List Request) (base : Collection) (past : List Commit) (commit : Commit) (before after : ℤ) → before <ℤ after → commit.key ≢ key
    → (commits_of key past ≡ []) ⊎ IsMade key plan base past before → (commits_of key (commit ∷ past) ≡ []) ⊎ IsMade key plan base (commit ∷ past) after
made_later key plan base past commit before after up other (inl none) = inl (commits_other key commit past other ∙ none)
made_later key plan base past commit before after up other (inr made) = inr (record {
  request = made.request;
  asked = made.asked;
  commits = made.commits;
  allowed = made.allowed;
  now = made.now;
  is = record { only = commits_other key commit past other ∙ made.is.only; later = omega (arith, ints, up, made.is.later) };
})

-- ---- every request
module _ (key : ℕ) (plan : List Request) (base : Collection) (s : AccountState) (past : List Commit) (request : Request) (now : ℤ)
    (k : IsKept key plan base s.committed s.live s.kept past) (may : MayBe key plan base.head.moment request) where
  abbrev Stays : Served → Type 0
  Stays it = IsKept key plan base it.next.committed it.next.live it.next.kept (with_commit request s it past)

  place : (session : SessionState) → IsNext s session request → request.session.0 ≡ key → IsPlaced plan base.head.moment s.committed.head.moment session.accepted request
  place session next own = placed key plan base.head.moment s session request next k.live_is may own

  finish : (session : SessionState) → IsNext s session request → asks_commit request.ask ≡ true
      → IsKept key plan base (closed s.committed session.accepted request now) None
      (Some (kept_of request (commit_reply request.ask (closed s.committed session.accepted request now).head))) (commit_by s session request now ∷ past)
  finish session next commits =
      let after = closed s.committed session.accepted request now in
      let up : s.committed.head.moment <ℤ after.head.moment = commits_are_later s.committed session.accepted request now in
      let made = λ (own : request.session.0 ≡ key).
      let p = place session next own in
      made_by key plan base past s session request now p (k.same p.moment_is) own (none_before key plan base past s.committed.head.moment p.moment_is k.once) in
      record {
        later = omega (arith, ints, up, k.later);
        same = λ is. absurd (omega (arith, ints, up, k.later, is));
        live_is = tt;
        kept_is = λ own.
            let p = place session next own in
            record {
              request = request;
              asked = p.asked;
              allowed = allowed_of plan base s session request p (k.same p.moment_is) next;
              plain = λ none. absurd (not_both commits none);
              made = λ _. (
                now,
                ap (λ (c : Collection). kept_of request (commit_reply request.ask (closed c session.accepted request now).head)) (k.same p.moment_is)
                    ∙ ap (λ (l : List Request). kept_of request (commit_reply request.ask (closed base l request now).head)) (sym p.before_is),
                made own,
              );
            };
        once = by_key (eqb_tells request.session.0 key) up made;
      }
    where
      by_key : ((request.session.0 == key) ≡ true) × (request.session.0 ≡ key) ⊎ ((request.session.0 == key) ≡ false) × (request.session.0 ≢ key)
          → s.committed.head.moment <ℤ (closed s.committed session.accepted request now).head.moment
          → ((own : request.session.0 ≡ key) → IsMadeBy key plan base (commit_by s session request now ∷ past) (closed s.committed session.accepted request now).head.moment (place session next own).asked.before request now)
          → (commits_of key (commit_by s session request now ∷ past) ≡ []) ⊎ IsMade key plan base (commit_by s session request now ∷ past) (closed s.committed session.accepted request now).head.moment
      by_key (inl own) up made =
          let p = place session next own.1 in
          inr (record { request = request; asked = p.asked; commits = commits; allowed = allowed_of plan base s session request p (k.same p.moment_is) next; now = now; is = made own.1 })
      by_key (inr other) up made =
          made_later key plan base past (commit_by s session request now) s.committed.head.moment (closed s.committed session.accepted request now).head.moment up other.1 k.once

  -- what is kept of a sync is kept by each request that may come
  pub kept_by_request : (setback : Setback) → Stays (served s request now setback)
  kept_by_request = by_cases s request now Stays (record {
    strikes = λ reply failed. record {
      later = k.later;
      same = k.same;
      live_is = tt;
      once = k.once;
      kept_is = kept_unless key plan base past s.committed.head.moment s.kept (is_meta request.ask) k.kept_is;
    };
    begins = λ _. record {
      later = k.later;
      same = k.same;
      kept_is = tt;
      once = k.once;
      live_is = λ _. record { after = plan; front = refl; same = inl refl };
    };
    repeats = λ kept is repeat later. k;
    refuses_it = λ why. k;
    goes_on = λ session next none goes. record {
      later = k.later;
      same = k.same;
      once = k.once;
      live_is = λ own. live_on plan base.head.moment s.committed.head.moment session.accepted request (place session next (sym next.key ∙ own));
      kept_is = λ own. let p = place session next own in kept_plain key plan base past s session request p (k.same p.moment_is) next none;
    };
    stops = λ session next none. record {
      later = k.later;
      same = k.same;
      once = k.once;
      live_is = tt;
      kept_is = λ own. let p = place session next own in kept_plain key plan base past s session request p (k.same p.moment_is) next none;
    };
    finishes = finish;
  })

-- ---- every event
kept_next : (key : ℕ) (plan : List Request) (base : Collection) (w : World) (event : Event)
    → IsKept key plan base w.state.committed w.state.live w.state.kept w.commits → IsOwnOrOther key plan base.head.moment event
    → let v = world_next w event in IsKept key plan base v.state.committed v.state.live v.state.kept v.commits
kept_next key plan base w (View host) k may = record { later = k.later; same = k.same; live_is = tt; kept_is = k.kept_is; once = k.once }
kept_next key plan base w (Asked request now setback) k may = kept_by_request key plan base w.state w.commits request now k may setback

pub kept_on : (key : ℕ) (plan : List Request) (base : Collection) (w : World) (events : List Event)
    → IsKept key plan base w.state.committed w.state.live w.state.kept w.commits → AllByRecursion (IsOwnOrOther key plan base.head.moment) events
    → let v = world_after w events in IsKept key plan base v.state.committed v.state.live v.state.kept v.commits
kept_on key plan base w [] k may = k
kept_on key plan base w (event ∷ events) k may = kept_on key plan base (world_next w event) events (kept_next key plan base w event k may.0) may.1

-- ---- the place of the meta
fresh_live : (key : ℕ) (plan : List Request) (moment : ℤ) (live : Option SessionState) → IfSome live (λ session. session.key ≡ key → session.accepted ≡ [])
    → LiveIs key plan moment moment live
fresh_live key plan moment None fresh = tt
fresh_live key plan moment (Some session) fresh = λ own. record {
  after = plan;
  front = ap (λ (l : List Request). l ++ plan) (fresh own);
  same = inl (fresh own);
}

fresh_kept : (key : ℕ) (plan : List Request) (base : Collection) (past : List Commit) (moment : ℤ) (kept : Option KeptReply) → IfSome kept (λ k. k.key ≢ key)
    → KeptIs key plan base past moment kept
fresh_kept key plan base past moment None fresh = tt
fresh_kept key plan base past moment (Some kept) fresh = λ own. absurd (fresh own)

-- where nothing came of a sync but metas, what is kept of it begins with the collection that is committed
pub kept_of_fresh : (key : ℕ) (plan : List Request) (w : World) → IsFresh key w
    → IsKept key plan w.state.committed w.state.committed w.state.live w.state.kept w.commits
kept_of_fresh key plan w fresh = record {
  later = omega (arith, ints);
  same = λ _. refl;
  live_is = fresh_live key plan w.state.committed.head.moment w.state.live fresh.live;
  kept_is = fresh_kept key plan w.state.committed w.commits w.state.committed.head.moment w.state.kept fresh.kept;
  once = inl fresh.commits;
}

pub nothing_asked : (before : List Request) (request : Request) (after : List Request) → before ++ request ∷ after ≡ [] → ⊥
nothing_asked [] request after is = grind (arith, is)
nothing_asked (r ∷ before) request after is = grind (arith, is)

never_asked : (base : ℤ) (request : Request) → IsAsked [] base request → ⊥
never_asked base request asked = nothing_asked asked.before request asked.after asked.place

empty_front : (accepted after : List Request) → accepted ++ after ≡ [] → accepted ≡ []
empty_front [] after is = refl
empty_front (r ∷ accepted) after is = absurd (grind (arith, is))

pub metas_alone : (key : ℕ) (plan : List Request) (base : ℤ) (event : Event) → IsMetaOrOther key event → IsOwnOrOther key plan base event
metas_alone key plan base (View host) may = tt
metas_alone key plan base (Asked request now setback) may = λ own. inl (may own)

pub all_weaker : (P Q : Event → Type 0) → ((event : Event) → P event → Q event) → (events : List Event) → AllByRecursion P events → AllByRecursion Q events
all_weaker P Q weaker [] all = tt
all_weaker P Q weaker (event ∷ events) all = (weaker event all.0, all_weaker P Q weaker events all.1)

live_of_none : (key : ℕ) (base moment : ℤ) (live : Option SessionState) → LiveIs key [] base moment live → IfSome live (λ session. session.key ≡ key → session.accepted ≡ [])
live_of_none key base moment None is = tt
live_of_none key base moment (Some session) is = λ own. let f = is own in empty_front session.accepted f.after f.front

kept_of_none : (key : ℕ) (base : Collection) (past : List Commit) (moment : ℤ) (kept : Option KeptReply) → KeptIs key [] base past moment kept → IfSome kept (λ k. k.key ≢ key)
kept_of_none key base past moment None is = tt
kept_of_none key base past moment (Some kept) is = λ own. let k = is own in never_asked base.head.moment k.request k.asked

once_of_none : (key : ℕ) (base : Collection) (past : List Commit) (moment : ℤ) → (commits_of key past ≡ []) ⊎ IsMade key [] base past moment → commits_of key past ≡ []
once_of_none key base past moment (inl none) = none
once_of_none key base past moment (inr made) = absurd (never_asked base.head.moment made.request made.asked)

-- metas alone leave a key as it was: its session has accepted nothing, nothing is kept and nothing was committed
pub fresh_on : (key : ℕ) (w : World) (events : List Event) → IsFresh key w → AllByRecursion (IsMetaOrOther key) events → IsFresh key (world_after w events)
fresh_on key w events fresh metas =
    let base = w.state.committed in
    let k = kept_on key [] base w events (kept_of_fresh key [] w fresh) (all_weaker (IsMetaOrOther key) (IsOwnOrOther key [] base.head.moment) (metas_alone key [] base.head.moment) events metas) in
    let v = world_after w events in
    record {
      live = live_of_none key base.head.moment v.state.committed.head.moment v.state.live k.live_is;
      kept = kept_of_none key base v.commits v.state.committed.head.moment v.state.kept k.kept_is;
      commits = once_of_none key base v.commits v.state.committed.head.moment k.once;
    }

-- ---- the law
same_base : (base committed : Collection) (accepted : List Request) → (committed.head.moment ≡ base.head.moment → committed ≡ base)
    → (accepted ≡ []) ⊎ (committed.head.moment ≡ base.head.moment) → (accepted ≡ []) ⊎ (committed ≡ base)
same_base base committed accepted same (inl none) = inl none
same_base base committed accepted same (inr is) = inr (same is)

live_front : (key : ℕ) (plan : List Request) (base committed : Collection) (live : Option SessionState) → (committed.head.moment ≡ base.head.moment → committed ≡ base)
    → LiveIs key plan base.head.moment committed.head.moment live → IfSome live (λ session. session.key ≡ key → IsFront plan base committed session)
live_front key plan base committed None same is = tt
live_front key plan base committed (Some session) same is = λ own.
    let f = is own in record { after = f.after; front = f.front; same = same_base base committed session.accepted same f.same }

only_commit : (key : ℕ) (plan : List Request) (base : Collection) (past : List Commit) (moment : ℤ) → (commits_of key past ≡ []) ⊎ IsMade key plan base past moment
    → (commits_of key past ≡ []) ⊎ IsOnlyCommit key plan base past
only_commit key plan base past moment (inl none) = inl none
only_commit key plan base past moment (inr made) = inr (record { request = made.request; asked = made.asked; commits = made.commits; allowed = made.allowed; now = made.now; only = made.is.only })

pub revived : (key : ℕ) (plan : List Request) (base : Collection) (w : World)
    → IsKept key plan base w.state.committed w.state.live w.state.kept w.commits → HoldsSync key plan base w
revived key plan base w k = record {
  live = live_front key plan base w.state.committed w.state.live k.same k.live_is;
  once = only_commit key plan base w.commits w.state.committed.head.moment k.once;
}

-- whatever else comes before and after the place at which a sync's meta is answered, its session holds a front of what it asked, over
-- what was committed there, and at most one commit is its own
pub sessions_hold_fronts : (key : ℕ) (plan : List Request) (w : World) (first later : List Event) → SyncComes key plan w first later
    → let met = world_after w first in HoldsSync key plan met.state.committed (world_after met later)
sessions_hold_fronts key plan w first later sync =
    let met = world_after w first in
    revived key plan met.state.committed (world_after met later)
    (kept_on key plan met.state.committed met later (kept_of_fresh key plan met (fresh_on key w first sync.fresh sync.metas)) sync.own)
