-- What an account holds, whatever comes: what its commits are, that it stays lawful, and that devices stay linked with it.
use Rattle.std.specs.List.{AllByRecursion}
use Rattle.std.specs.Option.{option_map}
use Rattle.std.specs.Prelude.{◌≡◌, ◌≢◌, ◌≤ℤ◌, ◌<ℤ◌, ℕ, ℤ, if◌then◌else◌, true, false, List, [], ◌∷◌, ◌++◌, Option, Some, None, IfSome, ◌⊎◌}
use Rattle.std.proofs.Common.{refl, sym, ap, subst, ◌∙◌, inl, inr, arith, append_assoc}
use Rattle.std.proofs.lemmas.Int.{ints}
use Rattle.std.proofs.lemmas.List.{append_cancel_right}
use Rattle.ak_base.specs.Heads.{IsMoment}
use Rattle.ak_io.specs.Arrivals.{IsClockMoment}
use Rattle.ak_keep.specs.Collections.{Collection}
use Rattle.ak_merge.specs.Commits as commits
use Rattle.ak_merge.specs.Commits.{Received, IsCommitOf, IsUploadOf, IsCommitted}
use Rattle.ak_merge.specs.Edits.{Reversal}
use Rattle.ak_merge.specs.Links.{AreLinked}
use Rattle.ak_merge.specs.Undoing.{StepFits}
use Rattle.ak_merge.proofs.CommitLaws.{commits_stay_lawful, commits_keep_links, commits_keep_fits}
use Rattle.ak_merge.proofs.Transfers.{uploads_are_lawful}
use Rattle.ak_messages.specs.declared.replies.Reply.{Reply}
use Rattle.ak_messages.specs.declared.requests.Ask.{Ask}
use Rattle.ak_messages.specs.declared.requests.Ask.TheVariants as asks
use Rattle.ak_messages.specs.declared.requests.Request.{Request}
use Rattle.ak_messages.specs.declared.requests.Whole.{Whole}
use Rattle.ak_session.specs.Asks.{asks_of, all_brought}
use Rattle.ak_session.specs.Closings.{whole_brought}
use Rattle.ak_session.specs.Contents.{closed}
use Rattle.ak_session.specs.Requests.{asks_commit}
use Rattle.ak_session.specs.Sessions.{AreAllowed}
use Rattle.ak_session.proofs.CheckLaws.{finishes_are_sound}
use Rattle.ak_session.proofs.CommitLaws.{finishes_commit, finishes_in_range, uploads_replace, uploads_in_range}
use Rattle.ak_protocol.specs.Accounts.{SessionState, AccountState}
use Rattle.ak_protocol.specs.Commits.{EachNewer, IsMade, IsFinishOf, IsReplacedBy, CommitsWhatCame, HasFreshSchema}
use Rattle.ak_protocol.specs.Growths.{CallGrowth, ComesFirst, GrowsFresh, world_amid, world_before}
use Rattle.ak_protocol.specs.Lawful.{IsNext, AreAccepted, HasLawfulSession}
use Rattle.ak_protocol.specs.LawfulServers.{IsLawfulAccount, HasOwnRequests, IsLawfulUnder, IsLawful}
use Rattle.ak_protocol.specs.Logs.{Event, View, Asked, Commit, World, Log, IsTimely, MayCome, IsGrowth, IsReplyIn, with_growth, opened, commit_by, world_served, world_next, world_after, server_after, host_of, events_of}
use Rattle.ak_protocol.specs.Servers.{ServerState, same_host}
use Rattle.ak_protocol.specs.Serving.{Setback, served}
use Rattle.ak_protocol.specs.Syncs.{world_of}
use Rattle.ak_protocol.proofs.Cases.{by_cases}
use Rattle.ak_protocol.proofs.Commits.{not_both, commits_lead_on}
use Rattle.ak_protocol.proofs.Isolation.{host_is, logs_part}
use Rattle.ak_protocol.proofs.Kept.{lawful_next}
use Rattle.ak_protocol.proofs.Lawful.{lawful_by_request}
use Rattle.ak_protocol.proofs.PastReplies.{replies_are_past}
use Rattle.ak_protocol.proofs.Syncs.{all_append, all_front, all_back, own_append, world_append}

-- ---- what a commit is
-- a request that commits is a finish or an upload
commits_ask : (ask : Ask) → asks_commit ask ≡ true → (ask ≡ asks.Finish) ⊎ ((whole : Whole) × (ask ≡ asks.Upload whole))
commits_ask asks.Meta is = absurd (not_both is refl)
commits_ask (asks.Start min_usn lmod) is = absurd (not_both is refl)
commits_ask (asks.ApplyGraves ids) is = absurd (not_both is refl)
commits_ask (asks.ApplyChanges changes) is = absurd (not_both is refl)
commits_ask asks.Chunk is = absurd (not_both is refl)
commits_ask (asks.ApplyChunk chunk) is = absurd (not_both is refl)
commits_ask (asks.SanityCheck2 counts) is = absurd (not_both is refl)
commits_ask asks.Finish is = inl refl
commits_ask (asks.Upload whole) is = inr (whole, refl)
commits_ask asks.Download is = absurd (not_both is refl)

-- the commit of a request that its session closes
abbrev commit_of : AccountState → SessionState → Request → ℤ → Commit
commit_of s session request now = record { key = request.session.0; before = s.committed; after = closed s.committed session.accepted request now }

-- a commit took what came, or what came took its place: what it does to links and schema moments
abbrev IsTakenOrReplaced : Commit → Type 0
IsTakenOrReplaced commit =
    ((came : Received) × IsCommitOf came commit.before commit.after) ⊎ ((came : commits.Whole) × IsUploadOf came commit.before commit.after)

module _ (s : AccountState) (session : SessionState) (request : Request) (now : ℤ) where
  takes_or_replaces : asks_commit request.ask ≡ true → IsTakenOrReplaced (commit_of s session request now)
  takes_or_replaces is_commit = by_ask (commits_ask request.ask is_commit)
    where
      by_ask : (request.ask ≡ asks.Finish) ⊎ ((whole : Whole) × (request.ask ≡ asks.Upload whole)) → IsTakenOrReplaced (commit_of s session request now)
      by_ask (inl is) = inl (all_brought (asks_of session.accepted), finishes_commit s.committed session.accepted request now is)
      by_ask (inr upload) = inr (whole_brought upload.0, uploads_replace s.committed session.accepted request upload.0 now upload.1)

-- ---- the commits of a log
abbrev MakesMore : (Commit → Type 0) → World → World → Type 0
MakesMore P old new = (newer : List Commit) × (new.commits ≡ newer ++ old.commits) × AllByRecursion P newer

module _ (P : Commit → Type 0) where
  more_asked : (w : World) (request : Request) (now : ℤ)
      → ((session : SessionState) → IsNext w.state session request → asks_commit request.ask ≡ true → P (commit_of w.state session request now))
      → (setback : Setback) → MakesMore P w (world_next w (Asked request now setback))
  more_asked w request now one = by_cases w.state request now (λ it. MakesMore P w (world_served w request it)) (record {
    strikes = λ reply failed. ([], refl, tt);
    begins = λ _. ([], refl, tt);
    repeats = λ kept is repeat later. ([], refl, tt);
    refuses_it = λ why. ([], refl, tt);
    goes_on = λ session next none goes. ([], refl, tt);
    stops = λ session next none. ([], refl, tt);
    finishes = λ session next is_commit. (commit_of w.state session request now ∷ [], refl, (one session next is_commit, tt));
  })

  more_later : (old middle new : World) → MakesMore P old middle → MakesMore P middle new → MakesMore P old new
  more_later old middle new first more = (
    more.0 ++ first.0,
    more.1 ∙ ap (λ (l : List Commit). more.0 ++ l) first.1 ∙ sym (append_assoc more.0 first.0 old.commits),
    all_append P more.0 first.0 more.2 first.2,
  )

  each_newer : (old new : World) → MakesMore P old new → EachNewer P old new
  each_newer old new more newer is = subst (AllByRecursion P) (append_cancel_right more.0 newer old.commits (sym more.1 ∙ is)) more.2

-- what holds of each newer commit of a log holds of those of its first event, and of those after it
first_newer : (P : Commit → Type 0) (w middle : World) (events : List Event) → EachNewer P w (world_after middle events) → EachNewer P w middle
first_newer P w middle events all newer is =
    let more = commits_lead_on middle events in
    all_back P more.newer newer
    (all (more.newer ++ newer) (more.grown ∙ ap (λ (l : List Commit). more.newer ++ l) is ∙ sym (append_assoc more.newer newer w.commits)))

rest_newer : (P : Commit → Type 0) (w : World) (event : Event) (events : List Event) → EachNewer P w (world_after w (event ∷ events))
    → EachNewer P (world_next w event) (world_after (world_next w event) events)
rest_newer P w event events all newer is =
    let one = commits_lead_on w (event ∷ []) in
    all_front P newer one.newer
    (all (newer ++ one.newer) (is ∙ ap (λ (l : List Commit). newer ++ l) one.grown ∙ sym (append_assoc newer one.newer w.commits)))

-- ---- an account stays lawful
timely_moment : (now : ℤ) → IsClockMoment now → IsMoment now
timely_moment now timely =
    let high = timely.high in
    record { low = timely.low; high = grind (arith, ints, high) }

allowed_of : (key : ℕ) (committed : Collection) (accepted : List Request) → AreAccepted key committed accepted → AreAllowed committed accepted
allowed_of key committed accepted all before request after is =
    let one = all before request after is in
    record { allowed = one.allowed; stays = one.stays; goes_on = one.goes_on }

session_allowed : (s : AccountState) (session : SessionState) → s.live ≡ Some session → HasLawfulSession s → AreAllowed s.committed session.accepted
session_allowed s session live lawful =
    allowed_of session.key s.committed session.accepted (subst (λ (o : Option SessionState). IfSome o (λ l. AreAccepted l.key s.committed l.accepted)) live lawful)

module _ (s : AccountState) (request : Request) (now : ℤ) (timely : IsClockMoment now) (lawful : IsLawfulAccount s) where
  finish_of : (session : SessionState) → IsNext s session request → request.ask ≡ asks.Finish
      → IsFinishOf (all_brought (asks_of session.accepted)) s.committed (closed s.committed session.accepted request now)
  finish_of session next is =
      let all = session_allowed s session next.live lawful.session in
      record {
        commits = finishes_commit s.committed session.accepted request now is;
        in_range = finishes_in_range s.committed session.accepted request now is all next.allowed lawful.committed.head (timely_moment now timely);
        sound = finishes_are_sound s.committed session.accepted request now lawful.committed all is next.allowed;
      }

  replaced_by : (session : SessionState) → IsNext s session request → (whole : Whole) → request.ask ≡ asks.Upload whole
      → IsReplacedBy (whole_brought whole) s.committed (closed s.committed session.accepted request now)
  replaced_by session next whole is = record {
    uploads = uploads_replace s.committed session.accepted request whole now is;
    in_range = uploads_in_range s.committed session.accepted request whole now is next.allowed lawful.committed.head (timely_moment now timely);
  }

  closed_is_committed : (session : SessionState) → IsNext s session request → asks_commit request.ask ≡ true → IsCommitted (closed s.committed session.accepted request now)
  closed_is_committed session next is_commit = by_ask (commits_ask request.ask is_commit)
    where
      by_ask : (request.ask ≡ asks.Finish) ⊎ ((whole : Whole) × (request.ask ≡ asks.Upload whole)) → IsCommitted (closed s.committed session.accepted request now)
      by_ask (inl is) =
          let finish = finish_of session next is in
          commits_stay_lawful (all_brought (asks_of session.accepted)) s.committed (closed s.committed session.accepted request now) finish.commits finish.in_range lawful.committed
      by_ask (inr upload) =
          let replaced = replaced_by session next upload.0 upload.1 in
          uploads_are_lawful (whole_brought upload.0) s.committed (closed s.committed session.accepted request now) replaced.uploads replaced.in_range lawful.committed

  stays_committed : (setback : Setback) → IsCommitted (served s request now setback).next.committed
  stays_committed = by_cases s request now (λ it. IsCommitted it.next.committed) (record {
    strikes = λ reply failed. lawful.committed;
    begins = λ _. lawful.committed;
    repeats = λ kept is repeat later. lawful.committed;
    refuses_it = λ why. lawful.committed;
    goes_on = λ session next none goes. lawful.committed;
    stops = λ session next none. lawful.committed;
    finishes = λ session next is_commit. closed_is_committed session next is_commit;
  })

  pub lawful_served : (setback : Setback) → IsLawfulAccount (served s request now setback).next
  lawful_served setback = record {
    committed = stays_committed setback;
    session = lawful_by_request s request now lawful.session setback;
    reply = lawful_next s request now lawful.reply setback;
  }

  -- what a serving commits is what its session brought
  pub what_came : (setback : Setback) → let it = served s request now setback in it.is_commit ≡ true → CommitsWhatCame s request it
  what_came = by_cases s request now (λ it. it.is_commit ≡ true → CommitsWhatCame s request it) (record {
    strikes = λ reply failed so. absurd (not_both so refl);
    begins = λ _ so. absurd (not_both so refl);
    repeats = λ kept is repeat later so. absurd (not_both so refl);
    refuses_it = λ why so. absurd (not_both so refl);
    goes_on = λ session next none goes so. absurd (not_both so refl);
    stops = λ session next none so. absurd (not_both so refl);
    finishes = λ session next is_commit _. record {
      session = session;
      next = next;
      finish = finish_of session next;
      upload = replaced_by session next;
    };
  })

pub lawful_stays_lawful : (w : World) (events : List Event) → AllByRecursion IsTimely events → IsLawfulAccount w.state → IsLawfulAccount (world_after w events).state
lawful_stays_lawful w [] timely lawful = lawful
lawful_stays_lawful w (View host ∷ events) timely lawful =
    lawful_stays_lawful (world_next w (View host)) events timely.1 (record { committed = lawful.committed; session = tt; reply = lawful.reply })
lawful_stays_lawful w (Asked request now setback ∷ events) timely lawful =
    lawful_stays_lawful (world_next w (Asked request now setback)) events timely.1 (lawful_served w.state request now timely.0 lawful setback)

-- what commits in a lawful account is a finish of what came, or an upload
made_of : (s : AccountState) (request : Request) (now : ℤ) → IsClockMoment now → IsLawfulAccount s
    → (session : SessionState) → IsNext s session request → asks_commit request.ask ≡ true → IsMade (commit_of s session request now)
made_of s request now timely lawful session next is_commit = by_ask (commits_ask request.ask is_commit)
  where
    by_ask : (request.ask ≡ asks.Finish) ⊎ ((whole : Whole) × (request.ask ≡ asks.Upload whole)) → IsMade (commit_of s session request now)
    by_ask (inl is) = inl (all_brought (asks_of session.accepted), finish_of s request now timely lawful session next is)
    by_ask (inr upload) = inr (whole_brought upload.0, replaced_by s request now timely lawful session next upload.0 upload.1)

made_after : (w : World) (events : List Event) → AllByRecursion IsTimely events → IsLawfulAccount w.state → MakesMore IsMade w (world_after w events)
made_after w [] timely lawful = ([], refl, tt)
made_after w (View host ∷ events) timely lawful =
    let more = made_after (world_next w (View host)) events timely.1 (record { committed = lawful.committed; session = tt; reply = lawful.reply }) in
    (more.0, more.1, more.2)
made_after w (Asked request now setback ∷ events) timely lawful =
    let next = world_next w (Asked request now setback) in
    more_later IsMade w next (world_after next events) (more_asked IsMade w request now (made_of w.state request now timely.0 lawful) setback)
    (made_after next events timely.1 (lawful_served w.state request now timely.0 lawful setback))

pub commits_are_made : (w : World) (events : List Event) → AllByRecursion IsTimely events → IsLawfulAccount w.state → EachNewer IsMade w (world_after w events)
commits_are_made w events timely lawful = each_newer IsMade w (world_after w events) (made_after w events timely lawful)

-- an account without a session is lawful
pub opened_lawful : (host : List ℕ) (c : Collection) → IsCommitted c → IsLawfulUnder host (record { committed = c; live = None; kept = None })
opened_lawful host c own = record { account = record { committed = own; session = tt; reply = tt }; own = tt; past = tt }

-- ---- so does a server
own_served : (host : List ℕ) (s : AccountState) (request : Request) (now : ℤ) → request.host.digits ≡ host → HasOwnRequests host s
    → (setback : Setback) → HasOwnRequests host (served s request now setback).next
own_served host s request now is own = by_cases s request now (λ it. HasOwnRequests host it.next) (record {
  strikes = λ reply failed. tt;
  begins = λ _. tt;
  repeats = λ kept is repeat later. own;
  refuses_it = λ why. own;
  goes_on = λ session next none goes. all_append (λ (r : Request). r.host.digits ≡ host) session.accepted (request ∷ [])
      (subst (λ (o : Option SessionState). IfSome o (λ l. AllByRecursion (λ (r : Request). r.host.digits ≡ host) l.accepted)) next.live own) (is, tt);
  stops = λ session next none. tt;
  finishes = λ session next is_commit. tt;
})

own_after : (host : List ℕ) (w : World) (events : List Event) → AllByRecursion (λ event. host_of event ≡ host) events → HasOwnRequests host w.state
    → HasOwnRequests host (world_after w events).state
own_after host w [] here own = own
own_after host w (View h ∷ events) here own = own_after host (world_next w (View h)) events here.1 tt
own_after host w (Asked request now setback ∷ events) here own =
    own_after host (world_next w (Asked request now setback)) events here.1 (own_served host w.state request now here.0 own setback)

events_are_here : (host : List ℕ) (events : List Event) → AllByRecursion (λ event. host_of event ≡ host) (events_of host events)
events_are_here host [] = tt
events_are_here host (event ∷ events) =
    elim (same_host host (host_of event)) as (λ b. same_host host (host_of event) ≡ b
    → AllByRecursion (λ e. host_of e ≡ host) (if b then event ∷ events_of host events else events_of host events)) [
      | true ↦ λ own. (sym (host_is host (host_of event) own), events_are_here host events)
      | false ↦ λ differs. events_are_here host events
    ] refl

pub some_of_all : (P : Event → Type 0) (host : List ℕ) (events : List Event) → AllByRecursion P events → AllByRecursion P (events_of host events)
some_of_all P host [] all = tt
some_of_all P host (event ∷ events) all =
    elim (same_host host (host_of event)) as (λ b. AllByRecursion P (if b then event ∷ events_of host events else events_of host events)) [
      | true ↦ (all.0, some_of_all P host events all.1)
      | false ↦ some_of_all P host events all.1
    ]

pub servers_stay_lawful : (server : ServerState) (events : List Event) → AllByRecursion IsTimely events → IsLawful server → IsLawful (server_after server events)
servers_stay_lawful server events timely lawful host =
    subst (λ (o : Option AccountState). IfSome o (IsLawfulUnder host)) (sym (logs_part server events host)) (by_account (server host) (lawful host))
  where
    by_account : (o : Option AccountState) → IfSome o (IsLawfulUnder host)
        → IfSome (option_map (λ s. (world_after (opened s) (events_of host events)).state) o) (IsLawfulUnder host)
    by_account None own = tt
    by_account (Some s) own = record {
      account = lawful_stays_lawful (opened s) (events_of host events) (some_of_all IsTimely host events timely) own.account;
      own = own_after host (opened s) (events_of host events) (events_are_here host events) own.own;
      past = replies_are_past (opened s) (events_of host events) own.past;
    }

-- ---- schema moments
below_is_other : (a b : ℤ) → a <ℤ b → a ≢ b
below_is_other a b below is = grind (arith, ints, below, is)

pub finishes_leave_schemas : (came : Received) (c : Collection) (commit : Commit) → IsCommitOf came commit.before commit.after → HasFreshSchema c commit
finishes_leave_schemas came c commit is = inl is.schema

pub uploads_give_fresh_schemas : (came : commits.Whole) (c : Collection) (commit : Commit) → IsUploadOf came commit.before commit.after
    → (c.head.schema ≤ℤ commit.before.head.schema) ⊎ (c.head.schema ≤ℤ came.schema) → HasFreshSchema c commit
uploads_give_fresh_schemas came c commit is (inl low) =
    let up = is.schema in
    inr (below_is_other c.head.schema commit.after.head.schema (omega (arith, ints, low, up)))
uploads_give_fresh_schemas came c commit is (inr low) =
    let up = is.their_schema in
    inr (below_is_other c.head.schema commit.after.head.schema (omega (arith, ints, low, up)))

-- a commit raises the schema moment or leaves it
schema_rises : (commit : Commit) → IsTakenOrReplaced commit → commit.before.head.schema ≤ℤ commit.after.head.schema
schema_rises commit (inl finish) = let same = finish.1.schema in omega (arith, ints, same)
schema_rises commit (inr upload) = let up = upload.1.schema in omega (arith, ints, up)

fresh_of_old : (c : Collection) (commit : Commit) → IsTakenOrReplaced commit → c.head.schema ≤ℤ commit.before.head.schema → HasFreshSchema c commit
fresh_of_old c commit (inl finish) low = finishes_leave_schemas finish.0 c commit finish.1
fresh_of_old c commit (inr upload) low = uploads_give_fresh_schemas upload.0 c commit upload.1 (inl low)

-- of a device whose schema moment is at most the server's, each newer commit is fresh
abbrev IsOld : Collection → World → Type 0
IsOld c w = c.head.schema ≤ℤ w.state.committed.head.schema

old_asked : (c : Collection) (w : World) (request : Request) (now : ℤ) → IsOld c w
    → (setback : Setback) → let next = world_next w (Asked request now setback) in MakesMore (HasFreshSchema c) w next × IsOld c next
old_asked c w request now old = by_cases w.state request now (λ it. MakesMore (HasFreshSchema c) w (world_served w request it) × IsOld c (world_served w request it)) (record {
  strikes = λ reply failed. (([], refl, tt), old);
  begins = λ _. (([], refl, tt), old);
  repeats = λ kept is repeat later. (([], refl, tt), old);
  refuses_it = λ why. (([], refl, tt), old);
  goes_on = λ session next none goes. (([], refl, tt), old);
  stops = λ session next none. (([], refl, tt), old);
  finishes = λ session next is_commit.
      let commit = commit_of w.state session request now in
      let made = takes_or_replaces w.state session request now is_commit in
      ((commit ∷ [], refl, (fresh_of_old c commit made old, tt)), over old (schema_rises commit made));
})
  where
    over : {a b d : ℤ} → a ≤ℤ b → b ≤ℤ d → a ≤ℤ d
    over low high = omega (arith, ints, low, high)

old_after : (c : Collection) (w : World) (events : List Event) → IsOld c w → MakesMore (HasFreshSchema c) w (world_after w events)
old_after c w [] old = ([], refl, tt)
old_after c w (View host ∷ events) old = let more = old_after c (world_next w (View host)) events old in (more.0, more.1, more.2)
old_after c w (Asked request now setback ∷ events) old =
    let first = old_asked c w request now old setback in
    let more = old_after c (world_next w (Asked request now setback)) events first.1 in (
      more.0 ++ first.0.0,
      more.1 ∙ ap (λ (l : List Commit). more.0 ++ l) first.0.1 ∙ sym (append_assoc more.0 first.0.0 w.commits),
      all_append (HasFreshSchema c) more.0 first.0.0 more.2 first.0.2,
    )

pub old_schemas_stay_old : (w : World) (events : List Event) (c : Collection) → c.head.schema ≤ℤ w.state.committed.head.schema → EachNewer (HasFreshSchema c) w (world_after w events)
old_schemas_stay_old w events c old newer is =
    let more = old_after c w events old in
    subst (AllByRecursion (HasFreshSchema c)) (append_cancel_right more.0 newer w.commits (sym more.1 ∙ is)) more.2

-- ---- links and steps over one commit
linked_by : (c : Collection) (commit : Commit) → IsCommitted commit.before → IsTakenOrReplaced commit → HasFreshSchema c commit → AreLinked c commit.before → AreLinked c commit.after
linked_by c commit own (inl finish) fresh linked =
    commits_keep_links finish.0 c commit.before commit.after finish.1 own.named own.head.usn.low linked
linked_by c commit own (inr upload) (inl same) linked =
    absurd (below_is_other commit.before.head.schema commit.after.head.schema upload.1.schema (sym same))
linked_by c commit own (inr upload) (inr differ) linked = inl differ

fits_by : (c : Collection) (step : Reversal) (commit : Commit) → IsTakenOrReplaced commit → HasFreshSchema c commit → StepFits c step commit.before → StepFits c step commit.after
fits_by c step commit (inl finish) fresh fits = commits_keep_fits finish.0 c commit.before commit.after step finish.1 fits
fits_by c step commit (inr upload) (inl same) fits =
    absurd (below_is_other commit.before.head.schema commit.after.head.schema upload.1.schema (sym same))
fits_by c step commit (inr upload) (inr differ) fits = inl differ

-- ---- whatever a commit keeps stays
-- a property of committed collections that a commit keeps where it is fresh
module _ (P : Collection → Type 0) (c : Collection) where
  abbrev Keeps : AccountState → Type 0
  Keeps s = (commit : Commit) → commit.before ≡ s.committed → IsTakenOrReplaced commit → HasFreshSchema c commit → P commit.before → P commit.after

  pub kept_served : (s : AccountState) (request : Request) (now : ℤ) → Keeps s → P s.committed
      → (setback : Setback) → let it = served s request now setback in (it.is_commit ≡ true → HasFreshSchema c (commit_by request s it)) → P it.next.committed
  kept_served s request now keeps held =
      by_cases s request now (λ it. (it.is_commit ≡ true → HasFreshSchema c (commit_by request s it)) → P it.next.committed) (record {
        strikes = λ reply failed _. held;
        begins = λ _ _. held;
        repeats = λ kept is repeat later _. held;
        refuses_it = λ why _. held;
        goes_on = λ session next none goes _. held;
        stops = λ session next none _. held;
        finishes = λ session next is_commit fresh.
            keeps (commit_of s session request now) refl (takes_or_replaces s session request now is_commit) (fresh refl) held;
      })

  pub kept_next : (w : World) (request : Request) (now : ℤ) → Keeps w.state → P w.state.committed
      → (setback : Setback) → let next = world_next w (Asked request now setback) in EachNewer (HasFreshSchema c) w next → P next.state.committed
  kept_next w request now keeps held = by_cases w.state request now (λ it. EachNewer (HasFreshSchema c) w (world_served w request it) → P it.next.committed) (record {
    strikes = λ reply failed _. held;
    begins = λ _ _. held;
    repeats = λ kept is repeat later _. held;
    refuses_it = λ why _. held;
    goes_on = λ session next none goes _. held;
    stops = λ session next none _. held;
    finishes = λ session next is_commit fresh.
        let commit = commit_of w.state session request now in
        keeps commit refl (takes_or_replaces w.state session request now is_commit) (fresh (commit ∷ []) refl).0 held;
  })

-- ---- links stay
keeps_links : (c : Collection) (s : AccountState) → IsCommitted s.committed → Keeps (AreLinked c) c s
keeps_links c s own commit is made fresh linked = linked_by c commit (subst IsCommitted (sym is) own) made fresh linked

pub links_stay_served : (s : AccountState) (request : Request) (now : ℤ) (setback : Setback) (c : Collection)
    → let it = served s request now setback in IsCommitted s.committed → (it.is_commit ≡ true → HasFreshSchema c (commit_by request s it))
    → AreLinked c s.committed → AreLinked c it.next.committed
links_stay_served s request now setback c own fresh linked = kept_served (AreLinked c) c s request now (keeps_links c s own) linked setback fresh

pub links_stay : (w : World) (events : List Event) (c : Collection) → AllByRecursion IsTimely events → IsLawfulAccount w.state
    → EachNewer (HasFreshSchema c) w (world_after w events) → AreLinked c w.state.committed → AreLinked c (world_after w events).state.committed
links_stay w [] c timely lawful fresh linked = linked
links_stay w (View host ∷ events) c timely lawful fresh linked =
    links_stay (world_next w (View host)) events c timely.1 (record { committed = lawful.committed; session = tt; reply = lawful.reply }) fresh linked
links_stay w (Asked request now setback ∷ events) c timely lawful fresh linked =
    let next = world_next w (Asked request now setback) in
    links_stay next events c timely.1 (lawful_served w.state request now timely.0 lawful setback)
    (rest_newer (HasFreshSchema c) w (Asked request now setback) events fresh)
    (kept_next (AreLinked c) c w request now (keeps_links c w.state lawful.committed) linked setback (first_newer (HasFreshSchema c) w next events fresh))

-- ---- steps that fit stay so
keeps_fits : (c : Collection) (step : Reversal) (s : AccountState) → Keeps (StepFits c step) c s
keeps_fits c step s commit is made fresh fits = fits_by c step commit made fresh fits

pub fits_stay_served : (s : AccountState) (request : Request) (now : ℤ) (setback : Setback) (c : Collection) (step : Reversal)
    → let it = served s request now setback in (it.is_commit ≡ true → HasFreshSchema c (commit_by request s it))
    → StepFits c step s.committed → StepFits c step it.next.committed
fits_stay_served s request now setback c step fresh fits = kept_served (StepFits c step) c s request now (keeps_fits c step s) fits setback fresh

pub fits_stay : (w : World) (events : List Event) (c : Collection) (step : Reversal) → EachNewer (HasFreshSchema c) w (world_after w events)
    → StepFits c step w.state.committed → StepFits c step (world_after w events).state.committed
fits_stay w [] c step fresh fits = fits
fits_stay w (View host ∷ events) c step fresh fits = fits_stay (world_next w (View host)) events c step fresh fits
fits_stay w (Asked request now setback ∷ events) c step fresh fits =
    let next = world_next w (Asked request now setback) in
    fits_stay next events c step (rest_newer (HasFreshSchema c) w (Asked request now setback) events fresh)
    (kept_next (StepFits c step) c w request now (keeps_fits c step w.state) fits setback (first_newer (HasFreshSchema c) w next events fresh))

-- ---- over the growth of a call
timely_growth : (past : List Event) (request : Request) (events : List Event) → AllByRecursion (MayCome past request) events → AllByRecursion IsTimely events
timely_growth past request [] all = tt
timely_growth past request (View host ∷ events) all = (tt, timely_growth past request events all.1)
timely_growth past request (Asked other now setback ∷ events) all = (all.0.0, timely_growth past request events all.1)

grown_world : (host : List ℕ) (s : AccountState) (old : Log) (front : List Event)
    → world_of host s (with_growth old front) ≡ world_after (world_of host s old) (events_of host front)
grown_world host s old front =
    ap (world_after (opened s)) (own_append host old.events front) ∙ world_append (opened s) (events_of host old.events) (events_of host front)

module _ (call : CallGrowth) (front : List Event) (first : ComesFirst front call) where
  timely_front : AllByRecursion IsTimely (events_of call.host front)
  timely_front =
      some_of_all IsTimely call.host front
      (timely_growth call.old.events call.request front
      (all_front (MayCome call.old.events call.request) front first.0 (subst (IsGrowth call.old call.request) (sym first.1) call.may)))

  pub growths_stay_lawful : IsLawfulAccount (world_amid call front).state
  growths_stay_lawful =
      subst (λ (w : World). IsLawfulAccount w.state) (sym (grown_world call.host call.account call.old front))
      (lawful_stays_lawful (world_before call) (events_of call.host front) timely_front call.lawful)

  -- the commits of the front of a growth are fresh if all are
  fresh_front : (c : Collection) → let w = world_before call in GrowsFresh c call → EachNewer (HasFreshSchema c) w (world_after w (events_of call.host front))
  fresh_front c fresh =
      let w = world_before call in
      let rest : List Event = first.0 in
      let all : world_amid call call.growth ≡ world_after (world_after w (events_of call.host front)) (events_of call.host rest) =
      ap (λ (g : List Event). world_amid call g) (sym first.1) ∙ grown_world call.host call.account call.old (front ++ rest)
      ∙ ap (world_after w) (own_append call.host front rest) ∙ world_append w (events_of call.host front) (events_of call.host rest) in
      first_newer (HasFreshSchema c) w (world_after w (events_of call.host front)) (events_of call.host rest) (subst (EachNewer (HasFreshSchema c) w) all fresh)

  pub growths_keep_links : (c : Collection) → GrowsFresh c call → AreLinked c (world_before call).state.committed → AreLinked c (world_amid call front).state.committed
  growths_keep_links c fresh linked =
      subst (λ (v : World). AreLinked c v.state.committed) (sym (grown_world call.host call.account call.old front))
      (links_stay (world_before call) (events_of call.host front) c timely_front call.lawful (fresh_front c fresh) linked)

  pub growths_keep_fits : (c : Collection) (step : Reversal) → GrowsFresh c call → StepFits c step (world_before call).state.committed
      → StepFits c step (world_amid call front).state.committed
  growths_keep_fits c step fresh fits =
      subst (λ (v : World). StepFits c step v.state.committed) (sym (grown_world call.host call.account call.old front))
      (fits_stay (world_before call) (events_of call.host front) c step (fresh_front c fresh) fits)

-- so it is at the place of a reply
pub places_are_linked : (call : CallGrowth) (reply : Reply) (c : Collection) → GrowsFresh c call → AreLinked c (world_before call).state.committed
    → (place : IsReplyIn call.old call.growth call.request reply) → AreLinked c (world_amid call place.before).state.committed
places_are_linked call reply c fresh linked place =
    growths_keep_links call place.before (Asked call.request place.now place.setback ∷ place.after, place.place) c fresh linked
