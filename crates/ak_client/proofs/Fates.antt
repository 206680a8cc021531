-- What becomes of a sync on the server, whatever comes later.
use Rattle.std.specs.List.{AllByRecursion}
use Rattle.std.specs.Prelude.{◌≡◌, ℕ, ◌+◌, ℤ, true, false, ◌⊎◌, List, [], ◌∷◌, ◌++◌, length}
use Rattle.std.proofs.Common.{sym, ap, subst, ◌∙◌, inl, inr, append_assoc, arith}
use Rattle.ak_client.specs.Syncs.{ArePlain, CommitsAtMostOnce, StaysOnce, world_at}
use Rattle.ak_exchange.proofs.Tried.{requests_append}
use Rattle.ak_keep.specs.Collections.{Collection}
use Rattle.ak_merge.proofs.ExchangeLaws.{server_half_joins}
use Rattle.ak_merge.specs.Exchanges.{HoldsJoin}
use Rattle.ak_messages.specs.declared.requests.Ask.{Ask}
use Rattle.ak_messages.specs.declared.requests.Request.{Request}
use Rattle.ak_protocol.proofs.Commits.{not_both}
use Rattle.ak_protocol.proofs.Syncs.{events_keep_syncs, events_leave_unused, syncs_are_held, unused_keys_commit_nothing}
use Rattle.ak_protocol.specs.Accounts.{AccountState}
use Rattle.ak_protocol.specs.Logs.{Event, View, Asked, Commit, Log, with_growth, events_of, commits_of}
use Rattle.ak_protocol.specs.Sessions.{IsAsked, IsMetaOrOther, IsOfSync, IsOnlyCommit, IsOwnOrOther}
use Rattle.ak_protocol.specs.Syncs.{IsUnderWay, IsUnused}
use Rattle.ak_session.proofs.PlanLaws.{finish_is_last}
use Rattle.ak_session.proofs.SyncLaws.{syncs_exchange}
use Rattle.ak_session.specs.Contents.{closed}
use Rattle.ak_session.specs.Plans.{Asker, plan, planned, given_by_sync, requests_from, sent_by_sync}
use Rattle.ak_session.specs.Requests.{asks_commit, is_meta}
use Rattle.ak_session.specs.Sessions.{MaySync}

no_place : {X : Type 0} (before : List X) (x : X) (after : List X) → before ++ x ∷ after ≡ [] → ⊥
no_place [] x after is = absurd (cons_nil x after is)
  where
    cons_nil : {X : Type 0} (x : X) (xs : List X) → x ∷ xs ≡ [] → ⊥
    cons_nil x xs is = grind (arith, is)
no_place (first ∷ more) x after is = grind (arith, is)

-- ---- requests that do not commit
plain_requests : (who : Asker) (base : ℤ) (step : ℕ) (asks : List Ask) → ArePlain asks
    → AllByRecursion (λ (request : Request). asks_commit request.ask ≡ false) (requests_from who base step asks)
plain_requests who base step [] all = tt
plain_requests who base step (ask ∷ more) all = (all.0, plain_requests who base (step + 1) more all.1)

each_place : (P : Request → Type 0) (before : List Request) (request : Request) (after : List Request)
    → AllByRecursion P (before ++ request ∷ after) → P request
each_place P [] request after all = all.0
each_place P (first ∷ more) request after all = each_place P more request after all.1

-- a session whose requests do not commit committed nothing
pub plain_commits_nothing : (who : Asker) (s : Collection) (account : AccountState) (asks : List Ask) (log : Log) → ArePlain asks
    → IsUnderWay who.host.digits who.session.0 (requests_from who s.head.moment 1 asks) s account log
    → commits_of who.session.0 (world_at who account log).commits ≡ []
plain_commits_nothing who s account asks log plain under =
    by (world_at who account log).commits
    (syncs_are_held who.host.digits who.session.0 (requests_from who s.head.moment 1 asks) s account log under).once
  where
    by : (past : List Commit) → (commits_of who.session.0 past ≡ []) ⊎ IsOnlyCommit who.session.0 (requests_from who s.head.moment 1 asks) s past
        → commits_of who.session.0 past ≡ []
    by past (inl none) = none
    by past (inr one) = absurd (not_both one.commits (each_place (λ (request : Request). asks_commit request.ask ≡ false) one.asked.before one.request one.asked.after
        (subst (AllByRecursion (λ (request : Request). asks_commit request.ask ≡ false)) (sym one.asked.place) (plain_requests who s.head.moment 1 asks plain))))

-- ---- a device's collection c and a committed one s that may sync, and a front of what is planned
module _ (who : Asker) (c s : Collection) (account : AccountState) (asks : List Ask)
    (so : MaySync c s) (front : (rest : List Ask) × (asks ++ rest ≡ planned c s)) where
  abbrev asked : List Request
  asked = requests_from who s.head.moment 1 asks

  in_plan : (rest : List Request) × (asked ++ rest ≡ plan who c s)
  in_plan = (
    requests_from who s.head.moment (1 + length asks) front.0,
    sym (requests_append who s.head.moment 1 asks front.0) ∙ ap (requests_from who s.head.moment 1) front.1,
  )

  -- the commit of a request that was asked holds the join
  joins : (request : Request) (at : IsAsked asked s.head.moment request) (now : ℤ) → asks_commit request.ask ≡ true
      → HoldsJoin c s (closed s at.before request now)
  joins request at now commits =
      let rest = in_plan in
      let place : at.before ++ request ∷ (at.after ++ rest.0) ≡ plan who c s =
      sym (append_assoc at.before (request ∷ at.after) rest.0) ∙ ap (λ (l : List Request). l ++ rest.0) at.place ∙ rest.1 in
      let last = finish_is_last who c s at.before request (at.after ++ rest.0) place commits in
      server_half_joins (given_by_sync c s) (sent_by_sync c s) c s (closed s at.before request now)
      (syncs_exchange c s at.before request now so last.1 last.0) so.linked so.named so.committed.named so.committed.head.usn.low

  -- the session committed nothing, or once
  pub at_most_once : (log : Log) → IsUnderWay who.host.digits who.session.0 asked s account log
      → CommitsAtMostOnce who.session.0 c s (world_at who account log).commits
  at_most_once log under =
      by (world_at who account log).commits (syncs_are_held who.host.digits who.session.0 asked s account log under).once
    where
      by : (past : List Commit) → (commits_of who.session.0 past ≡ []) ⊎ IsOnlyCommit who.session.0 asked s past
          → CommitsAtMostOnce who.session.0 c s past
      by past (inl none) = inl none
      by past (inr one) = inr (record {
        after = closed s one.asked.before one.request one.now;
        only = one.only;
        joins = joins one.request one.asked one.now one.commits;
      })

  -- and so it stays
  pub stays_once : (log : Log) → IsUnderWay who.host.digits who.session.0 asked s account log
      → StaysOnce who c s s.head.moment asks account log
  stays_once log under later timely own =
      at_most_once (with_growth log later)
      (events_keep_syncs who.host.digits who.session.0 asked s account log under later own)

-- ---- a sync whose meta was not answered
only_metas : (key : ℕ) (base : ℤ) (event : Event) → IsOwnOrOther key [] base event → IsMetaOrOther key event
only_metas key base (View host) may = tt
only_metas key base (Asked request now setback) may = λ own. by (may own)
  where
    by : IsOfSync [] base request → is_meta request.ask ≡ true
    by (inl meta) = meta
    by (inr at) = absurd (no_place at.before request at.after at.place)

each_only_metas : (key : ℕ) (base : ℤ) (events : List Event) → AllByRecursion (IsOwnOrOther key [] base) events → AllByRecursion (IsMetaOrOther key) events
each_only_metas key base [] all = tt
each_only_metas key base (event ∷ more) all = (only_metas key base event all.0, each_only_metas key base more all.1)

-- a session key that is unused commits nothing, whatever comes later but requests with it
pub stays_unused : (who : Asker) (c s : Collection) (moment : ℤ) (account : AccountState) (log : Log) → IsUnused who.host.digits who.session.0 account log
    → StaysOnce who c s moment [] account log
stays_unused who c s moment account log unused later timely own =
    inl (unused_keys_commit_nothing who.host.digits who.session.0 account (with_growth log later)
    (events_leave_unused who.host.digits who.session.0 account log unused later
    (each_only_metas who.session.0 moment (events_of who.host.digits later) own)))
