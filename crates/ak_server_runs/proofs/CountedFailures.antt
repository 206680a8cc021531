-- No more replies tell that an account's keeper failed than the keeper has counted faults.
use Rattle.std.proofs.Common.{◌≡◌, ℕ, ◌+◌, ◌-◌, ◌^◌, ◌≤◌, min, Bool, true, false, if◌then◌else◌, ◌&&◌, ◌==◌, List, [], ◌∷◌, Option, Some, None, Result, Ok, Err, refl, ap, sym, ◌∙◌, subst, inl, inr, arith}
use Rattle.std.proofs.lemmas.Bool.{and_parts, eqb-true}
use Rattle.ak_account_keepers.specs.OpenedAccounts.{Service}
use Rattle.ak_faults.specs.Causes.{Health}
use Rattle.ak_http_links.specs.ServedLinks.{Answers, IsAnswered, IsUnread, Scene, ServesLink, ServesRequest}
use Rattle.ak_http_links.specs.declared.link_ends.LinkEnd.{LinkEnd}
use Rattle.ak_http_texts.specs.declared.refusals.Refusal.{Refusal}
use Rattle.ak_keep.specs.Keepers.{Keeping}
use Rattle.ak_messages.specs.declared.replies.Reply.{Reply}
use Rattle.ak_messages.specs.declared.requests.Request.{Request}
use Rattle.ak_protocol.proofs.Isolation.{host_is}
use Rattle.ak_protocol.specs.Servers.{same_host}
use Rattle.ak_server.specs.Accounts.{account_at}
use Rattle.ak_server.specs.Servers.{IsServedFor}
use Rattle.ak_server.specs.declared.accounts.Account.{Account}
use Rattle.ak_server_runs.specs.Failures.{failures_answered, failures_in, failures_of, faults_at, is_failure}
use Rattle.ak_server_runs.specs.ServedDoors.{ServesTurns, Turn, Views}

-- one reply to an account: its count does not fall, and rises if the reply is 503
one_reply : {K : Type 0} (health : K → Health) (old new : Option (Account K)) (reply : Reply) (told : Bool) → IsServedFor health old new reply
    → (told ≡ true → reply.status ≡ 503) → min (faults_at health old + (if told then 1 else 0)) (2 ^ 64 - 1) ≤ faults_at health new
one_reply health (Some old) (Some new) reply false served is = let later = served.1.goes.later in omega (arith, later)
one_reply health (Some old) (Some new) reply true served is = let rose = served.1.failed (is refl) in omega (arith, rose)
one_reply health (Some old) None reply told served is = absurd served
one_reply health None new reply false served is = omega arith
one_reply health None new reply true served is =
    let other : 403 ≡ 503 = sym (ap (λ (r : Reply). r.status) served) ∙ is refl in absurd (omega (arith, other))

-- nothing changed for an account, and no reply told that its keeper failed
nothing_told : {K : Type 0} (health : K → Health) (old new : Option (Account K)) (count : ℕ) → new ≡ old → count ≡ 0
    → min (faults_at health old + count) (2 ^ 64 - 1) ≤ faults_at health new
nothing_told health old new count same none =
    let faults : faults_at health new ≡ faults_at health old = ap (faults_at health) same in omega (arith, faults, none)

-- what was answered to a link
one_answer : {K : Type 0} (keeping : K → Keeping) (health : K → Health) (host : List ℕ) (before after : Scene K) (reading : Result Request Refusal) (reply : Reply)
    → Answers keeping health before after reading reply
    → min (faults_at health (account_at host before.accounts) + (if is_failure host reading reply then 1 else 0)) (2 ^ 64 - 1) ≤ faults_at health (account_at host after.accounts)
one_answer keeping health host before after (Err why) reply answers = nothing_told health _ _ 0 (ap (account_at host) answers.1) refl
one_answer keeping health host before after (Ok request) reply answers = go (same_host host request.host.digits) refl
  where
    served : ServesRequest keeping health before.accounts after.accounts request answers.0 reply
    served = answers.3

    go : (own : Bool) → same_host host request.host.digits ≡ own
        → min (faults_at health (account_at host before.accounts) + (if is_failure host (Ok request) reply then 1 else 0)) (2 ^ 64 - 1)
        ≤ faults_at health (account_at host after.accounts)
    go true own =
        one_reply health _ _ reply (is_failure host (Ok request) reply)
        (subst (λ h. IsServedFor health (account_at h before.accounts) (account_at h after.accounts) reply) (sym (host_is host request.host.digits own)) served.cause)
        (λ told. eqb-true reply.status 503 (and_parts (same_host host request.host.digits) (reply.status == 503) told).1)
    go false other =
        nothing_told health _ _ (if is_failure host (Ok request) reply then 1 else 0) (served.others host other) (ap (λ own. if own && (reply.status == 503) then 1 else 0) other)

was_answered : {K : Type 0} (keeping : K → Keeping) (health : K → Health) (host : List ℕ) (before after : Scene K) (end : LinkEnd) (served : IsAnswered keeping health before after end)
    → min (faults_at health (account_at host before.accounts) + failures_answered keeping health host before after end served) (2 ^ 64 - 1)
    ≤ faults_at health (account_at host after.accounts)
was_answered keeping health host before after end served = one_answer keeping health host before after served.reading served.reply served.has.answers

was_unread : {K : Type 0} (health : K → Health) (host : List ℕ) (before after : Scene K) → IsUnread before after
    → min (faults_at health (account_at host before.accounts) + 0) (2 ^ 64 - 1) ≤ faults_at health (account_at host after.accounts)
was_unread health host before after unread = nothing_told health _ _ 0 (ap (account_at host) unread.accounts) refl

one_link : {K : Type 0} (keeping : K → Keeping) (health : K → Health) (host : List ℕ) (before after : Scene K) (end : LinkEnd) (served : ServesLink keeping health before after end)
    → min (faults_at health (account_at host before.accounts) + failures_of keeping health host before after end served) (2 ^ 64 - 1)
    ≤ faults_at health (account_at host after.accounts)
one_link keeping health host before after end (inl answered) = was_answered keeping health host before after end answered
one_link keeping health host before after end (inr unread) = was_unread health host before after unread.1

-- links served one after another
pub failures_counted : (L K : Type 0) (views : Views L K) (host : List ℕ) (turns : List (Turn L)) (before after : Service K) (served : ServesTurns views turns before after)
    → min (faults_at views.health (account_at host before.accounts) + failures_in views host turns before after served) (2 ^ 64 - 1)
    ≤ faults_at views.health (account_at host after.accounts)
failures_counted L K views host [] before after served = nothing_told views.health _ _ 0 (ap (λ (s : Service _). account_at host s.accounts) served) refl
failures_counted L K views host (turn ∷ turns) before after served =
    let first = one_link views.keeping views.health host _ _ served.1.end served.1.serves in
    let rest = failures_counted L K views host turns served.0 after served.2 in
    omega (arith, first, rest)
