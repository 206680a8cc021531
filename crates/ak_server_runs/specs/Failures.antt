-- How many replies to one account told that its keeper failed.
use Rattle.std.specs.Prelude.{ℕ, ◌+◌, ◌&&◌, ◌==◌, Bool, false, if◌then◌else◌, List, [], ◌∷◌, Option, Some, None, Result, Ok, Err}
use Rattle.std.proofs.Common.{inl, inr}
use Rattle.ak_account_keepers.specs.OpenedAccounts.{Service}
use Rattle.ak_faults.specs.Causes.{Health}
use Rattle.ak_http_links.specs.ServedLinks.{IsAnswered, Scene, ServesLink}
use Rattle.ak_http_links.specs.declared.link_ends.LinkEnd.{LinkEnd}
use Rattle.ak_http_texts.specs.declared.refusals.Refusal.{Refusal}
use Rattle.ak_keep.specs.Keepers.{Keeping}
use Rattle.ak_messages.specs.declared.replies.Reply.{Reply}
use Rattle.ak_messages.specs.declared.requests.Request.{Request}
use Rattle.ak_protocol.specs.Servers.{same_host}
use Rattle.ak_server.specs.declared.accounts.Account.{Account}
use Rattle.ak_server_runs.specs.ServedDoors.{ServesTurns, Turn, Views}

-- whether a request of this host key was answered 503
abbrev pub is_failure : List ℕ → Result Request Refusal → Reply → Bool
is_failure host (Ok request) reply = same_host host request.host.digits && (reply.status == 503)
is_failure host (Err why) reply = false

-- how many such replies were made to what came on a link: one or none
abbrev pub failures_answered : {K : Type 0} (keeping : K → Keeping) (health : K → Health) (host : List ℕ) (before after : Scene K) (end : LinkEnd)
    → IsAnswered keeping health before after end → ℕ
failures_answered keeping health host before after end answered = if is_failure host answered.reading answered.reply then 1 else 0

abbrev pub failures_of : {K : Type 0} (keeping : K → Keeping) (health : K → Health) (host : List ℕ) (before after : Scene K) (end : LinkEnd)
    → ServesLink keeping health before after end → ℕ
failures_of keeping health host before after end (inl answered) = failures_answered keeping health host before after end answered
failures_of keeping health host before after end (inr unread) = 0

-- how many were made to what came on links that were served one after another
abbrev pub failures_in : {L K : Type 0} (views : Views L K) (host : List ℕ) (turns : List (Turn L)) (before after : Service K)
    → ServesTurns views turns before after → ℕ
failures_in views host [] before after served = 0
failures_in views host (turn ∷ turns) before after served =
    failures_of views.keeping views.health host _ _ served.1.end served.1.serves + failures_in views host turns served.0 after served.2

-- the count of faults of a keeper, 0 if there is no account of the host key
abbrev pub faults_at : {K : Type 0} → (K → Health) → Option (Account K) → ℕ
faults_at health None = 0
faults_at health (Some account) = (health account.keeper).faults
