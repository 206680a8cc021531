-- All links of a server are one run of the protocol, and touch no account that none of them names.
use Rattle.std.proofs.Common.{◌≡◌, ◌∙◌, ℕ, ℤ, Bool, true, false, List, [], ◌∷◌, Option, Some, None, Result, Ok, Err, inl, inr, ◌⊎◌, refl, sym, ap, subst}
use Rattle.clap.specs.Walk.{Text}
use Rattle.ak_faults.specs.Causes.{Health}
use Rattle.ak_account_keepers.specs.OpenedAccounts.{OpensAll, Service}
use Rattle.ak_accounts.specs.declared.listings.ListedAccount.{ListedAccount}
use Rattle.ak_http_links.proofs.Isolated.{carries_own}
use Rattle.ak_http_links.specs.Isolation.{CarriesKey}
use Rattle.ak_http_links.specs.LinkReads.{ReadsLink}
use Rattle.ak_http_links.specs.LinkWrites.{WritesReply}
use Rattle.ak_http_links.specs.ServedLinks.{EndCause, HasReply, Scene, ServesLink, ServesRequest}
use Rattle.ak_http_links.specs.declared.link_ends.LinkEnd.{LinkEnd}
use Rattle.ak_http_texts.specs.declared.refusals.Refusal.{Refusal}
use Rattle.ak_io.specs.Arrivals.{GivesNext}
use Rattle.ak_keep.specs.Keepers.{Keeping}
use Rattle.ak_messages.specs.declared.replies.Reply.{Reply}
use Rattle.ak_messages.specs.declared.requests.Request.{Request}
use Rattle.ak_protocol.proofs.Isolation.{host_is}
use Rattle.ak_protocol.specs.Logs.{Asked, server_next}
use Rattle.ak_protocol.specs.Servers.{ServerState, same_host, server_served, with_account}
use Rattle.ak_protocol.specs.Serving.{Setback}
use Rattle.ak_server.specs.Accounts.{StandsFor, account_at}
use Rattle.ak_server.specs.Servers.{no_accounts}
use Rattle.ak_server.specs.declared.accounts.Account.{Account}
use Rattle.ak_server_runs.specs.OneRun.{AllLackKey, GivesMoments, IsCutOff, IsOneRun, IsRefusedTo, IsServedTo, LacksKey, RunsOnce, TellAll}
use Rattle.ak_server_runs.specs.ServedDoors.{ServesTurns, Turn, Views, scene_of}
use Rattle.ak_server_runs.specs.ServerRuns.{ServesAll, Surroundings}

-- ---- one run
-- a link that brings a request, before links that are one run
asked_first : {L K : Type 0} (views : Views L K) (turn : Turn L) (turns : List (Turn L)) (server : ServerState) (before then after : Service K)
    (request : Request) (now : ℤ) (setback : Setback) → IsServedTo views turn server request now setback → GivesNext before.moments then.moments now
    → IsOneRun views turns (server_next server (Asked request now setback)) then after → IsOneRun views (turn ∷ turns) server before after
asked_first views turn turns server before then after request now setback served given rest = record {
  events = Asked request now setback ∷ rest.events;
  answers = inl (request, now, setback, rest.events, refl, served, rest.answers);
  moments = (then.moments, given, rest.moments);
  stands = rest.stands;
}

-- a link that brings none
silent_first : {L K : Type 0} (views : Views L K) (turn : Turn L) (turns : List (Turn L)) (server : ServerState) (before then after : Service K)
    → IsRefusedTo views turn ⊎ IsCutOff views turn → then.moments ≡ before.moments
    → IsOneRun views turns server then after → IsOneRun views (turn ∷ turns) server before after
silent_first views turn turns server before then after silent moments rest = record {
  events = rest.events;
  answers = inr (silent, rest.answers);
  moments = subst (λ m. GivesMoments m after.moments rest.events) moments rest.moments;
  stands = rest.stands;
}

-- the accounts stand for the same server if they are the same
stand_still : {K : Type 0} (keeping : K → Keeping) (old new : List (Account K)) (server : ServerState) → new ≡ old
    → StandsFor keeping old server → StandsFor keeping new server
stand_still keeping old new server same stands = subst (λ accounts. StandsFor keeping accounts server) (sym same) stands

-- a link that was read, by what it asks
by_reading : {L K : Type 0} (views : Views L K) (turn : Turn L) (turns : List (Turn L)) (server : ServerState) (before then after : Service K)
    (reading : Result Request Refusal) (reply : Reply) (end : LinkEnd)
    → HasReply views.keeping views.health (scene_of views turn.came before) (scene_of views turn.gave then) reading reply
    → WritesReply (views.written turn.came) (views.written turn.gave) reply end → EndCause (views.link_health turn.came) (views.link_health turn.gave) end
    → StandsFor views.keeping before.accounts server
    → ((next : ServerState) → StandsFor views.keeping then.accounts next → IsOneRun views turns next then after)
    → IsOneRun views (turn ∷ turns) server before after
by_reading views turn turns server before then after (Ok request) reply end has writes cause stands more =
    let (now, moment, given, serves) = has.answers in
    let one = serves.serves server stands in
    asked_first views turn turns server before then after request now one.setback
    (record {
      end = end;
      reads = has.reads;
      moment = moment;
      writes = subst (λ r. WritesReply (views.written turn.came) (views.written turn.gave) r end) one.reply_is writes;
      cause = cause;
    })
    given
    (more (server_served server request now one.setback).next one.stands)
by_reading views turn turns server before then after (Err why) reply end has writes cause stands more =
    let (is, accounts, moments) = has.answers in
    silent_first views turn turns server before then after
    (inl (record {
      why = why;
      end = end;
      reads = has.reads;
      writes = subst (λ r. WritesReply (views.written turn.came) (views.written turn.gave) r end) is writes;
      cause = cause;
    }))
    moments
    (more server (stand_still views.keeping before.accounts then.accounts server accounts stands))

-- a link, by how it was served
by_serving : {L K : Type 0} (views : Views L K) (turn : Turn L) (turns : List (Turn L)) (server : ServerState) (before then after : Service K) (end : LinkEnd)
    → ServesLink views.keeping views.health (scene_of views turn.came before) (scene_of views turn.gave then) end
    → EndCause (views.link_health turn.came) (views.link_health turn.gave) end → StandsFor views.keeping before.accounts server
    → ((next : ServerState) → StandsFor views.keeping then.accounts next → IsOneRun views turns next then after)
    → IsOneRun views (turn ∷ turns) server before after
by_serving views turn turns server before then after end (inl answered) cause stands more =
    by_reading views turn turns server before then after answered.reading answered.reply end answered.has answered.writes cause stands more
by_serving views turn turns server before then after end (inr (failed, unread)) cause stands more =
    silent_first views turn turns server before then after
    (inr (record { read = unread.read; written = unread.written; failed = cause.failed failed }))
    unread.moments
    (more server (stand_still views.keeping before.accounts then.accounts server unread.accounts stands))

-- links that were served one after another are one run
pub one_run : {L K : Type 0} (views : Views L K) (turns : List (Turn L)) (server : ServerState) (before after : Service K)
    → ServesTurns views turns before after → StandsFor views.keeping before.accounts server → IsOneRun views turns server before after
one_run views [] server before after served stands = record {
  events = [];
  answers = refl;
  moments = ap (λ (s : Service _). s.moments) served;
  stands = stand_still views.keeping before.accounts after.accounts server (ap (λ (s : Service _). s.accounts) served) stands;
}
one_run views (turn ∷ turns) server before after served stands =
    by_serving views turn turns server before served.0 after served.1.end served.1.serves served.1.cause stands
    (λ next then_stands. one_run views turns next served.0 after served.2 then_stands)

-- ---- accounts that no link names
request_stays : {K : Type 0} (keeping : K → Keeping) (health : K → Health) (host : List ℕ) (told left : Option (List ℕ)) (old new : List (Account K))
    (request : Request) (now : ℤ) (reply : Reply) → LacksKey host told → ReadsLink told left (Ok request)
    → ServesRequest keeping health old new request now reply → account_at host new ≡ account_at host old
request_stays keeping health host None left old new request now reply lacks reads serves = absurd lacks
request_stays keeping health host (Some bytes) None old new request now reply lacks reads serves = absurd reads
request_stays keeping health host (Some bytes) (Some left) old new request now reply lacks reads serves = go (same_host host request.host.digits) refl
  where
    go : (own : Bool) → same_host host request.host.digits ≡ own → account_at host new ≡ account_at host old
    go true own = absurd (lacks (subst (λ h. CarriesKey bytes h) (sym (host_is host request.host.digits own)) (carries_own bytes left request reads)))
    go false other = serves.others host other

reply_stays : {K : Type 0} (keeping : K → Keeping) (health : K → Health) (host : List ℕ) (before after : Scene K) (reading : Result Request Refusal) (reply : Reply)
    → LacksKey host before.left → HasReply keeping health before after reading reply → account_at host after.accounts ≡ account_at host before.accounts
reply_stays keeping health host before after (Ok request) reply lacks has =
    let (now, moment, given, serves) = has.answers in
    request_stays keeping health host before.left after.left before.accounts after.accounts request now reply lacks has.reads serves
reply_stays keeping health host before after (Err why) reply lacks has = ap (account_at host) has.answers.1

link_stays : {K : Type 0} (keeping : K → Keeping) (health : K → Health) (host : List ℕ) (before after : Scene K) (end : LinkEnd)
    → LacksKey host before.left → ServesLink keeping health before after end → account_at host after.accounts ≡ account_at host before.accounts
link_stays keeping health host before after end lacks (inl answered) =
    reply_stays keeping health host before after answered.reading answered.reply lacks answered.has
link_stays keeping health host before after end lacks (inr unread) = ap (account_at host) unread.1.accounts

-- an account whose key no link carries is as it was
pub unnamed_stays : {L K : Type 0} (views : Views L K) (host : List ℕ) (turns : List (Turn L)) (before after : Service K)
    → ServesTurns views turns before after → AllLackKey views host turns → account_at host after.accounts ≡ account_at host before.accounts
unnamed_stays views host [] before after served lacks = ap (λ (s : Service _). account_at host s.accounts) served
unnamed_stays views host (turn ∷ turns) before after served lacks =
    unnamed_stays views host turns served.0 after served.2 lacks.1
    ∙ link_stays views.keeping views.health host (scene_of views turn.came before) (scene_of views turn.gave served.0) served.1.end lacks.0 served.1.serves

-- ---- accounts as they were opened
all_stand : {K : Type 0} (keeping : K → Keeping) (listed : List ListedAccount) (told left : Option (List K)) (before after : Service K)
    (opens : OpensAll keeping listed told left before after) → TellAll keeping listed told left before after opens
    → (server : ServerState) → StandsFor keeping before.accounts server → (opened : ServerState) × StandsFor keeping after.accounts opened
all_stand keeping [] told left before after opens tells server stands =
    (server, stand_still keeping before.accounts after.accounts server (ap (λ (s : Service _). s.accounts) opens.1) stands)
all_stand keeping (one ∷ more) told left before after opens tells server stands =
    all_stand keeping more opens.0 left opens.1 after opens.3 tells.1
    (with_account one.host.digits (record { committed = tells.0.0; live = None; kept = None }) server)
    (opens.2.adds.stands server tells.0.0 stands tells.0.1)

-- no accounts stand for a server without accounts
none_stand : {K : Type 0} (keeping : K → Keeping) (accounts : List (Account K)) → accounts ≡ [] → StandsFor keeping accounts no_accounts
none_stand keeping accounts none = stand_still keeping [] accounts no_accounts none (record { each = λ host. refl })

-- a run that began without accounts, over keepers that tell, is one run of the protocol
pub runs_once : {L K : Type 0} (views : Views L K) (words : List Text) (text : Option (List ℕ)) (before after : Surroundings L K) (done : Bool)
    (serves : ServesAll views words text before after done)
    → TellAll views.keeping serves.opens.listed before.keepers after.keepers before.service serves.opened serves.opens.opens
    → before.service.accounts ≡ [] → RunsOnce views serves.serves.turns serves.opened after.service
runs_once views words text before after done serves tells none =
    let (opening, stands) = all_stand views.keeping serves.opens.listed before.keepers after.keepers before.service serves.opened serves.opens.opens tells
    no_accounts (none_stand views.keeping before.service.accounts none) in
    record { opening = opening; opened_as = stands; run = one_run views serves.serves.turns opening serves.opened after.service serves.serves.serves stands }
