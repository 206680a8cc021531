-- What serving a link leaves of the accounts.
use Rattle.std.proofs.Common.{◌≡◌, ◌∙◌, ℕ, ℤ, List, [], ◌∷◌, inl, inr, Option, Some, None, Result, Ok, Err, sym, ap, subst}
use Rattle.httparse.proofs.GrammarLemmas.{request_unique}
use Rattle.httparse.specs.Grammar.{RequestHead}
use Rattle.ak_faults.specs.Causes.{Health}
use Rattle.ak_http_heads.specs.Fields.{host_in}
use Rattle.ak_http_heads.specs.Heads.{fields_of}
use Rattle.ak_keep.specs.Keepers.{Keeping}
use Rattle.ak_messages.specs.declared.replies.Reply.{Reply}
use Rattle.ak_messages.specs.declared.requests.Request.{Request}
use Rattle.ak_protocol.proofs.ContentLaws.{servers_stay_lawful}
use Rattle.ak_protocol.specs.Logs.{Asked}
use Rattle.ak_protocol.specs.Servers.{server_served}
use Rattle.ak_server.specs.Accounts.{StandsFor, account_at}
use Rattle.ak_server.specs.Servers.{OthersStay}
use Rattle.ak_server.specs.declared.accounts.Account.{Account}
use Rattle.ak_http_texts.specs.declared.refusals.Refusal.{Refusal}
use Rattle.ak_http_links.specs.Isolation.{CarriesKey, IsIsolated, StaysLawful}
use Rattle.ak_http_links.specs.LinkReads.{AsksRequest, ReadsLink}
use Rattle.ak_http_links.specs.ServedLinks.{HasReply, Scene, ServesLink, ServesRequest}
use Rattle.ak_http_links.specs.declared.link_ends.LinkEnd.{LinkEnd}

-- ---- isolation

-- accounts that stayed touch none
stayed : {K : Type 0} (told : Option (List ℕ)) (old new : List (Account K)) → new ≡ old → IsIsolated told old new
stayed None old new is = tt
stayed (Some bytes) old new is = (λ host carries other differs. ap (account_at other) is, λ none. is)

-- bytes carry one host key at most
one_key : (bytes a b : List ℕ) → CarriesKey bytes a → CarriesKey bytes b → a ≡ b
one_key bytes a b x y =
    let same = (request_unique bytes x.head y.head x.rest y.rest x.is_head.reads y.is_head.reads).0 in
    let some : ◌≡◌ {A = Option (List ℕ)} (Some a) (Some b) = sym x.key ∙ ap (λ (h : RequestHead). host_in (fields_of h)) same ∙ y.key in
    cc

-- the host key of a request is the one that its bytes carry
pub carries_own : (bytes left : List ℕ) (request : Request) → AsksRequest bytes left request → CarriesKey bytes request.host.digits
carries_own bytes left request (asked, body, whole, reads) = record {
  head = whole.head;
  rest = whole.behind;
  is_head = whole.is_head;
  key = whole.asks.envelope.host ∙ ap (λ digits. Some digits) (ap (λ key. key.digits) (sym reads.host));
}

-- a request touches no account but that of its key
touches : {K : Type 0} (keeping : K → Keeping) (health : K → Health) (before after : Option (List ℕ)) (old new : List (Account K))
    (request : Request) (now : ℤ) (reply : Reply) → ReadsLink before after (Ok request)
    → ServesRequest keeping health old new request now reply → IsIsolated before old new
touches keeping health None after old new request now reply reads serves = tt
touches keeping health (Some bytes) None old new request now reply reads serves = absurd reads
touches keeping health (Some bytes) (Some left) old new request now reply reads serves =
    let own = carries_own bytes left request reads in (
      λ host carries. subst (λ (h : List ℕ). OthersStay h old new) (one_key bytes request.host.digits host own carries) serves.others,
      λ none. serves.unknown (none request.host.digits own),
    )

reply_isolates : {K : Type 0} (keeping : K → Keeping) (health : K → Health) (before after : Scene K) (reading : Result Request Refusal) (reply : Reply)
    → HasReply keeping health before after reading reply → IsIsolated before.left before.accounts after.accounts
reply_isolates keeping health before after (Ok request) reply has =
    let (now, moment, given, serves) = has.answers in
    touches keeping health before.left after.left before.accounts after.accounts request now reply has.reads serves
reply_isolates keeping health before after (Err why) reply has = stayed before.left before.accounts after.accounts has.answers.1

-- however the serving of a link ends, it touches no account but that of the key that the bytes carry
pub isolates : {K : Type 0} (keeping : K → Keeping) (health : K → Health) (before after : Scene K) (end : LinkEnd)
    → ServesLink keeping health before after end → IsIsolated before.left before.accounts after.accounts
isolates keeping health before after end (inl answered) =
    reply_isolates keeping health before after answered.reading answered.reply answered.has
isolates keeping health before after end (inr (failed, unread)) = stayed before.left before.accounts after.accounts unread.accounts

-- ---- lawful servers

lawful_reply : {K : Type 0} (keeping : K → Keeping) (health : K → Health) (before after : Scene K) (reading : Result Request Refusal) (reply : Reply)
    → HasReply keeping health before after reading reply → StaysLawful keeping before.accounts after.accounts
lawful_reply keeping health before after (Ok request) reply has server stands lawful =
    let (now, moment, given, serves) = has.answers in
    let one = serves.serves server stands in (
      (server_served server request now one.setback).next,
      one.stands,
      servers_stay_lawful server (Asked request now one.setback ∷ []) (moment, tt) lawful,
    )
lawful_reply keeping health before after (Err why) reply has server stands lawful =
    (server, subst (λ accounts. StandsFor keeping accounts server) (sym has.answers.1) stands, lawful)

-- however the serving of a link ends, a lawful server stays lawful
pub stays_lawful : {K : Type 0} (keeping : K → Keeping) (health : K → Health) (before after : Scene K) (end : LinkEnd)
    → ServesLink keeping health before after end → StaysLawful keeping before.accounts after.accounts
stays_lawful keeping health before after end (inl answered) server stands lawful =
    lawful_reply keeping health before after answered.reading answered.reply answered.has server stands lawful
stays_lawful keeping health before after end (inr (failed, unread)) server stands lawful =
    (server, subst (λ accounts. StandsFor keeping accounts server) (sym unread.accounts) stands, lawful)
