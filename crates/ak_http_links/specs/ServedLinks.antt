-- How one link is served.
use Rattle.std.specs.Prelude.{◌≡◌, ◌⊎◌, ◌↔◌, ℕ, ℤ, true, List, Option, None, Result, Ok, Err, IsOk}
use Rattle.ak_faults.specs.Causes.{GoesOn, Health, Rose}
use Rattle.ak_io.specs.Arrivals.{GivesNext, IsClockMoment}
use Rattle.ak_keep.specs.Keepers.{Keeping}
use Rattle.ak_messages.specs.declared.replies.Reply.{Reply}
use Rattle.ak_messages.specs.declared.requests.Request.{Request}
use Rattle.ak_server.specs.Accounts.{account_at}
use Rattle.ak_server.specs.Servers.{GivesAgain, IsServedFor, OthersStay, Serves, ServesFor, Strikes}
use Rattle.ak_server.specs.declared.accounts.Account.{Account}
use Rattle.ak_http_texts.specs.Refusals.{refusal_reply}
use Rattle.ak_http_texts.specs.declared.refusals.Refusal.{Refusal}
use Rattle.ak_http_links.specs.LinkReads.{HasRest, ReadsLink}
use Rattle.ak_http_links.specs.LinkWrites.{WritesReply}
use Rattle.ak_http_links.specs.declared.link_ends.LinkEnd.{LinkEnd}
use Rattle.ak_http_links.specs.declared.link_ends.LinkEnd.TheVariants as ends

-- where things are: the bytes that a link tells are left to be read, and those that it tells were written; the accounts of the
-- server; and the moments that the clock tells are to come
pub record Scene (K : Type 0) : Type 0 where
  pub left : Option (List ℕ)
  pub written : Option (List ℕ)
  pub accounts : List (Account K)
  pub moments : Option (List ℤ)

-- all that a server promises of a request that it serves at a moment
pub record ServesRequest {K : Type 0} (keeping : K → Keeping) (health : K → Health) (old new : List (Account K))
    (request : Request) (now : ℤ) (reply : Reply) : Type 0 where
  pub serves : Serves keeping old new request now reply
  pub account : ServesFor keeping (account_at request.host.digits old) (account_at request.host.digits new) request now reply
  pub others : OthersStay request.host.digits old new
  pub key : reply.status ≡ 403 ↔ account_at request.host.digits old ≡ None
  pub unknown : account_at request.host.digits old ≡ None → new ≡ old
  pub again : GivesAgain (account_at request.host.digits old) (account_at request.host.digits new) request reply
  pub struck : Strikes keeping (account_at request.host.digits old) (account_at request.host.digits new) request reply
  pub cause : IsServedFor health (account_at request.host.digits old) (account_at request.host.digits new) reply

-- the reply to what the bytes of a link ask: of a request, what the server makes of it at the next moment of the clock; of a refusal,
-- the one that tells it, while the server is as it was and the clock is not asked
abbrev pub Answers : {K : Type 0} → (K → Keeping) → (K → Health) → Scene K → Scene K → Result Request Refusal → Reply → Type 0
Answers keeping health before after (Ok request) reply = (now : ℤ) × IsClockMoment now × GivesNext before.moments after.moments now
    × ServesRequest keeping health before.accounts after.accounts request now reply
Answers keeping health before after (Err why) reply =
    (reply ≡ refusal_reply why) × (after.accounts ≡ before.accounts) × (after.moments ≡ before.moments)

-- a link was read as far as one reading goes, and this is the reply to it
pub record HasReply {K : Type 0} (keeping : K → Keeping) (health : K → Health) (before after : Scene K)
    (reading : Result Request Refusal) (reply : Reply) : Type 0 where
  pub reads : ReadsLink before.left after.left reading
  pub answers : Answers keeping health before after reading reply

-- the link was read as far as one reading goes, and the reply to it was written as the end tells. Memory is asked for after a request
-- was served alone
pub record IsAnswered {K : Type 0} (keeping : K → Keeping) (health : K → Health) (before after : Scene K) (end : LinkEnd) : Type 0 where
  pub reading : Result Request Refusal
  pub reply : Reply
  pub has : HasReply keeping health before after reading reply
  pub writes : WritesReply before.written after.written reply end
  pub memory : end ≡ ends.Memory → IsOk reading

-- the link failed before it was read as far as one reading goes: nothing was written, the server is as it was, and the clock was not asked
pub record IsUnread {K : Type 0} (before after : Scene K) : Type 0 where
  pub read : HasRest before.left after.left
  pub written : after.written ≡ before.written
  pub accounts : after.accounts ≡ before.accounts
  pub moments : after.moments ≡ before.moments

-- one link is served: it is answered, or it failed before
abbrev pub ServesLink : {K : Type 0} → (K → Keeping) → (K → Health) → Scene K → Scene K → LinkEnd → Type 0
ServesLink keeping health before after end =
    IsAnswered keeping health before after end ⊎ ((end ≡ ends.Failed) × IsUnread before after)

-- a link goes on, and its end is `Failed` only if its count of faults rose; one that is known not to fail does not end so
pub record EndCause (before now : Health) (end : LinkEnd) : Type 0 where
  pub goes : GoesOn before now
  pub failed : end ≡ ends.Failed → Rose before now
  pub unfailed : before.calm ≡ true → end ≡ ends.Failed → ⊥
