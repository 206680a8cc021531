-- One request, from the reading of a link to its end.
use Rattle.std.proofs.Common.{◌≡◌, ℕ, ℤ, List, Option, Ok, refl, sym, subst, arith}
use Rattle.ak_faults.specs.Causes.{GoesOn, Health}
use Rattle.ak_faults.proofs.Healths.{goes_further}
use Rattle.ak_io.specs.Arrivals.{GivesNext, IsClockMoment}
use Rattle.ak_keep.specs.Keepers.{Keeping}
use Rattle.ak_messages.specs.declared.replies.Reply.{Reply}
use Rattle.ak_messages.specs.declared.requests.Request.{Request}
use Rattle.ak_server.specs.declared.accounts.Account.{Account}
use Rattle.ak_http_links.specs.LinkReads.{ReadsLink}
use Rattle.ak_http_links.specs.LinkWrites.{WritesReply}
use Rattle.ak_http_links.specs.ServedLinks.{EndCause, IsAnswered, ServesRequest}
use Rattle.ak_http_links.specs.declared.link_ends.LinkEnd.{LinkEnd}

-- a request was read, served and answered
pub answered : {K : Type 0} (keeping : K → Keeping) (health : K → Health) (l0 l1 l2 w0 w1 w2 : Option (List ℕ)) (a0 a1 : List (Account K))
    (m0 m1 : Option (List ℤ)) (request : Request) (now : ℤ) (reply : Reply) (end : LinkEnd)
    → ReadsLink l0 l1 (Ok request) → l2 ≡ l1 → w1 ≡ w0 → IsClockMoment now → GivesNext m0 m1 now
    → ServesRequest keeping health a0 a1 request now reply → WritesReply w1 w2 reply end
    → IsAnswered keeping health (record { left = l0; written = w0; accounts = a0; moments = m0 })
    (record { left = l2; written = w2; accounts = a1; moments = m1 }) end
answered keeping health l0 l1 l2 w0 w1 w2 a0 a1 m0 m1 request now reply end reads left_stays written_stays moment given serves writes = record {
  reading = Ok request;
  reply = reply;
  has = record {
    reads = subst (λ (l : Option (List ℕ)). ReadsLink l0 l (Ok request)) (sym left_stays) reads;
    answers = (now, moment, given, serves);
  };
  writes = subst (λ (w : Option (List ℕ)). WritesReply w w2 reply end) written_stays writes;
  memory = λ is. refl;
}

-- a link that went on before
pub ends_after : {a b c : Health} {end : LinkEnd} → GoesOn a b → EndCause b c end → EndCause a c end
ends_after goes cause = record {
  goes = goes_further goes cause.goes;
  failed = λ is. let rose = cause.failed is in omega (arith, rose, goes.later);
  unfailed = λ calm is. cause.unfailed (goes.calm calm) is;
}
