-- The lists of requests that a session accepts, and what is known of the two sides of a sync.
use Rattle.std.specs.Prelude.{◌≡◌, ◌≢◌, ◌⊎◌, ◌<ℤ◌, Bool, true, false, not, List, ◌∷◌, ◌++◌, None, IfSome}
use Rattle.ak_base.specs.Heads.{IsHeadInRange}
use Rattle.ak_base.specs.Limits.{last_head_usn, last_moment}
use Rattle.ak_keep.specs.Collections.{Rows, Collection}
use Rattle.std.specs.FinMap.{get}
use Rattle.ak_merge.specs.Commits.{IsCommitted}
use Rattle.ak_merge.specs.Holdings.{row_under, AreNamed, AreChecked}
use Rattle.ak_merge.specs.Links.{AreLinkedParts}
use Rattle.ak_merge.specs.Soundness.{IsSound, IsLeastFault}
use Rattle.ak_messages.specs.declared.replies.SanityReply.{SanityReply}
use Rattle.ak_messages.specs.declared.requests.Request.{Request}
use Rattle.ak_messages.specs.declared.requests.SanityCounts.{SanityCounts}
use Rattle.ak_session.specs.Answers.{counts_of}
use Rattle.ak_session.specs.Contents.{refusal, ends}
use Rattle.ak_session.specs.Requests.{asks_commit}

-- a request that a session accepts after these, and goes on after it
pub record IsAllowed (committed : Collection) (before : List Request) (request : Request) : Type 0 where
  pub allowed : refusal committed before request ≡ None
  pub stays : asks_commit request.ask ≡ false
  pub goes_on : ends committed before request ≡ false

-- each of these requests is accepted by a session over this collection, after those before it
abbrev pub AreAllowed : Collection → List Request → Type 0
AreAllowed committed accepted =
    (before : List Request) (request : Request) (after : List Request) → before ++ request ∷ after ≡ accepted
    → IsAllowed committed before request

-- a device's collection c and a committed one s that may sync: they are linked, and each is what such a collection is
pub record MaySync (c s : Collection) : Type 0 where
  pub linked : AreLinkedParts c s
  pub named : AreNamed (row_under c)
  pub checked : AreChecked (row_under c)
  pub head : IsHeadInRange c.head
  pub committed : IsCommitted s

-- no usn of either side is the last one: the server's next usn and the moments after both are in their ranges
pub record HaveRoom (c s : Collection) : Type 0 where
  pub usn : s.head.usn <ℤ last_head_usn
  pub moment : c.head.moment <ℤ last_moment
  pub their_moment : s.head.moment <ℤ last_moment

-- what the reply to a sanity check tells, if these rows are held, these counts were sent, and the check ended the session or not
pub record TellsCheck (held : Rows) (counts : SanityCounts) (ended : Bool) (reply : SanityReply) : Type 0 where
  pub good : reply.good ≡ not ended
  -- a good reply has no fault, and no counts
  pub no_fault : ended ≡ false → reply.fault ≡ None
  pub no_client : ended ≡ false → reply.client ≡ record { cards = 0; notes = 0; reviews = 0; graves = 0; models = 0; decks = 0; options = 0 }
  pub no_server : ended ≡ false → reply.server ≡ record { cards = 0; notes = 0; reviews = 0; graves = 0; models = 0; decks = 0; options = 0 }
  -- a bad one has the first fault, if there is one, and the counts of both. It shows a fault, or two counts that differ
  pub fault : ended ≡ true → IfSome reply.fault (IsLeastFault (get held))
  pub unsaid : ended ≡ true → reply.fault ≡ None → IsSound (get held)
  pub client : ended ≡ true → reply.client ≡ counts
  pub server : ended ≡ true → reply.server ≡ counts_of held
  pub shows : ended ≡ true → (reply.fault ≢ None) ⊎ (reply.client ≢ reply.server)
