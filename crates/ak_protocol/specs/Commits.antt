-- What becomes of a committed collection.
use Rattle.std.specs.List.{AllByRecursion}
use Rattle.std.specs.Prelude.{◌≡◌, ◌≢◌, ◌<ℤ◌, ℤ, true, false, List, [], ◌∷◌, ◌++◌, None, ◌⊎◌}
use Rattle.ak_keep.specs.Collections.{Collection}
use Rattle.ak_merge.specs.Commits as commits
use Rattle.ak_merge.specs.Commits.{Received, IsCommitOf, IsInRange, IsUploadOf, IsWholeInRange}
use Rattle.ak_merge.specs.Exchanges.{IsServerHalf}
use Rattle.ak_merge.specs.Holdings.{row_under}
use Rattle.ak_merge.specs.Soundness.{IsSound}
use Rattle.ak_messages.specs.declared.methods.Method.TheVariants as methods
use Rattle.ak_messages.specs.declared.requests.Ask.TheVariants as asks
use Rattle.ak_messages.specs.declared.requests.Request.{Request}
use Rattle.ak_messages.specs.declared.requests.Whole.{Whole}
use Rattle.ak_session.specs.Asks.{asks_of, all_brought}
use Rattle.ak_session.specs.Closings.{whole_brought}
use Rattle.ak_protocol.specs.Accounts.{SessionState, AccountState}
use Rattle.ak_session.specs.Contents.{closed}
use Rattle.ak_session.specs.Plans.{Asker, given_by_sync, sent_by_sync}
use Rattle.ak_protocol.specs.Lawful.{IsNext}
use Rattle.ak_protocol.specs.Logs.{Commit, World}
use Rattle.ak_session.specs.Requests.{asked_method}
use Rattle.ak_protocol.specs.Serving.{Served, commit_reply}

-- what a serving at this moment makes of the committed collection: it stays, unless the serving is a commit, which a finish or an upload
-- alone is, if it is the next of the live session: then it is what the session's requests make of it, and was changed later, the reply is
-- its moments, and no session is live
pub record OnlyCommits (s : AccountState) (request : Request) (now : ℤ) (it : Served) : Type 0 where
  pub stays : it.is_commit ≡ false → it.next.committed ≡ s.committed
  pub asked : it.is_commit ≡ true → (asked_method request.ask ≡ methods.Finish) ⊎ (asked_method request.ask ≡ methods.Upload)
  pub made : it.is_commit ≡ true → (session : SessionState) × IsNext s session request
      × (it.next.committed ≡ closed s.committed session.accepted request now)
  pub later : it.is_commit ≡ true → s.committed.head.moment <ℤ it.next.committed.head.moment
  pub reply : it.is_commit ≡ true → it.reply ≡ commit_reply request.ask it.next.committed.head
  pub over : it.is_commit ≡ true → it.next.live ≡ None

-- these commits, the latest first, lead from one committed collection to another: the earliest is over the one, each later one is over
-- what the commit before it made, the latest made the other, and each made a collection that was changed later
abbrev pub Leads : Collection → List Commit → Collection → Type 0
Leads first [] last = last ≡ first
Leads first (commit ∷ commits) last =
    (last ≡ commit.after) × (commit.before.head.moment <ℤ commit.after.head.moment) × Leads first commits commit.before

-- what more events made of an account: newer commits, which lead from the collection that was committed before them to the one that is
-- committed after them
pub record CommitsGrow (old new : World) : Type 0 where
  pub newer : List Commit
  pub grown : new.commits ≡ newer ++ old.commits
  pub lead : Leads old.state.committed newer new.state.committed

-- each commit that was made since an earlier world is of this kind
abbrev pub EachNewer : (Commit → Type 0) → World → World → Type 0
EachNewer Fits old new = (newer : List Commit) → new.commits ≡ newer ++ old.commits → AllByRecursion Fits newer

-- a finish committed what came in its session, all of it in its ranges, and what it left is sound
pub record IsFinishOf (came : Received) (before after : Collection) : Type 0 where
  pub commits : IsCommitOf came before after
  pub in_range : IsInRange came before after.head.moment
  pub sound : IsSound (row_under after)

-- an upload replaced the committed collection by what came, all of it in its ranges
pub record IsReplacedBy (came : commits.Whole) (before after : Collection) : Type 0 where
  pub uploads : IsUploadOf came before after
  pub in_range : IsWholeInRange came after.head.schema after.head.moment

-- a commit is a finish of what came in a session, or an upload
abbrev pub IsMade : Commit → Type 0
IsMade commit =
    ((came : Received) × IsFinishOf came commit.before commit.after)
    ⊎ ((came : commits.Whole) × IsReplacedBy came commit.before commit.after)

-- what a serving that commits makes of the committed collection: a finish, what the requests of its session brought; an upload, what it
-- brings itself
pub record CommitsWhatCame (s : AccountState) (request : Request) (it : Served) : Type 0 where
  pub session : SessionState
  pub next : IsNext s session request
  pub finish : request.ask ≡ asks.Finish → IsFinishOf (all_brought (asks_of session.accepted)) s.committed it.next.committed
  pub upload : (whole : Whole) → request.ask ≡ asks.Upload whole → IsReplacedBy (whole_brought whole) s.committed it.next.committed

-- a sync of a device's collection with the one that was committed before: its finish committed the server's half of an exchange, and
-- nothing else was committed
pub record CommitsSync (who : Asker) (c : Collection) (old new : World) : Type 0 where
  pub half : IsServerHalf (given_by_sync c old.state.committed) (sent_by_sync c old.state.committed) c old.state.committed new.state.committed
  pub commits : new.commits
      ≡ record { key = who.session.0; before = old.state.committed; after = new.state.committed } ∷ old.commits

-- ---- schema moments
-- a commit leaves the schema moment, or gives one that is not that of a device's collection
abbrev pub HasFreshSchema : Collection → Commit → Type 0
HasFreshSchema c commit =
    (commit.after.head.schema ≡ commit.before.head.schema) ⊎ (c.head.schema ≢ commit.after.head.schema)
