-- A sync's session, whatever else comes to the account.
use Rattle.std.specs.List.{AllByRecursion}
use Rattle.std.specs.Prelude.{◌≡◌, ◌≢◌, ℕ, ℤ, ◌+◌, true, false, List, [], ◌∷◌, ◌++◌, length, Some, None, IfSome, ⊤, ◌⊎◌}
use Rattle.ak_keep.specs.Collections.{Collection}
use Rattle.ak_messages.specs.declared.replies.Reply.{Reply}
use Rattle.ak_messages.specs.declared.requests.Request.{Request}
use Rattle.ak_protocol.specs.Accounts.{SessionState}
use Rattle.ak_session.specs.Contents.{refusal, answer, closed}
use Rattle.ak_protocol.specs.Logs.{Event, View, Asked, Commit, World, IsAgain, world_after, commits_of}
use Rattle.ak_protocol.specs.Replies.{granted, download_reply}
use Rattle.ak_session.specs.Requests.{is_meta, is_download, asks_commit}
use Rattle.ak_protocol.specs.Serving.{commit_reply}

-- a request is one of those that a sync asks after its meta, in this order: its step is its place, and its base is this moment
pub record IsAsked (plan : List Request) (base : ℤ) (request : Request) : Type 0 where
  pub before : List Request
  pub after : List Request
  pub place : before ++ request ∷ after ≡ plan
  pub step : request.step ≡ length before + 1
  pub base_is : request.base ≡ base

-- what comes to an account bears another session key, or it is a request of this kind
abbrev pub IsOtherOr : ℕ → (Request → Type 0) → Event → Type 0
IsOtherOr key kind (View host) = ⊤
IsOtherOr key kind (Asked request now setback) = request.session.0 ≡ key → kind request

-- a request of a sync: its meta, or one that it asks after it
abbrev pub IsOfSync : List Request → ℤ → Request → Type 0
IsOfSync plan base request = (is_meta request.ask ≡ true) ⊎ IsAsked plan base request

-- what comes to the account bears another session key, or it is of the sync of this key
abbrev pub IsOwnOrOther : ℕ → List Request → ℤ → Event → Type 0
IsOwnOrOther key plan base = IsOtherOr key (IsOfSync plan base)

-- what comes to the account bears another session key, or it is a meta
abbrev pub IsMetaOrOther : ℕ → Event → Type 0
IsMetaOrOther key = IsOtherOr key (λ request. is_meta request.ask ≡ true)

-- no request with this session key has come, but for metas: its session, if it is live, has accepted nothing, no reply to it is kept,
-- and it committed nothing
pub record IsFresh (key : ℕ) (w : World) : Type 0 where
  pub live : IfSome w.state.live (λ session. session.key ≡ key → session.accepted ≡ [])
  pub kept : IfSome w.state.kept (λ kept. kept.key ≢ key)
  pub commits : commits_of key w.commits ≡ []

-- a sync with this key comes to an account: nothing but metas has its key before the place at which its meta is answered, and nothing but
-- its own requests, over what is committed there, has it after that place
pub record SyncComes (key : ℕ) (plan : List Request) (w : World) (first later : List Event) : Type 0 where
  pub fresh : IsFresh key w
  pub metas : AllByRecursion (IsMetaOrOther key) first
  pub own : AllByRecursion (IsOwnOrOther key plan (world_after w first).state.committed.head.moment) later

-- the live session, if it is this sync's, has accepted a front of what this sync asked, in order and each once, and if it accepted
-- anything the committed collection is the one that was committed at its meta
pub record IsFront (plan : List Request) (base committed : Collection) (session : SessionState) : Type 0 where
  pub after : List Request
  pub front : session.accepted ++ after ≡ plan
  pub same : (session.accepted ≡ []) ⊎ (committed ≡ base)

-- the one commit of a session: a request of its sync made, of the collection that was committed at its meta, what that request and those
-- asked before it make of it, and its session had no reason to refuse it
pub record IsOnlyCommit (key : ℕ) (plan : List Request) (base : Collection) (past : List Commit) : Type 0 where
  pub request : Request
  pub asked : IsAsked plan base.head.moment request
  pub commits : asks_commit request.ask ≡ true
  pub allowed : refusal base asked.before request ≡ None
  pub now : ℤ
  pub only : commits_of key past ≡ record { key = key; before = base; after = closed base asked.before request now } ∷ []

-- what a server holds of a sync with this key, whose meta was answered over this collection
pub record HoldsSync (key : ℕ) (plan : List Request) (base : Collection) (w : World) : Type 0 where
  pub live : IfSome w.state.live (λ session. session.key ≡ key → IsFront plan base w.state.committed session)
  pub once : (commits_of key w.commits ≡ []) ⊎ IsOnlyCommit key plan base w.commits

-- what a reply that grants a request tells its sync, where this collection is committed and these commits were made
pub record Tells (key : ℕ) (plan : List Request) (base : Collection) (request : Request) (asked : IsAsked plan base.head.moment request)
    (committed : Collection) (past : List Commit) (reply : Reply) : Type 0 where
  -- of a download: the committed collection
  pub reads : is_download request.ask ≡ true → reply ≡ download_reply committed
  -- of a finish or an upload: that it committed, once, what it and those asked before it make of the collection of the meta
  pub commits : asks_commit request.ask ≡ true → (now : ℤ)
      × (reply ≡ commit_reply request.ask (closed base asked.before request now).head)
      × (commits_of key past ≡ record { key = key; before = base; after = closed base asked.before request now } ∷ [])
  -- of any other: the answer over the collection of the meta, after those asked before it
  pub answers : asks_commit request.ask ≡ false → is_download request.ask ≡ false → reply ≡ granted (answer base asked.before request)
  -- of each: that its session, after those asked before it, had no reason to refuse it
  pub allowed : refusal base asked.before request ≡ None

-- these requests came one after the other, and nothing else did: each at some moment without a setback, once or several times in a row
abbrev pub AreUndisturbed : List Request → List Event → Type 0
AreUndisturbed [] [] = ⊤
AreUndisturbed [] (event ∷ events) = ⊥
AreUndisturbed (request ∷ requests) [] = ⊥
AreUndisturbed (request ∷ requests) (View host ∷ events) = ⊥
AreUndisturbed (request ∷ requests) (Asked other now setback ∷ events) =
    IsAgain request (Asked other now setback) × (AreUndisturbed requests events ⊎ AreUndisturbed (request ∷ requests) events)

-- a session accepted these requests too, and nothing was committed
pub record HasAcceptedMore (session : SessionState) (requests : List Request) (old new : World) : Type 0 where
  pub live : new.state.live ≡ Some (record session { accepted = session.accepted ++ requests })
  pub committed : new.state.committed ≡ old.state.committed
  pub commits : new.commits ≡ old.commits
