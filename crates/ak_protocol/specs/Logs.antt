-- What came to a server, one thing after the other, and what it made of it.
use Rattle.std.specs.List.{AllByRecursion}
use Rattle.std.specs.Prelude.{◌≡◌, ℕ, ℤ, ◌==◌, if◌then◌else◌, List, [], ◌∷◌, ◌++◌, filter, ⊤, ◌⊎◌, Result, IfOk}
use Rattle.ak_io.specs.Arrivals.{IsClockMoment}
use Rattle.ak_keep.specs.Collections.{Collection}
use Rattle.ak_messages.specs.declared.replies.Reply.{Reply}
use Rattle.ak_messages.specs.declared.requests.Request.{Request}
use Rattle.ak_protocol.specs.Accounts.{AccountState, viewed}
use Rattle.ak_protocol.specs.Servers.{ServerState, same_host, server_served, by_view}
use Rattle.ak_protocol.specs.Serving.{Setback, Undisturbed, Served, served}

-- what comes to a server
pub data Event : Type 0 where
  -- the account of this host key is viewed
  View : (host : List ℕ) → Event
  -- a request is served at this moment, with this setback
  Asked : (request : Request) → (now : ℤ) → (setback : Setback) → Event

-- ---- a server
-- the server after one event
abbrev pub server_next : ServerState → Event → ServerState
server_next server (View host) = by_view (server host) host server
server_next server (Asked request now setback) = (server_served server request now setback).next

-- the server after these events, the first of them first
abbrev pub server_after : ServerState → List Event → ServerState
server_after server [] = server
server_after server (event ∷ events) = server_after (server_next server event) events

-- ---- one account
-- a place at which another collection was committed: by which session, and the collection before and after it
pub record Commit : Type 0 where
  pub key : ℕ
  pub before : Collection
  pub after : Collection

-- an account, and the commits that led to it, the latest first
pub record World : Type 0 where
  pub state : AccountState
  pub commits : List Commit

-- an account without commits
abbrev pub opened : AccountState → World
opened s = record { state = s; commits = [] }

-- the place at which a serving commits
abbrev pub commit_by : Request → AccountState → Served → Commit
commit_by request s it = record { key = request.session.0; before = s.committed; after = it.next.committed }

-- the commits, with that of a serving if it committed
abbrev pub with_commit : Request → AccountState → Served → List Commit → List Commit
with_commit request s it commits = if it.is_commit then commit_by request s it ∷ commits else commits

-- the world after a serving
abbrev pub world_served : World → Request → Served → World
world_served w request it = record { state = it.next; commits = with_commit request w.state it w.commits }

-- the world of an account after an event of this account
abbrev pub world_next : World → Event → World
world_next w (View host) = record w { state = viewed w.state }
world_next w (Asked request now setback) = world_served w request (served w.state request now setback)

-- the world of an account after these events of this account, the first of them first
abbrev pub world_after : World → List Event → World
world_after w [] = w
world_after w (event ∷ events) = world_after (world_next w event) events

-- the commits of one session
abbrev pub commits_of : ℕ → List Commit → List Commit
commits_of key commits = filter (λ commit. commit.key == key) commits

-- the host key of the account that an event comes to
abbrev pub host_of : Event → List ℕ
host_of (View host) = host
host_of (Asked request now setback) = request.host.digits

-- the events that come to the account of this host key
abbrev pub events_of : List ℕ → List Event → List Event
events_of host events = filter (λ event. same_host host (host_of event)) events

-- ---- a wire
-- what a wire leads to: a server as it was opened, and what came to it since
pub record Log : Type 0 where
  pub opening : ServerState
  pub events : List Event

-- the log once these events came too
abbrev pub with_growth : Log → List Event → Log
with_growth log growth = record { opening = log.opening; events = log.events ++ growth }

-- whether a request is among these events
abbrev pub HasAsked : List Event → Request → Type 0
HasAsked [] request = ⊥
HasAsked (View host ∷ events) request = HasAsked events request
HasAsked (Asked other now setback ∷ events) request = (other ≡ request) ⊎ HasAsked events request

-- an event is this request, at some moment and without a setback
abbrev pub IsAgain : Request → Event → Type 0
IsAgain request (View host) = ⊥
IsAgain request (Asked other now setback) = (other ≡ request) × (setback ≡ Undisturbed)

-- an event at a moment that a clock may tell, in milliseconds
abbrev pub IsTimely : Event → Type 0
IsTimely (View host) = ⊤
IsTimely (Asked request now setback) = IsClockMoment now

-- what may come while a request is under way, after these events: any view, and at a moment that a clock may tell any request of another
-- account or another session, this request, and any that came before
abbrev pub MayCome : List Event → Request → Event → Type 0
MayCome past request (View host) = ⊤
MayCome past request (Asked other now setback) =
    IsTimely (Asked other now setback)
    × (other.host.digits ≡ request.host.digits → other.session.0 ≡ request.session.0 → (other ≡ request) ⊎ HasAsked past other)

-- this may come after the log while the request is under way
abbrev pub IsGrowth : Log → Request → List Event → Type 0
IsGrowth log request growth = AllByRecursion (MayCome log.events request) growth

-- the reply to a request at one place of what came while it was under way
pub record IsReplyIn (old : Log) (growth : List Event) (request : Request) (reply : Reply) : Type 0 where
  pub before : List Event
  pub after : List Event
  pub now : ℤ
  pub setback : Setback
  pub place : before ++ Asked request now setback ∷ after ≡ growth
  pub is : (server_served (server_after old.opening (old.events ++ before)) request now setback).reply ≡ reply

-- what a call of a wire with a request makes of the log: it grows by what may come, and the reply, if there is one, is that at one
-- place of the growth
pub record Grows {E : Type 0} (old new : Log) (request : Request) (result : Result Reply E) : Type 0 where
  pub growth : List Event
  pub grown : new ≡ with_growth old growth
  pub may : IsGrowth old request growth
  pub reply : IfOk result (IsReplyIn old growth request)
