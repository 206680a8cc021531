-- The requests of a server's log, and how they are served again.
use Rattle.std.specs.Prelude.{◌≡◌, ◌⊎◌, ◌+◌, ℕ, ℤ, List, [], ◌∷◌, ◌++◌, drop, length, take, Ok, Err}
use Rattle.ak_base.specs.declared.errors.Memory.{Memory}
use Rattle.ak_io.specs.Arrivals.{IsClockMoment}
use Rattle.ak_messages.specs.declared.replies.Reply.{Reply}
use Rattle.ak_messages.specs.declared.requests.Request.{Request}
use Rattle.ak_sync_in_memory.specs.Betweens.{ActEnd}
use Rattle.ak_sync_in_memory.specs.Entries.{LoggedState}
use Rattle.ak_sync_in_memory.specs.LoggedServers.{IsServed}
use Rattle.ak_sync_in_memory.specs.declared.logs.Entry.{Entry}
use Rattle.ak_sync_in_memory.specs.declared.logs.Logged.{Logged}
use Rattle.ak_sync_in_memory.specs.declared.logs.Logged.TheVariants as logged

-- ---- the requests of a log
-- the request that came, before these. A view is none
abbrev pub with_served : Logged → List Request → List Request
with_served (logged.Served request now trouble) requests = request ∷ requests
with_served logged.Viewed requests = requests

-- the requests that a server served, in their order: what lines count, from 0
abbrev pub requests_in : List Entry → List Request
requests_in [] = []
requests_in (entry ∷ entries) = with_served entry.what (requests_in entries)

-- so many of these, from the one of a number on
abbrev pub named_from : ℕ → ℕ → List Request → List Request
named_from from count requests = take count (drop from requests)

-- a server's log has all of so many requests, from the one of a number on
abbrev pub HasRequests : ℕ → ℕ → LoggedState → Type 0
HasRequests from count server = length (named_from from count (requests_in server.entries)) ≡ count

-- the first number, from this one on, that it lacks
abbrev pub first_lacking : ℕ → ℕ → LoggedState → ℕ
first_lacking from count server = from + length (named_from from count (requests_in server.entries))

-- ---- served again
-- a logged server with this line
abbrev pub with_line : ℕ → LoggedState → LoggedState
with_line line s = record s { line = line }

-- these requests were served one after the other at this moment, and so answered
abbrev pub AreServed : List Request → ℤ → LoggedState → LoggedState → List Reply → Type 0
AreServed [] at old new replies = (new ≡ old) × (replies ≡ [])
AreServed (request ∷ requests) at old new [] = ⊥
AreServed (request ∷ requests) at old new (reply ∷ replies) =
    (mid : LoggedState) × IsServed old mid request at reply × AreServed requests at mid new replies

-- these requests were served so, or a front of them, if memory ran out
pub record ServesFront (requests : List Request) (at : ℤ) (old new : LoggedState) (came : ActEnd) : Type 0 where
  pub served : List Request
  pub left : List Request
  pub parts : requests ≡ served ++ left
  pub replies : List Reply
  pub serves : AreServed served at old new replies
  pub whole : came ≡ Ok tt → left ≡ []

-- requests of the log were served again, so many from the one of a number on, and written down with a line. The line that was set is set then too
pub record ServesNamed (from count line : ℕ) (at : ℤ) (old new : LoggedState) (came : ActEnd) : Type 0 where
  pub clock : IsClockMoment at
  pub reached : LoggedState
  pub front : ServesFront (named_from from count (requests_in old.entries)) at (with_line line old) reached came
  pub back : new ≡ with_line old.line reached

-- nothing came, because memory was out for it
abbrev pub ComesToNothing : LoggedState → LoggedState → ActEnd → Type 0
ComesToNothing old new came = (new ≡ old) × (end : Memory) × (came ≡ Err end)

-- the same, or memory was out for their copies
abbrev pub ServesAgain : ℕ → ℕ → ℕ → ℤ → LoggedState → LoggedState → ActEnd → Type 0
ServesAgain from count line at old new came =
    ComesToNothing old new came ⊎ ServesNamed from count line at old new came
