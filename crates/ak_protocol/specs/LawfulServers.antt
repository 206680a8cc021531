-- What a server may hold of its accounts.
use Rattle.std.specs.List.{AllByRecursion}
use Rattle.std.specs.Prelude.{◌≡◌, ℕ, List, IfSome}
use Rattle.ak_merge.specs.Commits.{IsCommitted}
use Rattle.ak_protocol.specs.Accounts.{AccountState}
use Rattle.ak_protocol.specs.Kept.{HasLawfulReply, HasPastReply}
use Rattle.ak_protocol.specs.Lawful.{HasLawfulSession}
use Rattle.ak_protocol.specs.Servers.{ServerState}

-- an account is lawful: its committed collection is one that a server may hold, the list of its live session is one that a session over
-- that collection accepts, and its kept reply grants what was asked
pub record IsLawfulAccount (s : AccountState) : Type 0 where
  pub committed : IsCommitted s.committed
  pub session : HasLawfulSession s
  pub reply : HasLawfulReply s

-- the live session of an account accepted requests with this host key alone
abbrev pub HasOwnRequests : List ℕ → AccountState → Type 0
HasOwnRequests host s = IfSome s.live (λ session. AllByRecursion (λ request. request.host.digits ≡ host) session.accepted)

-- what a server may hold under a host key: a lawful account, whose session accepted nothing of another host key, and whose kept reply is
-- of a step that its session has had
pub record IsLawfulUnder (host : List ℕ) (s : AccountState) : Type 0 where
  pub account : IsLawfulAccount s
  pub own : HasOwnRequests host s
  pub past : HasPastReply s

-- a server is lawful if it may hold what it has under each host key
abbrev pub IsLawful : ServerState → Type 0
IsLawful server = (host : List ℕ) → IfSome (server host) (IsLawfulUnder host)
