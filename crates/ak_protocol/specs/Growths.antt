-- What comes to an account while a call is under way.
use Rattle.std.specs.Prelude.{◌≡◌, ℕ, List, ◌++◌}
use Rattle.ak_keep.specs.Collections.{Collection}
use Rattle.ak_messages.specs.declared.requests.Request.{Request}
use Rattle.ak_protocol.specs.Accounts.{AccountState}
use Rattle.ak_protocol.specs.Commits.{EachNewer, HasFreshSchema}
use Rattle.ak_protocol.specs.LawfulServers.{IsLawfulAccount}
use Rattle.ak_protocol.specs.Logs.{Event, World, Log, IsGrowth, with_growth}
use Rattle.ak_protocol.specs.Syncs.{world_of}

-- a call with this request, over the account of a host key that was opened so and is lawful after the log: what comes while the call is
-- under way
pub record CallGrowth : Type 0 where
  pub host : List ℕ
  pub account : AccountState
  pub old : Log
  pub request : Request
  pub growth : List Event
  pub may : IsGrowth old request growth
  pub lawful : IsLawfulAccount (world_of host account old).state

-- the world of the account before the call
abbrev pub world_before : CallGrowth → World
world_before call = world_of call.host call.account call.old

-- its world once these events came
abbrev pub world_amid : CallGrowth → List Event → World
world_amid call front = world_of call.host call.account (with_growth call.old front)

-- these events are the first of what comes
abbrev pub ComesFirst : List Event → CallGrowth → Type 0
ComesFirst front call = (rest : List Event) × (front ++ rest ≡ call.growth)

-- each commit of what comes leaves the schema moment, or gives one that is not that of a device's collection
abbrev pub GrowsFresh : Collection → CallGrowth → Type 0
GrowsFresh c call = EachNewer (HasFreshSchema c) (world_before call) (world_amid call call.growth)
