-- A sync whose keeper and wire tell what they hold, whatever else comes to the server.
use Rattle.std.specs.Prelude.{◌≡◌, Some}
use Rattle.ak_client.specs.Syncs.{IsSyncEnded, MayBegin, Synced, world_at}
use Rattle.ak_client.specs.declared.outcomes.Outcome.{Outcome}
use Rattle.ak_client_wire.specs.Wires.{WireKind}
use Rattle.ak_exchange.specs.Asked.{asker, asks_in}
use Rattle.ak_exchange.specs.Phases.{held_by, holding}
use Rattle.ak_exchange.specs.declared.envelopes.Ids.{Ids}
use Rattle.ak_keep.specs.Collections.{Collection, IsWellFormed}
use Rattle.ak_protocol.specs.Accounts.{AccountState}
use Rattle.ak_protocol.specs.Commits.{EachNewer, HasFreshSchema}
use Rattle.ak_protocol.specs.Logs.{Log}
use Rattle.ak_sync_completes.specs.Completing.{SyncEnds}

-- a sync of a device's c, which its keeper tells, ended so. It might begin over the log that its wire told: an account has its host key and is
-- lawful, nothing but metas has its session key so far, and the device is linked. No upload meanwhile gave just the device's schema moment. Others
-- may use the server too
pub record IsSyncTold {kind : WireKind} (ids : Ids) (c : Collection) (account : AccountState) (before after : SyncEnds kind) (outcome : Outcome) : Type 0 where
  pub old : Log
  pub now : Log
  pub told : before.wire.log ≡ Some old
  pub told_now : after.wire.log ≡ Some now
  -- the keeper tells c, which is one that a keeper may hold
  pub holds : before.keeping ≡ holding c
  pub formed : IsWellFormed (held_by c)
  pub may : MayBegin (asker ids) c account old
  pub fresh : EachNewer (HasFreshSchema c) (world_at (asker ids) account old) (world_at (asker ids) account now)
  -- what is promised of it, and what that makes of this log: this follows from the others, and stands here to name the collection at its meta
  pub ended : IsSyncEnded ids before.keeping after.keeping before.health after.health before.wire after.wire before.moments outcome
  pub synced : Synced (asker ids) ended.sync.asked.moment (asks_in ended.sync.asked.tries) c account old now after.keeping outcome
