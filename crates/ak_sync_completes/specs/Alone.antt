-- A sync to whose server nothing else comes.
use Rattle.std.specs.Prelude.{◌≡◌, true, Some}
use Rattle.ak_client.specs.Syncs.{MayBegin, world_at}
use Rattle.ak_client_wire.specs.Wires.{WireKind, WireState}
use Rattle.ak_exchange.specs.Asked.{asker}
use Rattle.ak_exchange.specs.Phases.{holding}
use Rattle.ak_exchange.specs.declared.envelopes.Ids.{Ids}
use Rattle.ak_keep.specs.Collections.{Collection}
use Rattle.ak_keep.specs.Keepers.{Keeping}
use Rattle.ak_merge.specs.Exchanges.{AreExchanged}
use Rattle.ak_protocol.specs.Accounts.{AccountState}
use Rattle.ak_protocol.specs.Commits.{EachNewer, HasFreshSchema}
use Rattle.ak_protocol.specs.Logs.{Log, World}

-- a sync with a device's c may begin over a wire that nothing else uses and that tells its log, which is this one after it; what is
-- committed meanwhile leaves the schema moment, or gives one that is not the device's
pub record BeginsAlone {kind : WireKind} (ids : Ids) (c : Collection) (account : AccountState) (old now : Log) (before : Keeping)
    (w0 w1 : WireState kind) : Type 0 where
  pub alone : w0.alone ≡ true
  pub holds : before ≡ holding c
  pub told : w0.log ≡ Some old
  pub told_now : w1.log ≡ Some now
  pub may : MayBegin (asker ids) c account old
  pub fresh : EachNewer (HasFreshSchema c) (world_at (asker ids) account old) (world_at (asker ids) account now)

-- the device holds the other half of the exchange of its c and what was committed before, with what is committed now: both hold the join of
-- the two
abbrev pub LeavesTheJoin : Collection → World → World → Keeping → Type 0
LeavesTheJoin c old now left =
    (device : Collection) × (left ≡ holding device) × AreExchanged c old.state.committed device now.state.committed
