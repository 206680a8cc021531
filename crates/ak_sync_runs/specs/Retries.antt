-- Two commands `sync` of a device in a row.
use Rattle.std.specs.Prelude.{◌≡◌, ◌⊎◌, ℕ, true, Some}
use Rattle.ak_base.specs.declared.keys.HostKey.{HostKey}
use Rattle.ak_client.specs.Syncs.{IsSyncFinished, MayBegin, world_at}
use Rattle.ak_client_wire.specs.Wires.{WireKind}
use Rattle.ak_exchange.specs.Asked.{asker}
use Rattle.ak_exchange.specs.Phases.{holding}
use Rattle.ak_exchange.specs.declared.envelopes.Ids.{Ids}
use Rattle.ak_io.specs.Arrivals.{GivesNext}
use Rattle.ak_keep.specs.Collections.{Collection}
use Rattle.ak_merge.specs.Holdings.{SameContent, content_of}
use Rattle.ak_merge.specs.Joins.{join}
use Rattle.ak_protocol.specs.Accounts.{AccountState}
use Rattle.ak_protocol.specs.Logs.{Log}
use Rattle.ak_protocol.specs.Syncs.{IsUnused}
use Rattle.ak_sync_runs.specs.SyncRuns.{SyncOutside, ids_of}

-- two syncs of c in these sessions, the second of which goes on where the first one ended: nobody changed the device between them, and nothing
-- at all came to the server, nor anything else during them
pub record AreInARow {kind : WireKind} (ids next : Ids) (c : Collection) (account : AccountState) (log between : Log)
    (before mid again : SyncOutside kind) : Type 0 where
  -- the device holds c before each, so the first one left it as it was
  pub holds : before.keeping ≡ holding c
  pub holds_still : again.keeping ≡ holding c
  -- each wire tells its log, to which nothing else adds
  pub told : before.wire.log ≡ Some log
  pub told_then : mid.wire.log ≡ Some between
  pub told_again : again.wire.log ≡ Some between
  pub alone : before.wire.alone ≡ true
  pub alone_again : again.wire.alone ≡ true
  -- the first may begin, with one schema moment on both sides, and nothing but metas has the second's session key
  pub may : MayBegin (asker ids) c account log
  pub schema : c.head.schema ≡ (world_at (asker ids) account log).state.committed.head.schema
  pub unused : IsUnused next.host.digits next.session.0 account between

-- the second one has finished, over what the first one left on the server: what it committed is what is committed now. Device and server hold
-- the join of c and what was committed before the first one
abbrev pub HasHealed : {kind : WireKind} → Ids → Ids → Collection → AccountState → Log → Log → SyncOutside kind → Log → Type 0
HasHealed ids next c account log between after now = let s = (world_at (asker ids) account log).state.committed in
    (it : IsSyncFinished (asker next) c (world_at (asker next) account between).state.committed account now after.keeping)
    × (it.after ≡ (world_at (asker next) account now).state.committed)
    × SameContent (content_of it.device) (join c s) × SameContent (content_of it.after) (join c s)

-- so it is of any two in a row
abbrev pub Heals : {kind : WireKind} → Ids → Ids → SyncOutside kind → SyncOutside kind → SyncOutside kind → SyncOutside kind → Type 0
Heals ids next before mid again after = (c : Collection) (account : AccountState) (log between : Log)
    → AreInARow ids next c account log between before mid again
    → (now : Log) × (after.wire.log ≡ Some now) × HasHealed ids next c account log between after now

-- the same of the two sessions whose keys were the next words of chance; or the first one asked nothing
abbrev pub HealsNext : {kind : WireKind} → HostKey → SyncOutside kind → SyncOutside kind → SyncOutside kind → SyncOutside kind → Type 0
HealsNext host before mid again after = (mid ≡ before)
    ⊎ ((word : ℕ) × (next : ℕ) × GivesNext before.words mid.words word × GivesNext again.words after.words next
    × Heals (ids_of host word) (ids_of host next) before mid again after)
