-- When nothing stops an upload, a download or the greeting of a sync, and how it ends then.
use Rattle.std.specs.List.{AllByRecursion}
use Rattle.std.specs.Prelude.{◌≡◌, ◌⊎◌, ◌<ℤ◌, ℕ, ℤ, true, List, ◌∷◌, Some}
use Rattle.ak_base.specs.Limits.{last_moment}
use Rattle.ak_base.specs.declared.keys.HostKey.{HostKey}
use Rattle.ak_client.specs.Syncs.{world_at}
use Rattle.ak_client.specs.declared.outcomes.Outcome.{Outcome}
use Rattle.ak_client.specs.declared.outcomes.Outcome.TheVariants as outcomes
use Rattle.ak_client_wire.specs.Wires.{WireKind}
use Rattle.ak_exchange.specs.Asked.{asker}
use Rattle.ak_exchange.specs.Phases.{held_by, holding}
use Rattle.ak_exchange.specs.declared.envelopes.Ids.{Ids}
use Rattle.ak_faults.specs.Causes.{Health, Rose}
use Rattle.ak_keep.specs.Collections.{Collection, IsWellFormed}
use Rattle.ak_messages.specs.declared.replies.Word.{Word}
use Rattle.ak_protocol.specs.Accounts.{AccountState}
use Rattle.ak_protocol.specs.Logs.{Event, Log, with_growth}
use Rattle.ak_sync_completes.specs.Completing.{HasNoKeeperFault, IsMetaNear, RanOutOfMemory, SyncEnds}
use Rattle.ak_sync_completes.specs.Runs.{ends_of}
use Rattle.ak_sync_runs.specs.SyncRuns.{HasStatusCause, SyncOutside, ids_of}
use Rattle.ak_transfers.specs.Transfers.{MayTransfer}

-- ---- when nothing stops it
-- a session of a device, whose keeper holds c, over a wire that nothing else uses and that tells its log, which is this one after it. Its host key is a
-- lawful account's and its key unused, the clocks agree, no keeper fails, and each answer can be read
pub record IsLeftAlone {kind : WireKind} (ids : Ids) (c : Collection) (account : AccountState) (before after : SyncEnds kind) : Type 0 where
  pub old : Log
  pub now : Log
  pub alone : before.wire.alone ≡ true
  pub holds : before.keeping ≡ holding c
  pub formed : IsWellFormed (held_by c)
  pub told : before.wire.log ≡ Some old
  pub told_now : after.wire.log ≡ Some now
  pub may : MayTransfer (asker ids) account old
  -- what came to the server meanwhile
  pub growth : List Event
  pub grown : now ≡ with_growth old growth
  -- the device's clock tells its next moment, and the server's clock was near it at the meta
  pub at : ℤ
  pub later : List ℤ
  pub clock : before.moments ≡ Some (at ∷ later)
  pub near : AllByRecursion (IsMetaNear at) growth
  -- neither keeper fails
  pub server : AllByRecursion HasNoKeeperFault growth
  pub keeper : Rose before.keeper after.keeper → ⊥
  -- each answer that comes can be read
  pub reading : Rose before.wire.reading after.wire.reading → ⊥

-- what the server had committed before it
abbrev pub committed_before : Ids → AccountState → Log → Collection
committed_before ids account old = (world_at (asker ids) account old).state.committed

-- no moment and no schema moment of the two is the last one
pub record HaveMomentsLeft (c s : Collection) : Type 0 where
  pub moment : c.head.moment <ℤ last_moment
  pub schema : c.head.schema <ℤ last_moment
  pub their_moment : s.head.moment <ℤ last_moment
  pub their_schema : s.head.schema <ℤ last_moment

-- a command ran such a session and ended with this status. Chance told its key, the output did not fail, and each status of a failed end has its cause
pub record RunsAlone {kind : WireKind} (host : HostKey) (c : Collection) (account : AccountState) (status : ℕ) (before after : SyncOutside kind) : Type 0 where
  -- how many calls of the keeper and of the output failed before it and after it
  pub keeper_before : Health
  pub keeper_now : Health
  pub out_before : Health
  pub out_now : Health
  pub keeper : HasStatusCause 6 keeper_before keeper_now status
  pub out : HasStatusCause 5 out_before out_now status
  pub wire : HasStatusCause 7 before.health after.health status
  pub word : ℕ
  pub words : List ℕ
  pub chance : before.words ≡ Some (word ∷ words)
  pub session : IsLeftAlone (ids_of host word) c account (ends_of keeper_before before) (ends_of keeper_now after)
  pub written : Rose out_before out_now → ⊥

-- ---- how it ends
-- a session to whose server these came ended so; or memory ran out: the device's, or the server's, which refuses then
abbrev pub EndsWith : Outcome → List Event → Outcome → Type 0
EndsWith wanted growth outcome = (outcome ≡ wanted) ⊎ (outcome ≡ outcomes.Memory)
    ⊎ (status : ℕ) × (word : Word) × (seen : ℤ) × (outcome ≡ outcomes.Refused status word seen) × RanOutOfMemory growth
