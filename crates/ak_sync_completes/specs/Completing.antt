-- When nothing stops a sync, and how it ends then.
use Rattle.std.specs.List.{AllByRecursion}
use Rattle.std.specs.Ordering.{int_eq}
use Rattle.std.specs.Prelude.{◌≡◌, ◌≢◌, ◌⊎◌, ◌<◌, ◌&&◌, ℤ, Bool, true, false, not, List, [], ◌∷◌, length, Option, Some, ⊤}
use Rattle.ak_client.specs.Greetings.{are_far_apart}
use Rattle.ak_client.specs.Outcomes.{HasOutcomeCause}
use Rattle.ak_client.specs.Syncs.{IsSyncEnded, MayBegin, world_at}
use Rattle.ak_client.specs.Unsent.{has_unsent}
use Rattle.ak_client.specs.declared.outcomes.Outcome.{Outcome}
use Rattle.ak_client.specs.declared.outcomes.Outcome.TheVariants as outcomes
use Rattle.ak_client_wire.specs.Wires.{WireKind, WireState}
use Rattle.ak_exchange.specs.Asked.{asker}
use Rattle.ak_exchange.specs.Phases.{held_by, holding}
use Rattle.ak_exchange.specs.declared.envelopes.Ids.{Ids}
use Rattle.ak_faults.specs.Causes.{Health, Rose}
use Rattle.ak_keep.specs.Collections.{Collection, IsWellFormed}
use Rattle.ak_keep.specs.Keepers.{Keeping}
use Rattle.ak_keep.specs.declared.keepers.Wanted.TheVariants.{From, Unsent}
use Rattle.ak_merge.specs.Edits.{second_of}
use Rattle.ak_merge.specs.Holdings.{row_under}
use Rattle.ak_merge.specs.Joins.{joined_under}
use Rattle.ak_merge.specs.Soundness.{IsSound}
use Rattle.ak_protocol.specs.Accounts.{AccountState}
use Rattle.ak_protocol.specs.Logs.{Event, View, Asked, Log, with_growth}
use Rattle.ak_protocol.specs.Serving.{KeeperFault, OutOfMemory}
use Rattle.ak_session.specs.Requests.{is_meta}
use Rattle.ak_session.specs.Sessions.{HaveRoom}
use Rattle.ak_session.specs.Slices.{wanted_in_chunks}

-- ---- a sync and its ends to the outside
-- what is known of a sync's keeper, its wire and its clock
pub record SyncEnds (kind : WireKind) : Type 0 where
  -- what the keeper holds, and how many of its calls failed
  pub keeping : Keeping
  pub keeper : Health
  -- how many calls of the wire failed, and what else is known of it
  pub health : Health
  pub wire : WireState kind
  -- the moments that the clock has still to give
  pub moments : Option (List ℤ)

-- what is promised of a sync that went from the one to the other and ended so: what it did and why it ended; and that a keeper's fault, and a
-- lost request, come only if the keeper, or the wire, counted faults
pub record IsSyncOver {kind : WireKind} (ids : Ids) (before after : SyncEnds kind) (outcome : Outcome) : Type 0 where
  pub ended : IsSyncEnded ids before.keeping after.keeping before.health after.health before.wire after.wire before.moments outcome
  pub kept : HasOutcomeCause outcomes.Keep before.keeper after.keeper outcome
  pub lost : HasOutcomeCause outcomes.Lost before.health after.health outcome

-- ---- when nothing stops it
-- a device's collection c and a server's s have equal moments, schema moments and usns, and the device has nothing to send
abbrev pub have_nothing_to_sync : Collection → Collection → Bool
have_nothing_to_sync c s =
    (int_eq c.head.moment s.head.moment && int_eq c.head.schema s.head.schema && int_eq c.head.usn s.head.usn)
    && not (has_unsent c.rows c.head.tags)

-- a device's collection c and a committed one s that two sides may join by their rows
pub record AreJoinable (c s : Collection) : Type 0 where
  -- c is one that a keeper may hold
  pub formed : IsWellFormed (held_by c)
  -- they have one schema moment, and there is something to sync
  pub schema : c.head.schema ≡ s.head.schema
  pub differ : have_nothing_to_sync c s ≡ false
  -- neither moment is the last one, and neither is the server's usn
  pub room : HaveRoom c s
  -- the device is sound, and so is what both make
  pub sound : IsSound (row_under c)
  pub joins : IsSound (joined_under (row_under c) (row_under s))
  -- fewer than 10,000,000 rows go in chunks each way
  pub pulled : length (wanted_in_chunks (From c.head.usn) s.rows) < 10_000_000
  pub pushed : length (wanted_in_chunks Unsent c.rows) < 10_000_000

-- a sync with a device's c may begin over a wire that nothing else uses and that tells its log, which is this one after it. The keeper holds c
pub record MayBeginAlone {kind : WireKind} (ids : Ids) (c : Collection) (account : AccountState) (old now : Log) (keeping : Keeping)
    (w0 w1 : WireState kind) : Type 0 where
  pub alone : w0.alone ≡ true
  pub holds : keeping ≡ holding c
  pub told : w0.log ≡ Some old
  pub told_now : w1.log ≡ Some now
  pub may : MayBegin (asker ids) c account old

-- a meta, if this is one, was served at most 300 seconds from this moment
abbrev pub IsMetaNear : ℤ → Event → Type 0
IsMetaNear at (View host) = ⊤
IsMetaNear at (Asked request now setback) = is_meta request.ask ≡ true → are_far_apart (second_of at) (second_of now) ≡ false

-- a request met no fault of the server's keeper
abbrev pub HasNoKeeperFault : Event → Type 0
HasNoKeeperFault (View host) = ⊤
HasNoKeeperFault (Asked request now setback) = setback ≢ KeeperFault

-- nothing stops a sync of the device's c: it may begin and nothing else comes to the server, the two collections may be joined, the clocks agree, no
-- keeper fails, and each answer can be read
pub record IsUnhindered {kind : WireKind} (ids : Ids) (c : Collection) (account : AccountState) (before after : SyncEnds kind) : Type 0 where
  pub old : Log
  pub now : Log
  pub begins : MayBeginAlone ids c account old now before.keeping before.wire after.wire
  pub joinable : AreJoinable c (world_at (asker ids) account old).state.committed
  -- what came to the server meanwhile
  pub growth : List Event
  pub grown : now ≡ with_growth old growth
  -- the device's clock tells its next moment, and the server's clock was near it at the meta
  pub at : ℤ
  pub later : List ℤ
  pub clock : before.moments ≡ Some (at ∷ later)
  pub near : AllByRecursion (IsMetaNear at) growth
  -- neither keeper fails
  pub server : AllByRecursion HasNoKeeperFault growth
  pub keeper : Rose before.keeper after.keeper → ⊥
  -- each answer that comes can be read
  pub reading : Rose before.wire.reading after.wire.reading → ⊥

-- ---- how it ends
-- memory ran out at the server when one of these came
abbrev pub RanOutOfMemory : List Event → Type 0
RanOutOfMemory [] = ⊥
RanOutOfMemory (View host ∷ events) = RanOutOfMemory events
RanOutOfMemory (Asked request now setback ∷ events) = (setback ≡ OutOfMemory) ⊎ RanOutOfMemory events

-- a sync to whose server these came is finished; or memory ran out: the device's, or the server's, which refuses then
abbrev pub EndsWell : List Event → Outcome → Type 0
EndsWell growth outcomes.Finished = ⊤
EndsWell growth outcomes.NoChanges = ⊥
EndsWell growth (outcomes.FullSchema device server) = ⊥
EndsWell growth (outcomes.FullSequence usn) = ⊥
EndsWell growth (outcomes.BadRow fault) = ⊥
EndsWell growth (outcomes.BadCounts client server) = ⊥
EndsWell growth (outcomes.ClockOff device server) = ⊥
EndsWell growth (outcomes.OwnCheck fault) = ⊥
EndsWell growth outcomes.Stopped = ⊥
EndsWell growth (outcomes.Refused status word seen) = RanOutOfMemory growth
EndsWell growth outcomes.Lost = ⊥
EndsWell growth outcomes.BadReply = ⊥
EndsWell growth outcomes.TooManyChunks = ⊥
EndsWell growth outcomes.Keep = ⊥
EndsWell growth outcomes.Memory = ⊤
