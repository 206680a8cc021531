-- What came of a collection that was made of a seed: the day of work on a device, its sync, and what the server holds then.
use Rattle.std.specs.Prelude.{◌≡◌, ◌≢◌, ℕ, ℤ, pos, List, [], ◌∷◌, Some}
use Rattle.ak_call_counts.specs.CallCounts.{no_calls}
use Rattle.ak_client.specs.Syncs.{IsSyncEnded}
use Rattle.ak_client.specs.declared.outcomes.Outcome.TheVariants as outcomes
use Rattle.ak_client.specs.declared.outcomes.Outcome.{Outcome}
use Rattle.ak_exchange.specs.Phases.{holding}
use Rattle.ak_exchange.specs.declared.envelopes.Ids.{Ids}
use Rattle.ak_faults.specs.Causes.{Health}
use Rattle.ak_keep.specs.Collections.{Collection}
use Rattle.ak_keep.specs.Keepers.{Keeping}
use Rattle.ak_sync_in_memory.specs.Betweens.{always_idle, does_nothing}
use Rattle.ak_sync_in_memory.specs.Copies.{IsViewed}
use Rattle.ak_sync_in_memory.specs.Entries.{LoggedState, collection_in}
use Rattle.ak_sync_in_memory.specs.LoggedServers.{begins_with}
use Rattle.ak_sync_in_memory.specs.LoopWires.{LoopInside, health_over, inside_with, state_of_loop}
use Rattle.ak_sync_in_memory.specs.declared.betweens.NothingBetween.{NothingBetween}
use Rattle.ak_makes.specs.Days.{DoesDay}
use Rattle.ak_made_collections.specs.MadeCollections.{IsMade}
use Rattle.ak_makes.specs.MadeServers.{AreCountsOn, make_host}
use Rattle.ak_makes.specs.declared.measures.Measured.{Measured}
use Rattle.ak_merge.specs.Commits.{IsCopyOf}
use Rattle.ak_openings.specs.declared.whole_collections.Opening.{Opening}
use Rattle.ak_undo.specs.declared.steps.Step.{Step}

-- when the device syncs, by the clocks of both sides, in milliseconds
abbrev pub sync_moment : ℤ
sync_moment = pos 1_700_000_300_000

-- a device synced with the server in the first session, over a wire on which nothing is lost and nobody else speaks, in so many calls
pub record IsSynced (was now : Keeping) (old new : LoggedState) (calls : ℕ) (outcome : Outcome) : Type 0 where
  pub ids : Ids
  pub host : ids.host.digits ≡ make_host
  pub session : ids.session.0 ≡ 1
  -- it went as a sync goes, whatever keeper and wire it is over, and ended for the reason that the replies and the clock gave
  pub between : NothingBetween
  pub health : Health
  pub end : LoopInside NothingBetween
  pub ended : IsSyncEnded ids was now (health_over no_calls []) health
      (state_of_loop does_nothing always_idle (inside_with old between sync_moment [] no_calls)) (state_of_loop does_nothing always_idle end)
      (Some (sync_moment ∷ [])) outcome
  -- no request was lost
  pub unlost : outcome ≢ outcomes.Lost
  pub server : new ≡ end.server
  pub calls_are : calls ≡ end.counts.calls

-- what was measured of the collection of a seed, of so many notes
pub record IsMeasured (seed size : ℕ) (m : Measured) : Type 0 where
  -- a server was opened with the collection, and a device got a copy of it
  pub made : Opening
  pub is : IsMade seed size made
  pub viewed : LoggedState
  pub views : IsViewed (begins_with make_host made) viewed
  pub copy : Collection
  pub is_copy : IsCopyOf (collection_in made) copy
  -- the device did its day of work
  pub worked : Keeping
  pub steps : List Step
  pub day : DoesDay seed size (holding copy) worked [] steps
  -- and synced
  pub synced : Keeping
  pub server : LoggedState
  pub sync : IsSynced worked synced viewed server m.calls m.outcome
  -- these are the rows that the server holds then
  pub counts : AreCountsOn server m.counts
