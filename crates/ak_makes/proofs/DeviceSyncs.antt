-- A sync over a wire in memory that was made with the server, and handed it back.
use Rattle.std.proofs.Common.{◌≡◌, ℕ, ℤ, List, [], ◌∷◌, Some, ap}
use Rattle.ak_call_counts.specs.CallCounts.{no_calls}
use Rattle.ak_call_counts.specs.declared.call_counts.CallCounts.{CallCounts}
use Rattle.ak_client.specs.Outcomes.{HasOutcomeCause}
use Rattle.ak_client.specs.Syncs.{IsSyncEnded}
use Rattle.ak_client.specs.declared.outcomes.Outcome.TheVariants as outcomes
use Rattle.ak_client.specs.declared.outcomes.Outcome.{Outcome}
use Rattle.ak_exchange.specs.declared.envelopes.Ids.{Ids}
use Rattle.ak_keep.specs.Keepers.{Keeping}
use Rattle.ak_sync_in_memory.specs.Betweens.{always_idle, does_nothing}
use Rattle.ak_sync_in_memory.specs.Entries.{LoggedState}
use Rattle.ak_sync_in_memory.specs.LoopWires.{LoopInside, health_over, inside_with, state_of_loop}
use Rattle.ak_sync_in_memory.specs.Mishaps.{loses_nothing}
use Rattle.ak_sync_in_memory.specs.declared.betweens.NothingBetween.{NothingBetween}
use Rattle.ak_sync_in_memory.specs.declared.mishaps.Mishap.{Mishap}
use Rattle.ak_makes.specs.MadeServers.{make_host}
use Rattle.ak_makes.specs.Measures.{IsSynced, sync_moment}

pub synced : (was now : Keeping) (old given part : LoggedState) (between : NothingBetween) (end : LoopInside NothingBetween) (ids : Ids) (none : CallCounts)
    (no_mishaps : List Mishap) (made_at : ℤ) (clock : List ℤ) (calls : ℕ) (outcome : Outcome)
    → given ≡ old → made_at ≡ sync_moment → none ≡ no_calls → no_mishaps ≡ [] → clock ≡ sync_moment ∷ [] → ids.host.digits ≡ make_host
    → ids.session.0 ≡ 1
    → IsSyncEnded ids was now (health_over none no_mishaps) (health_over end.counts end.mishaps)
    (state_of_loop does_nothing always_idle (inside_with given between made_at no_mishaps none)) (state_of_loop does_nothing always_idle end)
    (Some clock) outcome
    → HasOutcomeCause outcomes.Lost (health_over none no_mishaps) (health_over end.counts end.mishaps) outcome
    → part ≡ end.server → calls ≡ end.counts.calls
    → IsSynced was now old part calls outcome
synced was now old given part between end ids none no_mishaps made_at clock calls outcome same moment uncalled unharmed still host session ended lost handed counted =
    record {
      ids = ids;
      host = host;
      session = session;
      between = between;
      health = health_over end.counts end.mishaps;
      end = end;
      ended = rw (same, moment, uncalled, unharmed, still) at ended;
      unlost = lost.unfailed (ap loses_nothing unharmed);
      server = handed;
      calls_are = counted;
    }
