-- What an outcome says.
use Rattle.std.specs.Prelude.{◌≡◌, ◌≢◌, ◌≤◌, ℕ, ℤ, Bool, true, false, Option, Some, None, Result, Ok, Err, ◌⊎◌}
use Rattle.ak_client.specs.declared.outcomes.Outcome.{Outcome}
use Rattle.ak_client.specs.declared.outcomes.Outcome.TheVariants as outcomes
use Rattle.ak_client_wire.specs.Wires.{more}
use Rattle.ak_client_wire.specs.declared.wires.Said.{Said}
use Rattle.ak_exchange.specs.Stops.{keep_stop, shows_bad_check}
use Rattle.ak_exchange.specs.declared.stops.Stop.{Stop}
use Rattle.ak_exchange.specs.declared.stops.Stop.TheVariants as stops
use Rattle.ak_faults.specs.Causes.{GoesOn, Health, Rose}
use Rattle.ak_keep.specs.declared.keepers.KeepFault.{KeepFault}
use Rattle.ak_messages.specs.declared.replies.Word.{Word}

-- the outcome of a sync whose exchange stopped
abbrev pub outcome_at : Stop → Outcome
outcome_at (stops.BadRow fault) = outcomes.BadRow fault
outcome_at (stops.BadCounts client server) = outcomes.BadCounts client server
outcome_at (stops.Refused status word seen) = outcomes.Refused status word seen
outcome_at stops.Lost = outcomes.Lost
outcome_at stops.BadReply = outcomes.BadReply
outcome_at stops.TooManyChunks = outcomes.TooManyChunks
outcome_at stops.Keep = outcomes.Keep
outcome_at stops.Memory = outcomes.Memory

-- the outcome of a sync
abbrev pub outcome_of : Result (Unit {0}) Outcome → Outcome
outcome_of (Ok done) = outcomes.Finished
outcome_of (Err outcome) = outcome

-- a sync that goes on, unless there is a reason to end it
abbrev pub end_or_go : Option Outcome → Result (Unit {0}) Outcome
end_or_go None = Ok tt
end_or_go (Some outcome) = Err outcome

-- a sync whose exchange stopped so ends for that reason; or, after a bad sanity check, because the keeper refused what was left to do
abbrev pub EndsFor : Stop → Outcome → Type 0
EndsFor stop outcome = (outcome ≡ outcome_at stop)
    ⊎ ((fault : KeepFault) × (shows_bad_check stop ≡ true) × (outcome ≡ outcome_at (keep_stop fault)))

-- an outcome comes only if the count of faults of an end to the outside rose meanwhile, and never of an end that is calm
pub record HasOutcomeCause (outcome : Outcome) (before now : Health) (result : Outcome) : Type 0 where
  pub goes : GoesOn before now
  pub failed : result ≡ outcome → Rose before now
  pub unfailed : before.calm ≡ true → result ≢ outcome

-- the outcome of a request whose three tries all got no answer: the wire's count rose at each, and so many calls in a row failed: 3, or 3
-- more than before the sync if none was answered in it
pub record HasLostThrice (before now : Health) (silence_before silence : ℕ) (result : Outcome) : Type 0 where
  pub faults : result ≡ outcomes.Lost → more 3 before.faults ≤ now.faults
  pub silent : result ≡ outcomes.Lost → (silence ≡ 3) ⊎ (silence ≡ more 3 silence_before)

-- the outcome of a request that was not granted, by what the reply of the last call said: its status, which is not 200, its word and the
-- moment that was seen; or, if it could not be read, the count of such answers rose, and otherwise it has status 200 but not its form
pub record ShowsRefusal (reading_before reading : Health) (said : Option Said) (result : Outcome) : Type 0 where
  pub refused : (status : ℕ) (word : Word) (seen : ℤ) → result ≡ outcomes.Refused status word seen
      → (it : Said) × (said ≡ Some it) × (it.status ≡ status) × (it.word ≡ word) × (it.seen ≡ seen) × (status ≢ 200)
  pub unread : result ≡ outcomes.BadReply
      → Rose reading_before reading ⊎ ((it : Said) × (said ≡ Some it) × (it.status ≡ 200))

-- whether an outcome is told by the meta, the clocks and the device alone, before anything else is asked
abbrev pub is_told_by_meta : Outcome → Bool
is_told_by_meta outcomes.Finished = false
is_told_by_meta outcomes.NoChanges = true
is_told_by_meta (outcomes.FullSchema device server) = true
is_told_by_meta (outcomes.FullSequence usn) = true
is_told_by_meta (outcomes.BadRow fault) = false
is_told_by_meta (outcomes.BadCounts client server) = false
is_told_by_meta (outcomes.ClockOff device server) = true
is_told_by_meta (outcomes.OwnCheck fault) = true
is_told_by_meta outcomes.Stopped = true
is_told_by_meta (outcomes.Refused status word seen) = false
is_told_by_meta outcomes.Lost = false
is_told_by_meta outcomes.BadReply = false
is_told_by_meta outcomes.TooManyChunks = false
is_told_by_meta outcomes.Keep = false
is_told_by_meta outcomes.Memory = false

-- whether a sync that ends so has changed the device: it is finished, or both moments have risen after a bad sanity check
abbrev pub changes_device : Outcome → Bool
changes_device outcomes.Finished = true
changes_device (outcomes.BadRow fault) = true
changes_device (outcomes.BadCounts client server) = true
changes_device outcome = false
