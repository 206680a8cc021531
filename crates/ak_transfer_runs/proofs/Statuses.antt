-- Why a transfer ends with a status that tells one outcome.
use Rattle.std.specs.Prelude.{◌≡◌, ◌≢◌, ◌⊎◌, ℕ, List, Option}
use Rattle.std.proofs.Common.{refl, sym, ap, ◌∙◌, inl, inr, rules}
use Rattle.ak_client.specs.Outcomes.{HasOutcomeCause}
use Rattle.ak_client.specs.declared.outcomes.Outcome.{Outcome}
use Rattle.ak_client.specs.declared.outcomes.Outcome.TheVariants as outcomes
use Rattle.ak_faults.specs.Causes.{Health}
use Rattle.ak_outcomes.specs.OutcomeTexts.{outcome_status}
use Rattle.ak_sync_runs.specs.SyncRuns.{HasStatusCause, TellsOutcome}

-- the status of an outcome that was told, if it is neither 5 nor 8
status_of_told : (outcome : Outcome) (status : ℕ) (old new : Option (List ℕ)) → TellsOutcome outcome status old new
    → status ≢ 5 → status ≢ 8 → status ≡ outcome_status outcome
status_of_told outcome status old new (inl (text, is, inl (same, written))) no_write no_memory = same
status_of_told outcome status old new (inl (text, is, inr (same, part))) no_write no_memory = absurd (no_write same)
status_of_told outcome status old new (inr (made, (same, nothing))) no_write no_memory = absurd (no_memory same)

-- 6 tells that the keeper failed
pub only_keep : (outcome : Outcome) → outcome_status outcome ≡ 6 → outcome ≡ outcomes.Keep
only_keep outcomes.Finished is = absurd (search (is, rules))
only_keep outcomes.NoChanges is = absurd (search (is, rules))
only_keep (outcomes.FullSchema device server) is = absurd (search (is, rules))
only_keep (outcomes.FullSequence usn) is = absurd (search (is, rules))
only_keep (outcomes.BadRow fault) is = absurd (search (is, rules))
only_keep (outcomes.BadCounts client server) is = absurd (search (is, rules))
only_keep (outcomes.ClockOff device server) is = absurd (search (is, rules))
only_keep (outcomes.OwnCheck fault) is = absurd (search (is, rules))
only_keep outcomes.Stopped is = absurd (search (is, rules))
only_keep (outcomes.Refused code word seen) is = absurd (search (is, rules))
only_keep outcomes.Lost is = absurd (search (is, rules))
only_keep outcomes.BadReply is = absurd (search (is, rules))
only_keep outcomes.TooManyChunks is = absurd (search (is, rules))
only_keep outcomes.Keep is = refl
only_keep outcomes.Memory is = absurd (search (is, rules))

-- 7 tells that no answer came
pub only_lost : (outcome : Outcome) → outcome_status outcome ≡ 7 → outcome ≡ outcomes.Lost
only_lost outcomes.Finished is = absurd (search (is, rules))
only_lost outcomes.NoChanges is = absurd (search (is, rules))
only_lost (outcomes.FullSchema device server) is = absurd (search (is, rules))
only_lost (outcomes.FullSequence usn) is = absurd (search (is, rules))
only_lost (outcomes.BadRow fault) is = absurd (search (is, rules))
only_lost (outcomes.BadCounts client server) is = absurd (search (is, rules))
only_lost (outcomes.ClockOff device server) is = absurd (search (is, rules))
only_lost (outcomes.OwnCheck fault) is = absurd (search (is, rules))
only_lost outcomes.Stopped is = absurd (search (is, rules))
only_lost (outcomes.Refused code word seen) is = absurd (search (is, rules))
only_lost outcomes.Lost is = refl
only_lost outcomes.BadReply is = absurd (search (is, rules))
only_lost outcomes.TooManyChunks is = absurd (search (is, rules))
only_lost outcomes.Keep is = absurd (search (is, rules))
only_lost outcomes.Memory is = absurd (search (is, rules))

-- a status of one outcome alone has the cause of that outcome
pub status_cause : (code status : ℕ) (end outcome : Outcome) (before now : Health) (old new : Option (List ℕ))
    → ((other : Outcome) → outcome_status other ≡ code → other ≡ end) → code ≢ 5 → code ≢ 8
    → HasOutcomeCause end before now outcome → TellsOutcome outcome status old new → HasStatusCause code before now status
status_cause code status end outcome before now old new only no_write no_memory cause told = record {
  goes = cause.goes;
  failed = λ is. cause.failed (ended is);
  unfailed = λ calm is. cause.unfailed calm (ended is);
}
  where
    ended : status ≡ code → outcome ≡ end
    ended is =
        let own : status ≡ outcome_status outcome =
        status_of_told outcome status old new told (λ five. no_write (sym is ∙ five)) (λ eight. no_memory (sym is ∙ eight)) in
        only outcome (sym own ∙ is)
