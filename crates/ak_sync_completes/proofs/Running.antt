-- How the command `sync` ends, if nothing stops its sync.
use Rattle.std.specs.Prelude.{◌≡◌, ◌⊎◌, ℕ, Bool, true, List, [], ◌∷◌, ◌++◌, Option, Some, codes}
use Rattle.std.specs.Io.KnownBytes.{Appends}
use Rattle.std.proofs.Common.{sym, ap, subst, ◌∙◌, inl, inr}
use Rattle.std.proofs.lemmas.Option.{same_Some}
use Rattle.ak_base.specs.declared.keys.HostKey.{HostKey}
use Rattle.ak_client.specs.Syncs.{IsSyncEnded}
use Rattle.ak_client.specs.declared.outcomes.Outcome.{Outcome}
use Rattle.ak_client.specs.declared.outcomes.Outcome.TheVariants as outcomes
use Rattle.ak_client_wire.specs.Wires.{WireKind}
use Rattle.ak_faults.specs.Causes.{Rose}
use Rattle.ak_io.specs.Arrivals.{GivesNext}
use Rattle.ak_keep.specs.Collections.{Collection}
use Rattle.ak_keep.specs.Keepers.{Keeping}
use Rattle.ak_outcomes.specs.OutcomeTexts.{outcome_status, outcome_text}
use Rattle.ak_protocol.specs.Accounts.{AccountState}
use Rattle.ak_protocol.specs.Logs.{Event}
use Rattle.ak_sync_completes.proofs.Completing.{ends_by_fault}
use Rattle.ak_sync_completes.specs.Completing.{EndsWell}
use Rattle.ak_sync_completes.specs.Runs.{RunEndsWell, RunsUnhindered, ends_of}
use Rattle.ak_sync_runs.specs.SyncRuns.{EndsPrinting, EndsSync, EndsSyncOn, HasStatusCause, SyncOutside, TellsOutcome, ids_of}

-- chance gives the word that it told
pub word_told : (word other : ℕ) (words : List ℕ) (new : Option (List ℕ)) → GivesNext (Some (word ∷ words)) new other → other ≡ word
word_told word other [] new given = given.0
word_told word other (next ∷ words) new given = given.0

module _ (growth : List Event) (status : ℕ) (old new : Option (List ℕ)) (writes : status ≡ 5 → ⊥) (keeps : status ≡ 6 → ⊥) where
  -- the status of an outcome whose line is written
  printed : (text : List ℕ) (wanted : ℕ) → EndsPrinting text wanted status old new → (status ≡ wanted) × Appends old new (text ++ 10 ∷ [])
  printed text wanted (inl whole) = whole
  printed text wanted (inr (failed, part)) = absurd (writes failed)

  told_well : (outcome : Outcome) → EndsWell growth outcome → (text : List ℕ) → outcome_text outcome ≡ Some text → EndsPrinting text (outcome_status outcome) status old new
      → RunEndsWell growth status old new
  told_well outcomes.Finished well text is ends =
      let own = printed text 0 ends in
      inl (own.0, subst (λ (line : List ℕ). Appends old new (line ++ 10 ∷ [])) (same_Some text (codes "finished") (sym is)) own.1)
  told_well outcomes.NoChanges well text is ends = absurd well
  told_well (outcomes.FullSchema device server) well text is ends = absurd well
  told_well (outcomes.FullSequence usn) well text is ends = absurd well
  told_well (outcomes.BadRow fault) well text is ends = absurd well
  told_well (outcomes.BadCounts client server) well text is ends = absurd well
  told_well (outcomes.ClockOff device server) well text is ends = absurd well
  told_well (outcomes.OwnCheck fault) well text is ends = absurd well
  told_well outcomes.Stopped well text is ends = absurd well
  told_well (outcomes.Refused code word seen) well text is ends = inr (inr ((printed text 13 ends).0, well))
  told_well outcomes.Lost well text is ends = absurd well
  told_well outcomes.BadReply well text is ends = absurd well
  told_well outcomes.TooManyChunks well text is ends = absurd well
  told_well outcomes.Keep well text is ends = absurd well
  told_well outcomes.Memory well text is ends = inr (inl (printed text 8 ends).0)

  -- a fault of the device's keeper, and a lost request, have statuses of their own
  pub told_by_fault : (outcome : Outcome) → EndsWell growth outcome ⊎ ((outcome ≡ outcomes.Lost) ⊎ (outcome ≡ outcomes.Keep)) → TellsOutcome outcome status old new
      → RunEndsWell growth status old new ⊎ (status ≡ 7)
  told_by_fault outcome how (inr (made, (memory, nothing))) = inl (inr (inl memory))
  told_by_fault outcome (inl well) (inl (text, is, ends)) = inl (told_well outcome well text is ends)
  told_by_fault outcome (inr (inl lost)) (inl (text, is, ends)) = inr ((printed text (outcome_status outcome) ends).0 ∙ ap outcome_status lost)
  told_by_fault outcome (inr (inr kept)) (inl (text, is, ends)) = absurd (keeps ((printed text (outcome_status outcome) ends).0 ∙ ap outcome_status kept))

module _ {kind : WireKind} (spares : Bool) (host : HostKey) (c : Collection) (account : AccountState) (status : ℕ) (before after : SyncOutside kind) (old new : Option (List ℕ))
    (it : RunsUnhindered host c account status before after) (ends : EndsSync spares host status before after old new) where
  pub run_ends_lossy : RunEndsWell it.sync.growth status old new ⊎ (status ≡ 7)
  run_ends_lossy = by (subst (λ (b : Bool). EndsSyncOn spares b host status before after old new) (ap (λ (k : Keeping). k.headed.current) it.sync.begins.holds) ends)
    where
      by : EndsSyncOn spares true host status before after old new → RunEndsWell it.sync.growth status old new ⊎ (status ≡ 7)
      by (inr (same, (memory, nothing))) = inl (inr (inl memory))
      by (inl run) =
          let drawn : run.word ≡ it.word = word_told it.word run.word it.words after.words (subst (λ (o : Option (List ℕ)). GivesNext o after.words run.word) it.chance run.drawn) in
          told_by_fault it.sync.growth status old new (λ is. it.written (it.out.failed is)) (λ is. it.sync.keeper (it.keeper.failed is))
          run.outcome
          (ends_by_fault (ids_of host it.word) c account (ends_of it.keeper_before before) (ends_of it.keeper_now after) run.outcome it.sync
          (subst (λ (w : ℕ). IsSyncEnded (ids_of host w) before.keeping after.keeping before.health after.health before.wire after.wire before.moments run.outcome)
          drawn run.sparing.ended))
          run.told

  pub run_ends_well : HasStatusCause 7 before.health after.health status → (Rose before.health after.health → ⊥) → RunEndsWell it.sync.growth status old new
  run_ends_well wire calm = by run_ends_lossy
    where
      by : RunEndsWell it.sync.growth status old new ⊎ (status ≡ 7) → RunEndsWell it.sync.growth status old new
      by (inl well) = well
      by (inr lost) = absurd (calm (wire.failed lost))
