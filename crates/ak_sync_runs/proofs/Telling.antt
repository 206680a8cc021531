-- What the status and the printed line of a sync tell of its outcome.
use Rattle.std.specs.Prelude.{◌≡◌, ◌≢◌, ◌⊎◌, ℕ, ℤ, Bool, true, false, List, [], ◌∷◌, ◌++◌, Option, Some, codes}
use Rattle.std.proofs.Common.{refl, sym, ap, ◌∙◌, subst, inl, inr, rules}
use Rattle.std.proofs.lemmas.List.{append_cancel_left, append_cancel_right}
use Rattle.ak_base.specs.declared.keys.HostKey.{HostKey}
use Rattle.ak_client.specs.Outcomes.{HasOutcomeCause}
use Rattle.ak_client.specs.Syncs.{HasRaised, KeepsDevice, ends_before_finish}
use Rattle.ak_client.specs.declared.outcomes.Outcome.{Outcome}
use Rattle.ak_client.specs.declared.outcomes.Outcome.TheVariants as outcomes
use Rattle.ak_client_wire.specs.Wires.{WireKind}
use Rattle.ak_faults.specs.Causes.{Health}
use Rattle.ak_keep.specs.Keepers.{Keeping}
use Rattle.ak_outcomes.specs.OutcomeTexts.{has_fixed_text, outcome_text, outcome_status}
use Rattle.ak_sync_runs.specs.SyncRuns.{AgreesNext, CommitsNextOnce, EndsPrinting, EndsSync, EndsSyncOn, FinishesNext, HasRunOutEarly, HasStatusCause, IsSyncRun, RunsOutNextEarly, SyncOutside, TellsOutcome, ids_of, is_early_status, is_sync_status}

-- the line of a sync that is finished
abbrev pub finished_line : List ℕ
finished_line = codes "finished" ++ 10 ∷ []

-- the line of one without changes
abbrev pub unchanged_line : List ℕ
unchanged_line = codes "no changes" ++ 10 ∷ []

-- over a keeper that holds a collection, a run of a sync is how it ends
pub ran : {kind : WireKind} (spares : Bool) (host : HostKey) (status : ℕ) (before after : SyncOutside kind) (old new : Option (List ℕ))
    → true ≡ before.keeping.headed.current → IsSyncRun spares host status before after old new
    → EndsSync spares host status before after old new
ran spares host status before after old new held run =
    subst (λ b. EndsSyncOn spares b host status before after old new) held (inl run)

-- the two outcomes with status 0
done_by : (outcome : Outcome) → 0 ≡ outcome_status outcome → (outcome ≡ outcomes.Finished) ⊎ (outcome ≡ outcomes.NoChanges)
done_by outcomes.Finished status = inl refl
done_by outcomes.NoChanges status = inr refl
done_by (outcomes.FullSchema device server) status = absurd (search (status, rules))
done_by (outcomes.FullSequence usn) status = absurd (search (status, rules))
done_by (outcomes.BadRow fault) status = absurd (search (status, rules))
done_by (outcomes.BadCounts client server) status = absurd (search (status, rules))
done_by (outcomes.ClockOff device server) status = absurd (search (status, rules))
done_by (outcomes.OwnCheck fault) status = absurd (search (status, rules))
done_by outcomes.Stopped status = absurd (search (status, rules))
done_by (outcomes.Refused code word seen) status = absurd (search (status, rules))
done_by outcomes.Lost status = absurd (search (status, rules))
done_by outcomes.BadReply status = absurd (search (status, rules))
done_by outcomes.TooManyChunks status = absurd (search (status, rules))
done_by outcomes.Keep status = absurd (search (status, rules))
done_by outcomes.Memory status = absurd (search (status, rules))

-- the text of an outcome that is known
text_by : (outcome other : Outcome) (text line : List ℕ) → outcome_text outcome ≡ Some text → outcome ≡ other → text ≡ line
    → outcome_text other ≡ Some line
text_by outcome other text line is same printed = sym (ap outcome_text same) ∙ is ∙ ap Some printed

-- with status 0 and `finished` it is finished
told_finished : (outcome : Outcome) (text : List ℕ) → outcome_text outcome ≡ Some text → text ≡ codes "finished"
    → (outcome ≡ outcomes.Finished) ⊎ (outcome ≡ outcomes.NoChanges) → outcome ≡ outcomes.Finished
told_finished outcome text is printed (inl done) = done
told_finished outcome text is printed (inr unchanged) =
    let wrong : Some (codes "no changes") ≡ Some (codes "finished") = text_by outcome outcomes.NoChanges text (codes "finished") is unchanged printed in
    absurd (search (wrong, rules))

-- with status 0 and `no changes` there were none
told_unchanged : (outcome : Outcome) (text : List ℕ) → outcome_text outcome ≡ Some text → text ≡ codes "no changes"
    → (outcome ≡ outcomes.Finished) ⊎ (outcome ≡ outcomes.NoChanges) → outcome ≡ outcomes.NoChanges
told_unchanged outcome text is printed (inl done) =
    let wrong : Some (codes "finished") ≡ Some (codes "no changes") = text_by outcome outcomes.Finished text (codes "no changes") is done printed in
    absurd (search (wrong, rules))
told_unchanged outcome text is printed (inr unchanged) = unchanged

-- the text of a line that was written
text_of_line : (old text line : List ℕ) → old ++ (line ++ 10 ∷ []) ≡ old ++ (text ++ 10 ∷ []) → text ≡ line
text_of_line old text line written =
    sym (append_cancel_right line text (10 ∷ []) (append_cancel_left old (line ++ 10 ∷ []) (text ++ 10 ∷ []) written))

-- an outcome with status 0 that was told as finished
pub finished_by : (outcome : Outcome) (old : List ℕ) → TellsOutcome outcome 0 (Some old) (Some (old ++ finished_line))
    → outcome ≡ outcomes.Finished
finished_by outcome old (inl (text, is, inl (status, written))) =
    told_finished outcome text is (text_of_line old text (codes "finished") written) (done_by outcome status)
finished_by outcome old (inl (text, is, inr (status, part))) = absurd (search (status, rules))
finished_by outcome old (inr (made, (status, nothing))) = absurd (search (status, rules))

-- one that was told as no changes
unchanged_by : (outcome : Outcome) (old : List ℕ) → TellsOutcome outcome 0 (Some old) (Some (old ++ unchanged_line))
    → outcome ≡ outcomes.NoChanges
unchanged_by outcome old (inl (text, is, inl (status, written))) =
    told_unchanged outcome text is (text_of_line old text (codes "no changes") written) (done_by outcome status)
unchanged_by outcome old (inl (text, is, inr (status, part))) = absurd (search (status, rules))
unchanged_by outcome old (inr (made, (status, nothing))) = absurd (search (status, rules))

-- a run that finished
run_finished : {kind : WireKind} (spares : Bool) (host : HostKey) (before after : SyncOutside kind) (old : List ℕ)
    → IsSyncRun spares host 0 before after (Some old) (Some (old ++ finished_line)) → FinishesNext host before after
run_finished spares host before after old run =
    let finished : run.outcome ≡ outcomes.Finished = finished_by run.outcome old run.told in (
      run.word,
      run.drawn,
      λ c account log holds tells may.
          let (now, grown, synced) = run.sparing.ended.sync.told log tells in (
            now,
            grown,
            λ newer. let it = (synced c account holds may newer).finished finished in (
              (synced c account holds may newer).base,
              it,
              λ alone. (run.sparing.ended.sync.wire.commits alone log now account tells grown may.unused).one _ it.only,
            ),
          ),
    )

-- a sync that ended so, by whether a collection was held
finished_on : {kind : WireKind} (spares held : Bool) (host : HostKey) (before after : SyncOutside kind) (old : List ℕ)
    → EndsSyncOn spares held host 0 before after (Some old) (Some (old ++ finished_line)) → FinishesNext host before after
finished_on spares true host before after old (inl run) = run_finished spares host before after old run
finished_on spares true host before after old (inr (same, (status, nothing))) = absurd (search (status, rules))
finished_on spares false host before after old (same, inl (status, written)) = absurd (search (status, rules))
finished_on spares false host before after old (same, inr (status, part)) = absurd (search (status, rules))

-- what `finished` tells
pub printed_finish : {kind : WireKind} (spares : Bool) (host : HostKey) (before after : SyncOutside kind) (old : List ℕ)
    → EndsSync spares host 0 before after (Some old) (Some (old ++ (codes "finished" ++ 10 ∷ []))) → FinishesNext host before after
printed_finish spares host before after old ends = finished_on spares before.keeping.headed.current host before after old ends

-- a run that found nothing to sync
run_agreed : {kind : WireKind} (spares : Bool) (host : HostKey) (before after : SyncOutside kind) (old : List ℕ)
    → IsSyncRun spares host 0 before after (Some old) (Some (old ++ unchanged_line)) → AgreesNext host before after
run_agreed spares host before after old run =
    let unchanged : run.outcome ≡ outcomes.NoChanges = unchanged_by run.outcome old run.told in (
      run.word,
      run.drawn,
      λ c account log holds tells may.
          let (now, grown, synced) = run.sparing.ended.sync.told log tells in (
            now,
            grown,
            λ newer. let it = synced c account holds may newer in
                let agreed = it.unchanged unchanged in
                (it.growth, it.grown, it.base, agreed.0, agreed.1),
          ),
    )

-- a sync that ended so, by whether a collection was held
agreed_on : {kind : WireKind} (spares held : Bool) (host : HostKey) (before after : SyncOutside kind) (old : List ℕ)
    → EndsSyncOn spares held host 0 before after (Some old) (Some (old ++ unchanged_line)) → AgreesNext host before after
agreed_on spares true host before after old (inl run) = run_agreed spares host before after old run
agreed_on spares true host before after old (inr (same, (status, nothing))) = absurd (search (status, rules))
agreed_on spares false host before after old (same, inl (status, written)) = absurd (search (status, rules))
agreed_on spares false host before after old (same, inr (status, part)) = absurd (search (status, rules))

-- what `no changes` tells
pub printed_agreement : {kind : WireKind} (spares : Bool) (host : HostKey) (before after : SyncOutside kind) (old : List ℕ)
    → EndsSync spares host 0 before after (Some old) (Some (old ++ (codes "no changes" ++ 10 ∷ []))) → AgreesNext host before after
printed_agreement spares host before after old ends = agreed_on spares before.keeping.headed.current host before after old ends

-- an outcome with another status leaves the device as it was
kept_by : (outcome : Outcome) (status : ℕ) (before left : Keeping) (moments to_come : Option (List ℤ))
    → status ≡ outcome_status outcome → status ≢ 0 → status ≢ 11
    → KeepsDevice 1 before left moments to_come outcome → left ≡ before
kept_by outcomes.Finished status before left moments to_come is done sanity kept = absurd (done is)
kept_by outcomes.NoChanges status before left moments to_come is done sanity kept = kept
kept_by (outcomes.FullSchema device server) status before left moments to_come is done sanity kept = kept
kept_by (outcomes.FullSequence usn) status before left moments to_come is done sanity kept = kept
kept_by (outcomes.BadRow fault) status before left moments to_come is done sanity kept = absurd (sanity is)
kept_by (outcomes.BadCounts client server) status before left moments to_come is done sanity kept = absurd (sanity is)
kept_by (outcomes.ClockOff device server) status before left moments to_come is done sanity kept = kept
kept_by (outcomes.OwnCheck fault) status before left moments to_come is done sanity kept = kept
kept_by outcomes.Stopped status before left moments to_come is done sanity kept = kept
kept_by (outcomes.Refused code word seen) status before left moments to_come is done sanity kept = kept
kept_by outcomes.Lost status before left moments to_come is done sanity kept = kept
kept_by outcomes.BadReply status before left moments to_come is done sanity kept = kept
kept_by outcomes.TooManyChunks status before left moments to_come is done sanity kept = kept
kept_by outcomes.Keep status before left moments to_come is done sanity kept = kept
kept_by outcomes.Memory status before left moments to_come is done sanity kept = kept

-- the status of an outcome that was told, if it is neither 5 nor 8
status_of_told : (outcome : Outcome) (status : ℕ) (old new : Option (List ℕ)) → TellsOutcome outcome status old new
    → status ≢ 5 → status ≢ 8 → status ≡ outcome_status outcome
status_of_told outcome status old new (inl (text, is, inl (same, written))) no_write no_memory = same
status_of_told outcome status old new (inl (text, is, inr (same, part))) no_write no_memory = absurd (no_write same)
status_of_told outcome status old new (inr (made, (same, nothing))) no_write no_memory = absurd (no_memory same)

-- by whether a collection was held
kept_on : {kind : WireKind} (spares held : Bool) (host : HostKey) (status : ℕ) (before after : SyncOutside kind) (old new : Option (List ℕ))
    → EndsSyncOn spares held host status before after old new → status ≢ 0 → status ≢ 5 → status ≢ 8 → status ≢ 11
    → after.keeping ≡ before.keeping
kept_on spares true host status before after old new (inl run) done no_write no_memory sanity =
    kept_by run.outcome status before.keeping after.keeping before.moments after.moments
    (status_of_told run.outcome status old new run.told no_write no_memory) done sanity run.device
kept_on {kind} spares true host status before after old new (inr (same, ends)) done no_write no_memory sanity =
    ap (λ (s : SyncOutside kind). s.keeping) same
kept_on {kind} spares false host status before after old new (same, ends) done no_write no_memory sanity =
    ap (λ (s : SyncOutside kind). s.keeping) same

-- what other statuses tell
pub other_status : {kind : WireKind} (spares : Bool) (host : HostKey) (status : ℕ) (before after : SyncOutside kind) (old new : Option (List ℕ))
    → EndsSync spares host status before after old new → status ≢ 0 → status ≢ 5 → status ≢ 8 → status ≢ 11
    → after.keeping ≡ before.keeping
other_status spares host status before after old new ends =
    kept_on spares before.keeping.headed.current host status before after old new ends

-- ---- status 8
-- an outcome whose text is not fixed leaves the device as it was, or with its moments risen
kept_untold : (outcome : Outcome) (before left : Keeping) (moments to_come : Option (List ℤ)) → has_fixed_text outcome ≡ false
    → KeepsDevice 1 before left moments to_come outcome → (left ≡ before) ⊎ HasRaised 1 before left moments to_come
kept_untold outcomes.Finished before left moments to_come made kept = absurd (search (made, rules))
kept_untold outcomes.NoChanges before left moments to_come made kept = inl kept
kept_untold (outcomes.FullSchema device server) before left moments to_come made kept = inl kept
kept_untold (outcomes.FullSequence usn) before left moments to_come made kept = inl kept
kept_untold (outcomes.BadRow fault) before left moments to_come made kept = inr kept
kept_untold (outcomes.BadCounts client server) before left moments to_come made kept = inr kept
kept_untold (outcomes.ClockOff device server) before left moments to_come made kept = inl kept
kept_untold (outcomes.OwnCheck fault) before left moments to_come made kept = inl kept
kept_untold outcomes.Stopped before left moments to_come made kept = inl kept
kept_untold (outcomes.Refused code word seen) before left moments to_come made kept = inl kept
kept_untold outcomes.Lost before left moments to_come made kept = inl kept
kept_untold outcomes.BadReply before left moments to_come made kept = inl kept
kept_untold outcomes.TooManyChunks before left moments to_come made kept = inl kept
kept_untold outcomes.Keep before left moments to_come made kept = inl kept
kept_untold outcomes.Memory before left moments to_come made kept = inl kept

-- so does one that was told with status 8
kept_at_eight : (outcome : Outcome) (before left : Keeping) (moments to_come : Option (List ℤ)) (old new : Option (List ℕ))
    → TellsOutcome outcome 8 old new → KeepsDevice 1 before left moments to_come outcome
    → (left ≡ before) ⊎ HasRaised 1 before left moments to_come
kept_at_eight outcome before left moments to_come old new (inl (text, is, inl (status, written))) kept =
    inl (kept_by outcome 8 before left moments to_come status (λ is. search (is, rules)) (λ is. search (is, rules)) kept)
kept_at_eight outcome before left moments to_come old new (inl (text, is, inr (status, part))) kept = absurd (search (status, rules))
kept_at_eight outcome before left moments to_come old new (inr (made, untold)) kept =
    kept_untold outcome before left moments to_come made kept

-- by whether a collection was held
untold_on : {kind : WireKind} (spares held : Bool) (host : HostKey) (before after : SyncOutside kind) (old new : Option (List ℕ))
    → EndsSyncOn spares held host 8 before after old new
    → (after.keeping ≡ before.keeping) ⊎ HasRaised 1 before.keeping after.keeping before.moments after.moments
untold_on spares true host before after old new (inl run) =
    kept_at_eight run.outcome before.keeping after.keeping before.moments after.moments old new run.told run.device
untold_on {kind} spares true host before after old new (inr (same, ends)) = inl (ap (λ (s : SyncOutside kind). s.keeping) same)
untold_on {kind} spares false host before after old new (same, ends) = inl (ap (λ (s : SyncOutside kind). s.keeping) same)

-- what status 8 tells
pub untold_end : {kind : WireKind} (spares : Bool) (host : HostKey) (before after : SyncOutside kind) (old new : Option (List ℕ)) → EndsSync spares host 8 before after old new
    → (after.keeping ≡ before.keeping) ⊎ HasRaised 1 before.keeping after.keeping before.moments after.moments
untold_end spares host before after old new ends = untold_on spares before.keeping.headed.current host before after old new ends

-- 8 tells that memory ran out, if the text of an outcome was printed
only_memory : (outcome : Outcome) → outcome_status outcome ≡ 8 → outcome ≡ outcomes.Memory
only_memory outcomes.Finished is = absurd (search (is, rules))
only_memory outcomes.NoChanges is = absurd (search (is, rules))
only_memory (outcomes.FullSchema device server) is = absurd (search (is, rules))
only_memory (outcomes.FullSequence usn) is = absurd (search (is, rules))
only_memory (outcomes.BadRow fault) is = absurd (search (is, rules))
only_memory (outcomes.BadCounts client server) is = absurd (search (is, rules))
only_memory (outcomes.ClockOff device server) is = absurd (search (is, rules))
only_memory (outcomes.OwnCheck fault) is = absurd (search (is, rules))
only_memory outcomes.Stopped is = absurd (search (is, rules))
only_memory (outcomes.Refused code word seen) is = absurd (search (is, rules))
only_memory outcomes.Lost is = absurd (search (is, rules))
only_memory outcomes.BadReply is = absurd (search (is, rules))
only_memory outcomes.TooManyChunks is = absurd (search (is, rules))
only_memory outcomes.Keep is = absurd (search (is, rules))
only_memory outcomes.Memory is = refl

-- an outcome without a fixed text is out of memory, or it has a text
has_text : (outcome : Outcome) → has_fixed_text outcome ≡ false → (outcome ≡ outcomes.Memory) ⊎ ((text : List ℕ) × (outcome_text outcome ≡ Some text))
has_text outcomes.Finished made = absurd (search (made, rules))
has_text outcomes.NoChanges made = absurd (search (made, rules))
has_text (outcomes.FullSchema device server) made = inr (_, refl)
has_text (outcomes.FullSequence usn) made = inr (_, refl)
has_text (outcomes.BadRow fault) made = inr (_, refl)
has_text (outcomes.BadCounts client server) made = inr (_, refl)
has_text (outcomes.ClockOff device server) made = inr (_, refl)
has_text (outcomes.OwnCheck fault) made = inr (_, refl)
has_text outcomes.Stopped made = absurd (search (made, rules))
has_text (outcomes.Refused code word seen) made = inr (_, refl)
has_text outcomes.Lost made = absurd (search (made, rules))
has_text outcomes.BadReply made = absurd (search (made, rules))
has_text outcomes.TooManyChunks made = absurd (search (made, rules))
has_text outcomes.Keep made = absurd (search (made, rules))
has_text outcomes.Memory made = inl refl

-- a run with status 8 over a keeper that spares memory
run_out_early : {kind : WireKind} (host : HostKey) (before after : SyncOutside kind) (old new : Option (List ℕ)) → (run : IsSyncRun true host 8 before after old new)
    → HasRunOutEarly (ids_of host run.word) before after
run_out_early host before after old new run = by run.told
  where
    early : run.outcome ≡ outcomes.Memory → HasRunOutEarly (ids_of host run.word) before after
    early out = (run.outcome, run.sparing, inl (out, run.sparing.memory refl out))

    either : has_fixed_text run.outcome ≡ false → (run.outcome ≡ outcomes.Memory) ⊎ ((text : List ℕ) × (outcome_text run.outcome ≡ Some text))
        → HasRunOutEarly (ids_of host run.word) before after
    either made (inl out) = early out
    either made (inr (text, is)) = (run.outcome, run.sparing, inr (text, is, made))

    by : TellsOutcome run.outcome 8 old new → HasRunOutEarly (ids_of host run.word) before after
    by (inl (text, is, inl (status, written))) = early (only_memory run.outcome (sym status))
    by (inl (text, is, inr (status, part))) = absurd (search (status, rules))
    by (inr (made, untold)) = either made (has_text run.outcome made)

-- by whether a collection was held
out_on : {kind : WireKind} (held : Bool) (host : HostKey) (before after : SyncOutside kind) (old new : Option (List ℕ))
    → EndsSyncOn true held host 8 before after old new → RunsOutNextEarly host before after
out_on true host before after old new (inl run) = inr (run.word, run.drawn, run_out_early host before after old new run)
out_on true host before after old new (inr (same, ends)) = inl same
out_on false host before after old new (same, ends) = inl same

-- what status 8 tells over a keeper that spares memory
pub out_early : {kind : WireKind} (host : HostKey) (before after : SyncOutside kind) (old new : Option (List ℕ)) → EndsSync true host 8 before after old new
    → RunsOutNextEarly host before after
out_early host before after old new ends = out_on before.keeping.headed.current host before after old new ends

-- a device without changes is left as it was
kept_unchanged : (outcome : Outcome) (before left : Keeping) (moments to_come : Option (List ℤ)) → outcome ≡ outcomes.NoChanges
    → KeepsDevice 1 before left moments to_come outcome → left ≡ before
kept_unchanged outcome before left moments to_come unchanged kept =
    subst (λ o. KeepsDevice 1 before left moments to_come o) unchanged kept

-- by whether a collection was held
unchanged_on : {kind : WireKind} (spares held : Bool) (host : HostKey) (before after : SyncOutside kind) (old : List ℕ)
    → EndsSyncOn spares held host 0 before after (Some old) (Some (old ++ unchanged_line)) → after.keeping ≡ before.keeping
unchanged_on spares true host before after old (inl run) =
    kept_unchanged run.outcome before.keeping after.keeping before.moments after.moments (unchanged_by run.outcome old run.told) run.device
unchanged_on {kind} spares true host before after old (inr (same, ends)) = ap (λ (s : SyncOutside kind). s.keeping) same
unchanged_on {kind} spares false host before after old (same, ends) = ap (λ (s : SyncOutside kind). s.keeping) same

-- what `no changes` tells
pub printed_no_changes : {kind : WireKind} (spares : Bool) (host : HostKey) (before after : SyncOutside kind) (old : List ℕ)
    → EndsSync spares host 0 before after (Some old) (Some (old ++ (codes "no changes" ++ 10 ∷ []))) → after.keeping ≡ before.keeping
printed_no_changes spares host before after old ends = unchanged_on spares before.keeping.headed.current host before after old ends

-- ---- what is committed
-- an outcome with a status that comes before a finish alone
early_by : (outcome : Outcome) → is_early_status (outcome_status outcome) ≡ true → ends_before_finish outcome ≡ true
early_by outcomes.Finished is = absurd (search (is, rules))
early_by outcomes.NoChanges is = refl
early_by (outcomes.FullSchema device server) is = refl
early_by (outcomes.FullSequence usn) is = refl
early_by (outcomes.BadRow fault) is = refl
early_by (outcomes.BadCounts client server) is = refl
early_by (outcomes.ClockOff device server) is = refl
early_by (outcomes.OwnCheck fault) is = refl
early_by outcomes.Stopped is = refl
early_by (outcomes.Refused code word seen) is = absurd (search (is, rules))
early_by outcomes.Lost is = absurd (search (is, rules))
early_by outcomes.BadReply is = absurd (search (is, rules))
early_by outcomes.TooManyChunks is = refl
early_by outcomes.Keep is = absurd (search (is, rules))
early_by outcomes.Memory is = absurd (search (is, rules))

-- no status of an end before the finish is that of a failed output or of memory that ran out
early_told : (outcome : Outcome) (status : ℕ) (old new : Option (List ℕ)) → TellsOutcome outcome status old new
    → is_early_status status ≡ true → ends_before_finish outcome ≡ true
early_told outcome status old new told early =
    let no_write : status ≢ 5 = λ is. search (sym (ap is_early_status is) ∙ early, rules) in
    let no_memory : status ≢ 8 = λ is. search (sym (ap is_early_status is) ∙ early, rules) in
    early_by outcome (sym (ap is_early_status (status_of_told outcome status old new told no_write no_memory)) ∙ early)

-- by whether a collection was held
once_on : {kind : WireKind} (spares held : Bool) (host : HostKey) (status : ℕ) (before after : SyncOutside kind) (old new : Option (List ℕ))
    → EndsSyncOn spares held host status before after old new → CommitsNextOnce host status before after
once_on spares true host status before after old new (inl run) = inr (
  run.word,
  run.drawn,
  λ c account log holds tells may.
      let (now, grown, synced) = run.sparing.ended.sync.told log tells in (
        now,
        grown,
        λ newer. let it = synced c account holds may newer in
            (it.growth, it.base, _, _, it.grown, it.at_meta, it.once, λ early. it.early (early_told run.outcome status old new run.told early)),
      ),
)
once_on spares true host status before after old new (inr (same, ends)) = inl same
once_on spares false host status before after old new (same, ends) = inl same

-- what any end tells
pub any_end : {kind : WireKind} (spares : Bool) (host : HostKey) (status : ℕ) (before after : SyncOutside kind) (old new : Option (List ℕ))
    → EndsSync spares host status before after old new → CommitsNextOnce host status before after
any_end spares host status before after old new ends = once_on spares before.keeping.headed.current host status before after old new ends

-- ---- which statuses there are
-- an outcome has one of them
listed_outcome : (outcome : Outcome) → is_sync_status (outcome_status outcome) ≡ true
listed_outcome outcomes.Finished = refl
listed_outcome outcomes.NoChanges = refl
listed_outcome (outcomes.FullSchema device server) = refl
listed_outcome (outcomes.FullSequence usn) = refl
listed_outcome (outcomes.BadRow fault) = refl
listed_outcome (outcomes.BadCounts client server) = refl
listed_outcome (outcomes.ClockOff device server) = refl
listed_outcome (outcomes.OwnCheck fault) = refl
listed_outcome outcomes.Stopped = refl
listed_outcome (outcomes.Refused code word seen) = refl
listed_outcome outcomes.Lost = refl
listed_outcome outcomes.BadReply = refl
listed_outcome outcomes.TooManyChunks = refl
listed_outcome outcomes.Keep = refl
listed_outcome outcomes.Memory = refl

-- none of an outcome is that of a failed output
pub never_write_failed : (outcome : Outcome) → outcome_status outcome ≢ 5
never_write_failed outcomes.Finished = λ is. search (is, rules)
never_write_failed outcomes.NoChanges = λ is. search (is, rules)
never_write_failed (outcomes.FullSchema device server) = λ is. search (is, rules)
never_write_failed (outcomes.FullSequence usn) = λ is. search (is, rules)
never_write_failed (outcomes.BadRow fault) = λ is. search (is, rules)
never_write_failed (outcomes.BadCounts client server) = λ is. search (is, rules)
never_write_failed (outcomes.ClockOff device server) = λ is. search (is, rules)
never_write_failed (outcomes.OwnCheck fault) = λ is. search (is, rules)
never_write_failed outcomes.Stopped = λ is. search (is, rules)
never_write_failed (outcomes.Refused code word seen) = λ is. search (is, rules)
never_write_failed outcomes.Lost = λ is. search (is, rules)
never_write_failed outcomes.BadReply = λ is. search (is, rules)
never_write_failed outcomes.TooManyChunks = λ is. search (is, rules)
never_write_failed outcomes.Keep = λ is. search (is, rules)
never_write_failed outcomes.Memory = λ is. search (is, rules)

-- the status of a text that was printed
listed_printed : (text : List ℕ) (wanted status : ℕ) (old new : Option (List ℕ)) → is_sync_status wanted ≡ true
    → EndsPrinting text wanted status old new → is_sync_status status ≡ true
listed_printed text wanted status old new listed (inl (is, written)) = ap is_sync_status is ∙ listed
listed_printed text wanted status old new listed (inr (is, part)) = ap is_sync_status is

-- that of an outcome that was told
pub listed_told : (outcome : Outcome) (status : ℕ) (old new : Option (List ℕ)) → TellsOutcome outcome status old new
    → is_sync_status status ≡ true
listed_told outcome status old new (inl (text, is, printed)) =
    listed_printed text (outcome_status outcome) status old new (listed_outcome outcome) printed
listed_told outcome status old new (inr (made, (is, nothing))) = ap is_sync_status is

-- ---- why it ends with a status that tells one outcome
-- 6 tells that the keeper failed
pub only_keep : (outcome : Outcome) → outcome_status outcome ≡ 6 → outcome ≡ outcomes.Keep
only_keep outcomes.Finished is = absurd (search (is, rules))
only_keep outcomes.NoChanges is = absurd (search (is, rules))
only_keep (outcomes.FullSchema device server) is = absurd (search (is, rules))
only_keep (outcomes.FullSequence usn) is = absurd (search (is, rules))
only_keep (outcomes.BadRow fault) is = absurd (search (is, rules))
only_keep (outcomes.BadCounts client server) is = absurd (search (is, rules))
only_keep (outcomes.ClockOff device server) is = absurd (search (is, rules))
only_keep (outcomes.OwnCheck fault) is = absurd (search (is, rules))
only_keep outcomes.Stopped is = absurd (search (is, rules))
only_keep (outcomes.Refused code word seen) is = absurd (search (is, rules))
only_keep outcomes.Lost is = absurd (search (is, rules))
only_keep outcomes.BadReply is = absurd (search (is, rules))
only_keep outcomes.TooManyChunks is = absurd (search (is, rules))
only_keep outcomes.Keep is = refl
only_keep outcomes.Memory is = absurd (search (is, rules))

-- 7 tells that no answer came
pub only_lost : (outcome : Outcome) → outcome_status outcome ≡ 7 → outcome ≡ outcomes.Lost
only_lost outcomes.Finished is = absurd (search (is, rules))
only_lost outcomes.NoChanges is = absurd (search (is, rules))
only_lost (outcomes.FullSchema device server) is = absurd (search (is, rules))
only_lost (outcomes.FullSequence usn) is = absurd (search (is, rules))
only_lost (outcomes.BadRow fault) is = absurd (search (is, rules))
only_lost (outcomes.BadCounts client server) is = absurd (search (is, rules))
only_lost (outcomes.ClockOff device server) is = absurd (search (is, rules))
only_lost (outcomes.OwnCheck fault) is = absurd (search (is, rules))
only_lost outcomes.Stopped is = absurd (search (is, rules))
only_lost (outcomes.Refused code word seen) is = absurd (search (is, rules))
only_lost outcomes.Lost is = refl
only_lost outcomes.BadReply is = absurd (search (is, rules))
only_lost outcomes.TooManyChunks is = absurd (search (is, rules))
only_lost outcomes.Keep is = absurd (search (is, rules))
only_lost outcomes.Memory is = absurd (search (is, rules))

-- a status of one outcome alone has the cause of that outcome
pub status_cause : (code status : ℕ) (end outcome : Outcome) (before now : Health) (old new : Option (List ℕ))
    → ((other : Outcome) → outcome_status other ≡ code → other ≡ end) → code ≢ 5 → code ≢ 8
    → HasOutcomeCause end before now outcome → TellsOutcome outcome status old new → HasStatusCause code before now status
status_cause code status end outcome before now old new only no_write no_memory cause told = record {
  goes = cause.goes;
  failed = λ is. cause.failed (ended is);
  unfailed = λ calm is. cause.unfailed calm (ended is);
}
  where
    ended : status ≡ code → outcome ≡ end
    ended is =
        let own : status ≡ outcome_status outcome =
        status_of_told outcome status old new told (λ five. no_write (sym is ∙ five)) (λ eight. no_memory (sym is ∙ eight)) in
        only outcome (sym own ∙ is)
