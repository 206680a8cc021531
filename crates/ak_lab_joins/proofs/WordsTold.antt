-- What the outcome of a sync and of an upload, and the printed line of a sync, tell of the commit.
use Rattle.std.specs.Prelude.{◌≡◌, ◌≢◌, ◌⊎◌, ℕ, false, List, [], ◌∷◌, Some, codes}
use Rattle.std.proofs.Common.{refl, sym, ap, subst, ◌∙◌, inl, inr}
use Rattle.std.proofs.lemmas.Option.{same_Some}
use Rattle.ak_client.specs.declared.outcomes.Outcome.{Outcome}
use Rattle.ak_client.specs.declared.outcomes.Outcome.TheVariants as outcomes
use Rattle.ak_io.specs.declared.lines.Line.{Line}
use Rattle.ak_lab.specs.LabStates.{LabState, at_line}
use Rattle.ak_lab.specs.LabSyncs.{EndsSync, EndsTransfer}
use Rattle.ak_lab.specs.LineOutcomes.{EndsAs, Says}
use Rattle.ak_lab_joins.proofs.Alone.{EndsAlone, sync_alone, transfer_alone}
use Rattle.ak_lab_joins.proofs.BreaksPlanned.{none_stands}
use Rattle.ak_lab_joins.proofs.Ends.{finished_joins, lines_aside_finishes}
use Rattle.ak_lab_joins.proofs.Lines.{at_line_linked}
use Rattle.ak_lab_joins.proofs.Prints.{EndedAs, finished_told, line_told}
use Rattle.ak_lab_joins.proofs.SyncsTold.{others_commit_nothing}
use Rattle.ak_lab_joins.proofs.Transferred.{finished_or_not}
use Rattle.ak_lab_joins.proofs.Transfers.{uploads}
use Rattle.ak_lab_joins.proofs.Unfailed.{failed_by_break}
use Rattle.ak_lab_joins.proofs.UploadsTold.{upload_commits_nothing}
use Rattle.ak_lab_joins.specs.LabBreaks.{StandsSo}
use Rattle.ak_lab_joins.specs.LabJoins.{Finishes, HasSession, IsLinkedLab, KeepsCommitted, lab_world}
use Rattle.ak_lab_joins.specs.LabMishaps.{DisturbsNothing, LosesNothing}
use Rattle.ak_lab_joins.specs.LabWords.{GoesUnbroken, PrintsCommit, SyncCommitsAsTold, UploadCommitsAsTold, hides_commit}
use Rattle.ak_lab_lines.specs.LabTexts.{sync_text}
use Rattle.ak_lab_lines.specs.declared.lab_lines.Direction.TheVariants as directions
use Rattle.ak_lab_lines.specs.declared.lab_lines.LabLine.TheVariants as lines
use Rattle.ak_lab_wires.specs.declared.lab_sessions.SessionKind.TheVariants as kinds
use Rattle.ak_line_runs.specs.LineRuns.{Accepted}
use Rattle.ak_outcomes.specs.OutcomeTexts.{outcome_text}
use Rattle.ak_protocol.proofs.Commits.{not_both}
use Rattle.ak_protocol.specs.Accounts.{AccountState}
use Rattle.ak_sync_in_memory.specs.Mishaps.{loses_nothing}

-- ---- a sync
module _ (account : AccountState) (name : List ℕ) (s t : LabState) (crossed : List (List ℕ)) (outcome : Outcome) (goes : GoesUnbroken account name s)
    (ended : EndsSync name s t crossed outcome) where
  abbrev alone : EndsAlone kinds.Sync name s t outcome
  alone = sync_alone name s t crossed outcome ended goes.plans

  -- the device's keeper did not fail
  unkept : outcome ≢ outcomes.Keep
  unkept is = none_stands name s goes.device (failed_by_break kinds.Sync name s t crossed (subst (EndsSync name s t crossed) is ended)).1

  shown_commits_nothing : StandsSo false s → outcome ≢ outcomes.Finished → hides_commit outcome ≡ false
      → KeepsCommitted (lab_world account s) (lab_world account t)
  shown_commits_nothing stands other shown =
      others_commit_nothing account name s t outcome goes.linked goes.room alone (inr stands) other unkept (λ is. not_both (ap hides_commit is) shown)
      (inl (λ is. not_both (ap hides_commit is) shown))

  pub undisturbed_commits_nothing : DisturbsNothing name s → outcome ≢ outcomes.Finished → KeepsCommitted (lab_world account s) (lab_world account t)
  undisturbed_commits_nothing nothing other =
      let none : alone.d.mishaps ≡ [] = nothing alone.d alone.found in
      others_commit_nothing account name s t outcome goes.linked goes.room alone (inl none) other unkept (alone.session.unlost (ap loses_nothing none)) (inr none)

  pub finished_joins_sides : outcome ≡ outcomes.Finished → Finishes account name s t
  finished_joins_sides is =
      finished_joins account name s t crossed goes.linked goes.room goes.plans (subst (EndsSync name s t crossed) is ended)

  -- ---- by its outcome
  told_otherwise : (o : Outcome) → o ≢ outcomes.Finished → KeepsCommitted (lab_world account s) (lab_world account t) → SyncCommitsAsTold account name s t o
  told_otherwise outcomes.Finished other kept = absurd (other refl)
  told_otherwise o other kept = kept

  told_by : (outcome ≢ outcomes.Finished → KeepsCommitted (lab_world account s) (lab_world account t))
      → (outcome ≡ outcomes.Finished) ⊎ (outcome ≢ outcomes.Finished) → SyncCommitsAsTold account name s t outcome
  told_by others (inl is) = subst (SyncCommitsAsTold account name s t) (sym is) (finished_joins_sides is)
  told_by others (inr other) = told_otherwise outcome other (others other)

  pub syncs_tell : StandsSo false s → hides_commit outcome ≡ false → SyncCommitsAsTold account name s t outcome
  syncs_tell stands shown = told_by (λ other. shown_commits_nothing stands other shown) (finished_or_not outcome)

  pub undisturbed_syncs_tell : DisturbsNothing name s → SyncCommitsAsTold account name s t outcome
  undisturbed_syncs_tell nothing = told_by (λ other. undisturbed_commits_nothing nothing other) (finished_or_not outcome)

-- a sync of which nothing is lost does not end as lost
pub never_lost : (name : List ℕ) (s t : LabState) (crossed : List (List ℕ)) (outcome : Outcome) → LosesNothing name s → EndsSync name s t crossed outcome
    → outcome ≢ outcomes.Lost
never_lost name s t crossed outcome nothing ended = ended.runs.session.unlost (nothing ended.runs.d (ended.is.held ended.runs.d ended.runs.at))

-- ---- an upload
module _ (account : AccountState) (name : List ℕ) (s t : LabState) (outcome : Outcome) (linked : IsLinkedLab account s) (room : HasSession s)
    (ended : EndsTransfer directions.Upload name s t outcome) where
  upload_otherwise : (o : Outcome) → o ≢ outcomes.Finished → KeepsCommitted (lab_world account s) (lab_world account t) → UploadCommitsAsTold account name s t o
  upload_otherwise outcomes.Finished other kept = absurd (other refl)
  upload_otherwise o other kept = kept

  pub uploads_tell : UploadCommitsAsTold account name s t outcome
  uploads_tell = by (finished_or_not outcome)
    where
      by : (outcome ≡ outcomes.Finished) ⊎ (outcome ≢ outcomes.Finished) → UploadCommitsAsTold account name s t outcome
      by (inl is) =
          subst (UploadCommitsAsTold account name s t) (sym is)
          (uploads account name s t linked room (transfer_alone directions.Upload name s t outcomes.Finished (subst (EndsTransfer directions.Upload name s t) is ended)))
      by (inr other) =
          upload_otherwise outcome other
          (upload_commits_nothing account name s t outcome linked room (transfer_alone directions.Upload name s t outcome ended) other)

-- ---- a printed line
at_line_unbroken : (account : AccountState) (number : ℕ) (name : List ℕ) (s : LabState) → GoesUnbroken account name s → GoesUnbroken account name (at_line number s)
at_line_unbroken account number name s goes = record {
  linked = at_line_linked account number s goes.linked;
  room = goes.room;
  plans = goes.plans;
  device = goes.device;
}

pub printed_syncs_tell : (account : AccountState) (number : ℕ) (line : Line) (name text : List ℕ) (s t : LabState) → GoesUnbroken account name s → DisturbsNothing name s
    → Says line (lines.Sync name) → EndsAs number line s t (Accepted (sync_text name text ∷ [])) → PrintsCommit account name s t text
printed_syncs_tell account number line name text s t goes nothing says ends = record {
  finished = λ is. lines_aside_finishes account number name s t
      (finished_joins_sides account name (at_line number s) t told.1 told.0 unbroken told.2 (finished_told told.0 (told.3 ∙ ap Some is)));
  others = λ other. undisturbed_commits_nothing account name (at_line number s) t told.1 told.0 unbroken told.2 nothing
      (λ is. other (same_Some text (codes "finished") (sym told.3 ∙ ap outcome_text is)));
}
  where
    told : EndedAs name text (at_line number s) t
    told = line_told number line name text s t goes.plans says ends

    unbroken : GoesUnbroken account name (at_line number s)
    unbroken = at_line_unbroken account number name s goes
