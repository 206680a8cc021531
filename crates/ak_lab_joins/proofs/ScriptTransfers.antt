-- Uploads and downloads of a script, and what their printed lines tell.
use Rattle.std.specs.Prelude.{◌≢◌, ◌+◌, ℕ, List, [], ◌∷◌, length, Some, codes}
use Rattle.std.proofs.Common.{sym, ap, subst, ◌∙◌, inl, inr}
use Rattle.ak_client.specs.declared.outcomes.Outcome.{Outcome}
use Rattle.ak_client.specs.declared.outcomes.Outcome.TheVariants as outcomes
use Rattle.ak_faults.specs.Causes.{one_more}
use Rattle.ak_io.specs.declared.lines.Line.{Line}
use Rattle.ak_lab.specs.LabRuns.{IsLabOpening}
use Rattle.ak_lab.specs.LabStates.{LabState, at_line}
use Rattle.ak_lab.specs.LabSteps.{Accepts}
use Rattle.ak_lab.specs.LabSyncs.{EndsTransfer}
use Rattle.ak_lab.specs.LineOutcomes.{EndsAs, Says}
use Rattle.ak_lab_joins.proofs.Alone.{transfer_alone}
use Rattle.ak_lab_joins.proofs.Ends.{lines_aside_others, run_linked}
use Rattle.ak_lab_joins.proofs.Lines.{LinesStep, at_line_linked, says_one, skips_nothing}
use Rattle.ak_lab_joins.proofs.Prints.{finished_told, text_told}
use Rattle.ak_lab_joins.proofs.Transfers.{downloads, keeps_sides, uploads}
use Rattle.ak_lab_joins.specs.LabJoins.{GoFresh, HasSession, IsLinkedLab, KeepsTransferSides, LeavesDownload, LeavesUpload, MayHoldUpload, lab_world}
use Rattle.ak_lab_lines.specs.LabTexts.{direction_word, ending_text}
use Rattle.ak_lab_lines.specs.declared.lab_lines.Direction.{Direction}
use Rattle.ak_lab_lines.specs.declared.lab_lines.Direction.TheVariants as directions
use Rattle.ak_lab_lines.specs.declared.lab_lines.LabLine.{LabLine}
use Rattle.ak_lab_lines.specs.declared.lab_lines.LabLine.TheVariants as lines
use Rattle.ak_lab_wires.specs.declared.lab_sessions.SessionKind.TheVariants as kinds
use Rattle.ak_line_runs.specs.LineRuns.{Accepted}
use Rattle.ak_openings.specs.declared.whole_collections.Opening.{Opening}
use Rattle.ak_protocol.specs.Accounts.{AccountState}
use Rattle.ak_sync_in_memory.specs.Entries.{account_opened}

-- ---- the number of the line makes no difference
aside_upload : (account : AccountState) (number : ℕ) (name : List ℕ) (s t : LabState) → LeavesUpload account name (at_line number s) t → LeavesUpload account name s t
unfolding lines_aside_others
aside_upload account number name s t it = record {
  c = it.c;
  held = it.held;
  once = it.once;
  upload = it.upload;
  copy = it.copy;
  linked = it.linked;
  keeps = lines_aside_others (kinds.Transfer directions.Upload) number name s t it.keeps;
  calls = it.calls;
}

aside_download : (account : AccountState) (number : ℕ) (name : List ℕ) (s t : LabState) → LeavesDownload account name (at_line number s) t → LeavesDownload account name s t
unfolding lines_aside_others
aside_download account number name s t it = record {
  kept = it.kept;
  copy = it.copy;
  linked = it.linked;
  keeps = lines_aside_others (kinds.Transfer directions.Download) number name s t it.keeps;
  calls = it.calls;
}

aside_keeps : (direction : Direction) (account : AccountState) (number : ℕ) (name : List ℕ) (s t : LabState) (outcome : Outcome)
    → KeepsTransferSides direction account name (at_line number s) t outcome → KeepsTransferSides direction account name s t outcome
unfolding lines_aside_others
aside_keeps direction account number name s t outcome it = record {
  c = it.c;
  held = it.held;
  holds = it.holds;
  server = server_of direction it.server;
  linked = it.linked;
  keeps = lines_aside_others (kinds.Transfer direction) number name s t it.keeps;
  calls = it.calls;
}
  where
    server_of : (way : Direction) → MayHoldUpload way (one_more s.sessions) it.c (lab_world account (at_line number s)) (lab_world account t) outcome
        → MayHoldUpload way (one_more s.sessions) it.c (lab_world account s) (lab_world account t) outcome
    server_of directions.Upload so = so
    server_of directions.Download so = so

-- ---- in a script
module _ (steps : LinesStep) (opening : Opening) (all : List Line) (name : List ℕ) (s t : LabState) (printed : List (List ℕ)) (opens : IsLabOpening opening)
    (room : HasSession s) (goes : GoFresh opening all s printed) where
  abbrev here : IsLinkedLab (account_opened opening) s
  here = run_linked steps opening all s printed opens room goes

  linked_before : IsLinkedLab (account_opened opening) (at_line (length all + 1) s)
  linked_before = at_line_linked (account_opened opening) (length all + 1) s here

  pub script_uploads : EndsTransfer directions.Upload name (at_line (length all + 1) s) t outcomes.Finished → LeavesUpload (account_opened opening) name s t
  script_uploads ends =
      aside_upload (account_opened opening) (length all + 1) name s t
      (uploads (account_opened opening) name (at_line (length all + 1) s) t linked_before room
      (transfer_alone directions.Upload name (at_line (length all + 1) s) t outcomes.Finished ends))

  pub script_downloads : EndsTransfer directions.Download name (at_line (length all + 1) s) t outcomes.Finished → LeavesDownload (account_opened opening) name s t
  script_downloads ends =
      aside_download (account_opened opening) (length all + 1) name s t
      (downloads (account_opened opening) name (at_line (length all + 1) s) t linked_before room
      (transfer_alone directions.Download name (at_line (length all + 1) s) t outcomes.Finished ends))

  pub script_keeps : (direction : Direction) (outcome : Outcome) → outcome ≢ outcomes.Finished → EndsTransfer direction name (at_line (length all + 1) s) t outcome
      → KeepsTransferSides direction (account_opened opening) name s t outcome
  script_keeps direction outcome other ends =
      aside_keeps direction (account_opened opening) (length all + 1) name s t outcome
      (keeps_sides direction (account_opened opening) name (at_line (length all + 1) s) t outcome linked_before room other
      (transfer_alone direction name (at_line (length all + 1) s) t outcome ends))

-- ---- the line
transfer_told : (direction : Direction) (name : List ℕ) (s t : LabState)
    → Accepts (lines.Transfer direction name) s t (ending_text (direction_word direction) name (codes "finished") ∷ []) → EndsTransfer direction name s t outcomes.Finished
transfer_told direction name s t (outcome, text, ends, told, is) =
    subst (λ (o : Outcome). EndsTransfer direction name s t o)
    (finished_told outcome (told ∙ ap Some (sym (text_told (direction_word direction) name (codes "finished") text is)))) ends

line_told : (direction : Direction) (number : ℕ) (line : Line) (name : List ℕ) (s t : LabState) → Says line (lines.Transfer direction name)
    → EndsAs number line s t (Accepted (ending_text (direction_word direction) name (codes "finished") ∷ [])) → EndsTransfer direction name (at_line number s) t outcomes.Finished
line_told direction number line name s t says (inl nothing) = absurd (skips_nothing line (lines.Transfer direction name) says nothing.1.0)
line_told direction number line name s t says (inr (said, others, accepts)) =
    transfer_told direction name (at_line number s) t
    (subst (λ (it : LabLine). Accepts it (at_line number s) t (ending_text (direction_word direction) name (codes "finished") ∷ []))
    (says_one line said (lines.Transfer direction name) others says) accepts)

pub printed_uploads : LinesStep → (opening : Opening) (all : List Line) (earlier : List (List ℕ)) (line : Line) (name : List ℕ) (s t : LabState) → IsLabOpening opening
    → HasSession s → GoFresh opening all s earlier → Says line (lines.Transfer directions.Upload name)
    → EndsAs (length all + 1) line s t (Accepted (ending_text (codes "upload") name (codes "finished") ∷ [])) → LeavesUpload (account_opened opening) name s t
printed_uploads steps opening all earlier line name s t opens room goes says ends =
    script_uploads steps opening all name s t earlier opens room goes (line_told directions.Upload (length all + 1) line name s t says ends)

pub printed_downloads : LinesStep → (opening : Opening) (all : List Line) (earlier : List (List ℕ)) (line : Line) (name : List ℕ) (s t : LabState) → IsLabOpening opening
    → HasSession s → GoFresh opening all s earlier → Says line (lines.Transfer directions.Download name)
    → EndsAs (length all + 1) line s t (Accepted (ending_text (codes "download") name (codes "finished") ∷ [])) → LeavesDownload (account_opened opening) name s t
printed_downloads steps opening all earlier line name s t opens room goes says ends =
    script_downloads steps opening all name s t earlier opens room goes (line_told directions.Download (length all + 1) line name s t says ends)
