-- How the commands `upload` and `download` end, if nothing stops them.
use Rattle.std.specs.Prelude.{◌≡◌, ◌⊎◌, ℕ, Bool, true, List, Option, Some, None}
use Rattle.std.proofs.Common.{sym, ap, subst, ◌∙◌, inl, inr}
use Rattle.std.proofs.lemmas.Option.{none-some}
use Rattle.ak_base.specs.declared.keys.HostKey.{HostKey}
use Rattle.ak_client.specs.declared.outcomes.Outcome.{Outcome}
use Rattle.ak_client.specs.declared.outcomes.Outcome.TheVariants as outcomes
use Rattle.ak_client_wire.specs.Wires.{WireKind}
use Rattle.ak_exchange.specs.Asked.{asker, request_at}
use Rattle.ak_exchange.specs.declared.envelopes.Ids.{Ids}
use Rattle.ak_faults.specs.Causes.{Rose}
use Rattle.ak_io.specs.Arrivals.{GivesNext}
use Rattle.ak_keep.specs.Collections.{Collection}
use Rattle.ak_keep.specs.Keepers.{Keeping, WhereHeld, WhereTold}
use Rattle.ak_merge.proofs.SoundLaws.{sound_has_no_fault}
use Rattle.ak_merge.specs.Holdings.{row_under}
use Rattle.ak_merge.specs.Soundness.{IsSound, first_fault}
use Rattle.ak_messages.specs.declared.requests.Ask.{Ask}
use Rattle.ak_messages.specs.declared.requests.Ask.TheVariants as asks
use Rattle.ak_messages.specs.declared.requests.Whole.{Whole}
use Rattle.ak_protocol.specs.Accounts.{AccountState}
use Rattle.ak_protocol.specs.Logs.{Event}
use Rattle.ak_session.specs.Requests.{is_meta}
use Rattle.ak_session.specs.Uploads.{whole_to_send}
use Rattle.ak_sync_completes.proofs.Running.{told_by_fault, word_told}
use Rattle.ak_sync_completes.proofs.Sides.{checked_of, named_of}
use Rattle.ak_sync_completes.specs.Completing.{EndsWell, SyncEnds}
use Rattle.ak_sync_completes.specs.Runs.{RunEndsWell, ends_of}
use Rattle.ak_sync_runs.specs.SyncRuns.{SyncOutside, ids_of}
use Rattle.ak_transfer_laws.proofs.Asking.{download_formed, upload_formed}
use Rattle.ak_transfer_laws.proofs.Finishing.{transfer_ends}
use Rattle.ak_transfer_laws.proofs.Wholes.{download_allowed, upload_allowed}
use Rattle.ak_transfer_laws.specs.Completing.{HaveMomentsLeft, IsLeftAlone, RunsAlone, committed_before}
use Rattle.ak_transfer_runs.specs.TransferRuns.{Downloads, EndsDownload, EndsTransferOn, EndsUpload, Transfer, Uploads}
use Rattle.ak_transfers.specs.Forms.{MayBeHeld}
use Rattle.ak_transfers.specs.Transfers.{AsksUpload, DownloadEnds, IsTransfer, StopsUpload, UploadEnds, download_errand, upload_errand}
use Rattle.ak_transfers.specs.declared.asks.UploadMoments.{UploadMoments}

-- well, or because a request was lost, or the device's keeper failed
abbrev Ends : List Event → Outcome → Type 0
Ends growth outcome = EndsWell growth outcome ⊎ ((outcome ≡ outcomes.Lost) ⊎ (outcome ≡ outcomes.Keep))

ends_finished : (growth : List Event) (outcome : Outcome) → outcome ≡ outcomes.Finished → Ends growth outcome
ends_finished growth outcome is = inl (subst (EndsWell growth) (sym is) tt)

ends_short : (growth : List Event) (outcome : Outcome) → outcome ≡ outcomes.Memory → Ends growth outcome
ends_short growth outcome is = inl (subst (EndsWell growth) (sym is) tt)

-- ---- an upload
module _ {kind : WireKind} (spares : Bool) (ids : Ids) (c : Collection) (account : AccountState) (before after : SyncEnds kind) (outcome : Outcome) (it : IsLeftAlone ids c account before after)
    (asked : List Ask) (transfer : IsTransfer (upload_errand spares before.keeping after.keeping) ids asked
    (record { line = record { health = before.health; wire = before.wire }; moments = before.moments })
    (record { line = record { health = after.health; wire = after.wire }; moments = after.moments }) outcome)
    (sound : IsSound (row_under c)) (room : HaveMomentsLeft c (committed_before ids account it.old)) where
  no_fault : first_fault c.rows ≡ None
  no_fault = (sound_has_no_fault c.rows (named_of c it.formed) (checked_of c it.formed)).1 sound

  stopped : StopsUpload before.keeping outcome → Ends it.growth outcome
  stopped (inl (fault, is, unsound)) =
      absurd (none-some fault (sym no_fault ∙ subst (λ (k : Keeping). WhereTold k (λ h. first_fault h.rows ≡ Some fault)) it.holds unsound))
  stopped (inr (inl kept)) = inr (inr kept)
  stopped (inr (inr memory)) = ends_short it.growth outcome memory

  -- what is sent
  sent_is : (ask : Ask) → (may : AsksUpload before.keeping ask) → ask ≡ asks.Upload (whole_to_send c)
  sent_is ask may =
      may.is ∙ ap (λ (w : Whole). asks.Upload w) (subst (λ (k : Keeping). WhereHeld k (λ (d : Collection). may.whole ≡ whole_to_send d)) it.holds may.sent)

  ended : (ask : Ask) (given : UploadMoments) → UploadEnds spares before.keeping after.keeping ask given outcome → Ends it.growth outcome
  ended ask given (inl (whole, is, finished, put)) = ends_finished it.growth outcome finished
  ended ask given (inr (inl kept)) = inr (inr kept)
  ended ask given (inr (inr (memory, spared))) = ends_short it.growth outcome memory

  pub upload_ends : EndsWell it.growth outcome ⊎ ((outcome ≡ outcomes.Lost) ⊎ (outcome ≡ outcomes.Keep))
  upload_ends =
      transfer_ends (upload_errand spares before.keeping after.keeping) ids c account before after outcome it asked transfer stopped
      (λ ask may. ap is_meta may.is)
      (λ ask may. upload_allowed c it.formed (committed_before ids account it.old) room
      (request_at (asker ids) (committed_before ids account it.old).head.moment 1 ask) (sent_is ask may))
      (λ ask may told reply ok granted meta tried.
      let formed = upload_formed ids c account before after it transfer.met.health transfer.met.wire told ok meta ask (ap is_meta may.is) reply tried granted may.whole may.is in
      (formed.0, formed.1, ended ask formed.0))

-- ---- a download
module _ {kind : WireKind} (ids : Ids) (c : Collection) (account : AccountState) (before after : SyncEnds kind) (outcome : Outcome) (it : IsLeftAlone ids c account before after)
    (asked : List Ask) (transfer : IsTransfer (download_errand before.keeping after.keeping) ids asked
    (record { line = record { health = before.health; wire = before.wire }; moments = before.moments })
    (record { line = record { health = after.health; wire = after.wire }; moments = after.moments }) outcome) where
  came : (ask : Ask) (given : Whole) → DownloadEnds before.keeping after.keeping ask given outcome → MayBeHeld given → Ends it.growth outcome
  came ask given (inl (held, finished, put)) may = ends_finished it.growth outcome finished
  came ask given (inr (inl (not_held, bad))) may = absurd (not_held may)
  came ask given (inr (inr (inl kept))) may = inr (inr kept)
  came ask given (inr (inr (inr memory))) may = ends_short it.growth outcome memory

  pub download_ends : EndsWell it.growth outcome ⊎ ((outcome ≡ outcomes.Lost) ⊎ (outcome ≡ outcomes.Keep))
  download_ends =
      transfer_ends (download_errand before.keeping after.keeping) ids c account before after outcome it asked transfer (λ never. absurd never)
      (λ ask is. ap is_meta is)
      (λ ask is. download_allowed (committed_before ids account it.old) (request_at (asker ids) (committed_before ids account it.old).head.moment 1 ask) is)
      (λ ask is told reply ok granted meta tried.
      let formed = download_formed ids c account before after it transfer.met.health transfer.met.wire told ok meta ask (ap is_meta is) reply tried granted is in
      (formed.0, formed.1, λ ends_so. came ask formed.0 ends_so formed.2))

-- ---- the commands
module _ {kind : WireKind} (host : HostKey) (c : Collection) (account : AccountState) (status : ℕ) (before after : SyncOutside kind) (old new : Option (List ℕ))
    (it : RunsAlone host c account status before after) where
  -- by what such a transfer ends with
  run_ends : (Does : Transfer kind) → ((outcome : Outcome) → Does (ids_of host it.word) before after outcome → Ends it.session.growth outcome)
      → EndsTransferOn before.keeping.headed.current Does host status before after old new → RunEndsWell it.session.growth status old new ⊎ (status ≡ 7)
  run_ends Does ends_so ends =
      by (subst (λ (b : Bool). EndsTransferOn b Does host status before after old new) (ap (λ (k : Keeping). k.headed.current) it.session.holds) ends)
    where
      by : EndsTransferOn true Does host status before after old new → RunEndsWell it.session.growth status old new ⊎ (status ≡ 7)
      by (inr (same, (memory, nothing))) = inl (inr (inl memory))
      by (inl run) =
          let drawn : run.word ≡ it.word = word_told it.word run.word it.words after.words (subst (λ (o : Option (List ℕ)). GivesNext o after.words run.word) it.chance run.drawn) in
          told_by_fault it.session.growth status old new (λ is. it.written (it.out.failed is)) (λ is. it.session.keeper (it.keeper.failed is)) run.outcome
          (ends_so run.outcome (subst (λ (word : ℕ). Does (ids_of host word) before after run.outcome) drawn run.does)) run.told

  calm_so : (Rose before.health after.health → ⊥) → RunEndsWell it.session.growth status old new ⊎ (status ≡ 7) → RunEndsWell it.session.growth status old new
  calm_so calm (inl well) = well
  calm_so calm (inr lost) = absurd (calm (it.wire.failed lost))

  pub upload_lossy : (spares : Bool) → IsSound (row_under c) → HaveMomentsLeft c (committed_before (ids_of host it.word) account it.session.old)
      → EndsUpload spares host status before after old new → RunEndsWell it.session.growth status old new ⊎ (status ≡ 7)
  upload_lossy spares sound room ends =
      run_ends (Uploads spares)
      (λ outcome does. upload_ends spares (ids_of host it.word) c account (ends_of it.keeper_before before) (ends_of it.keeper_now after) outcome it.session
      does.0.asked does.0.transfer sound room) ends

  pub upload_faultless : (spares : Bool) → IsSound (row_under c) → HaveMomentsLeft c (committed_before (ids_of host it.word) account it.session.old)
      → EndsUpload spares host status before after old new → (Rose before.health after.health → ⊥) → RunEndsWell it.session.growth status old new
  upload_faultless spares sound room ends calm = calm_so calm (upload_lossy spares sound room ends)

  pub download_lossy : EndsDownload host status before after old new → RunEndsWell it.session.growth status old new ⊎ (status ≡ 7)
  download_lossy ends =
      run_ends Downloads
      (λ outcome does. download_ends (ids_of host it.word) c account (ends_of it.keeper_before before) (ends_of it.keeper_now after) outcome it.session
      does.0.asked does.0.transfer) ends

  pub download_faultless : EndsDownload host status before after old new → (Rose before.health after.health → ⊥) → RunEndsWell it.session.growth status old new
  download_faultless ends calm = calm_so calm (download_lossy ends)
