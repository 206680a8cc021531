-- What the status of an upload or a download tells of its outcome.
use Rattle.std.specs.Prelude.{◌≡◌, ◌≢◌, ◌⊎◌, ℕ, Bool, true, false, List, Option}
use Rattle.std.proofs.Common.{refl, sym, ap, ◌∙◌, subst, inl, inr, rules}
use Rattle.ak_base.specs.declared.keys.HostKey.{HostKey}
use Rattle.ak_client.specs.declared.outcomes.Outcome.{Outcome}
use Rattle.ak_client.specs.declared.outcomes.Outcome.TheVariants as outcomes
use Rattle.ak_client_wire.specs.Wires.{WireKind}
use Rattle.ak_keep.specs.Keepers.{Keeping}
use Rattle.ak_outcomes.specs.OutcomeTexts.{has_fixed_text, outcome_status}
use Rattle.ak_sync_runs.specs.SyncRuns.{EndsPrinting, SyncOutside, TellsOutcome}
use Rattle.ak_transfer_runs.specs.TransferRuns.{CommitsNothing, CommitsUploadOnce, Downloads, EndsDownload, EndsTransferOn, EndsUpload, HasDownloaded, HasUploaded, IsTransferRun, OfNext, Transfer, Uploads, is_download_status, is_upload_status}
use Rattle.ak_transfers.specs.Transfers.{StaysUnlessFinished, may_end_download, may_end_upload}

-- over a keeper that holds a collection, a run of a transfer is how it ends
pub ran : {kind : WireKind} (Does : Transfer kind) (host : HostKey) (status : ℕ) (before after : SyncOutside kind) (old new : Option (List ℕ))
    → true ≡ before.keeping.headed.current → IsTransferRun Does host status before after old new
    → EndsTransferOn before.keeping.headed.current Does host status before after old new
ran Does host status before after old new held run =
    subst (λ b. EndsTransferOn b Does host status before after old new) held (inl run)

-- ---- outcomes
-- a download that may end so is like an upload that may
as_upload : (outcome : Outcome) → may_end_download outcome ≡ true → may_end_upload outcome ≡ true
as_upload outcomes.Finished may = refl
as_upload outcomes.NoChanges may = absurd (search (may, rules))
as_upload (outcomes.FullSchema device server) may = absurd (search (may, rules))
as_upload (outcomes.FullSequence usn) may = absurd (search (may, rules))
as_upload (outcomes.BadRow fault) may = absurd (search (may, rules))
as_upload (outcomes.BadCounts client server) may = absurd (search (may, rules))
as_upload (outcomes.ClockOff device server) may = refl
as_upload (outcomes.OwnCheck fault) may = absurd (search (may, rules))
as_upload outcomes.Stopped may = refl
as_upload (outcomes.Refused code word seen) may = refl
as_upload outcomes.Lost may = refl
as_upload outcomes.BadReply may = refl
as_upload outcomes.TooManyChunks may = absurd (search (may, rules))
as_upload outcomes.Keep may = refl
as_upload outcomes.Memory may = refl

-- the one outcome with status 0
done_by : (outcome : Outcome) → may_end_upload outcome ≡ true → 0 ≡ outcome_status outcome → outcome ≡ outcomes.Finished
done_by outcomes.Finished may status = refl
done_by outcomes.NoChanges may status = absurd (search (may, rules))
done_by (outcomes.FullSchema device server) may status = absurd (search (status, rules))
done_by (outcomes.FullSequence usn) may status = absurd (search (status, rules))
done_by (outcomes.BadRow fault) may status = absurd (search (status, rules))
done_by (outcomes.BadCounts client server) may status = absurd (search (status, rules))
done_by (outcomes.ClockOff device server) may status = absurd (search (status, rules))
done_by (outcomes.OwnCheck fault) may status = absurd (search (status, rules))
done_by outcomes.Stopped may status = absurd (search (status, rules))
done_by (outcomes.Refused code word seen) may status = absurd (search (status, rules))
done_by outcomes.Lost may status = absurd (search (status, rules))
done_by outcomes.BadReply may status = absurd (search (status, rules))
done_by outcomes.TooManyChunks may status = absurd (search (status, rules))
done_by outcomes.Keep may status = absurd (search (status, rules))
done_by outcomes.Memory may status = absurd (search (status, rules))

-- it is finished, or the device is as it was
finished_or_kept : (outcome : Outcome) (before left : Keeping) → StaysUnlessFinished before left outcome
    → (outcome ≡ outcomes.Finished) ⊎ (left ≡ before)
finished_or_kept outcomes.Finished before left kept = inl refl
finished_or_kept outcomes.NoChanges before left kept = inr kept
finished_or_kept (outcomes.FullSchema device server) before left kept = inr kept
finished_or_kept (outcomes.FullSequence usn) before left kept = inr kept
finished_or_kept (outcomes.BadRow fault) before left kept = inr kept
finished_or_kept (outcomes.BadCounts client server) before left kept = inr kept
finished_or_kept (outcomes.ClockOff device server) before left kept = inr kept
finished_or_kept (outcomes.OwnCheck fault) before left kept = inr kept
finished_or_kept outcomes.Stopped before left kept = inr kept
finished_or_kept (outcomes.Refused code word seen) before left kept = inr kept
finished_or_kept outcomes.Lost before left kept = inr kept
finished_or_kept outcomes.BadReply before left kept = inr kept
finished_or_kept outcomes.TooManyChunks before left kept = inr kept
finished_or_kept outcomes.Keep before left kept = inr kept
finished_or_kept outcomes.Memory before left kept = inr kept

-- the device is as it was if it is known not to be finished
kept_if : (outcome : Outcome) (before left : Keeping) → (outcome ≡ outcomes.Finished → ⊥) → (outcome ≡ outcomes.Finished) ⊎ (left ≡ before)
    → left ≡ before
kept_if outcome before left unfinished (inl finished) = absurd (unfinished finished)
kept_if outcome before left unfinished (inr kept) = kept

-- with a status other than 0 and 5 it is not finished
unfinished_by : (outcome : Outcome) (status : ℕ) (old new : Option (List ℕ)) → TellsOutcome outcome status old new → status ≢ 0 → status ≢ 5
    → outcome ≡ outcomes.Finished → ⊥
unfinished_by outcome status old new (inl (text, is, inl (same, written))) done no_write finished = done (same ∙ ap outcome_status finished)
unfinished_by outcome status old new (inl (text, is, inr (same, part))) done no_write finished = no_write same
unfinished_by outcome status old new (inr (made, untold)) done no_write finished =
    let wrong : has_fixed_text outcomes.Finished ≡ false = sym (ap has_fixed_text finished) ∙ made in search (wrong, rules)

-- with status 0 it is
finished_by : (outcome : Outcome) (old new : Option (List ℕ)) → may_end_upload outcome ≡ true → TellsOutcome outcome 0 old new
    → outcome ≡ outcomes.Finished
finished_by outcome old new may (inl (text, is, inl (status, written))) = done_by outcome may status
finished_by outcome old new may (inl (text, is, inr (status, part))) = absurd (search (status, rules))
finished_by outcome old new may (inr (made, (status, nothing))) = absurd (search (status, rules))

-- ---- ends, by whether a collection was held
-- with status 0 a transfer ran
done_on : {kind : WireKind} (held : Bool) (Does : Transfer kind) (host : HostKey) (before after : SyncOutside kind) (old new : Option (List ℕ))
    → EndsTransferOn held Does host 0 before after old new → IsTransferRun Does host 0 before after old new
done_on true Does host before after old new (inl run) = run
done_on true Does host before after old new (inr (same, (status, nothing))) = absurd (search (status, rules))
done_on false Does host before after old new (same, inl (status, written)) = absurd (search (status, rules))
done_on false Does host before after old new (same, inr (status, part)) = absurd (search (status, rules))

-- with any status a transfer ran, or nothing was asked
any_on : {kind : WireKind} (held : Bool) (Does : Transfer kind) (host : HostKey) (status : ℕ) (before after : SyncOutside kind) (old new : Option (List ℕ))
    → EndsTransferOn held Does host status before after old new → (after ≡ before) ⊎ IsTransferRun Does host status before after old new
any_on true Does host status before after old new (inl run) = inr run
any_on true Does host status before after old new (inr (same, ends)) = inl same
any_on false Does host status before after old new (same, ends) = inl same

-- with a status other than 0 and 5 the device is as it was
kept_by_run : {kind : WireKind} (Does : Transfer kind) (host : HostKey) (status : ℕ) (before after : SyncOutside kind) (old new : Option (List ℕ))
    → status ≢ 0 → status ≢ 5 → (after ≡ before) ⊎ IsTransferRun Does host status before after old new → after.keeping ≡ before.keeping
kept_by_run {kind} Does host status before after old new done no_write (inl same) = ap (λ (s : SyncOutside kind). s.keeping) same
kept_by_run Does host status before after old new done no_write (inr run) =
    kept_if run.outcome before.keeping after.keeping (unfinished_by run.outcome status old new run.told done no_write)
    (finished_or_kept run.outcome before.keeping after.keeping run.device)

pub kept : {kind : WireKind} (Does : Transfer kind) (host : HostKey) (status : ℕ) (before after : SyncOutside kind) (old new : Option (List ℕ))
    → EndsTransferOn before.keeping.headed.current Does host status before after old new → status ≢ 0 → status ≢ 5
    → after.keeping ≡ before.keeping
kept Does host status before after old new ends done no_write =
    kept_by_run Does host status before after old new done no_write (any_on before.keeping.headed.current Does host status before after old new ends)

-- ---- what a finished transfer leaves
uploaded : {kind : WireKind} (spares : Bool) (host : HostKey) (status : ℕ) (before after : SyncOutside kind) (old new : Option (List ℕ))
    → (run : IsTransferRun (Uploads spares) host status before after old new) → run.outcome ≡ outcomes.Finished
    → OfNext HasUploaded host before after
uploaded spares host status before after old new run finished = (
  run.word,
  run.drawn,
  λ c account log holds tells may.
      let (now, grown, upload) = run.does.0.told log tells in
      (now, grown, ((upload c account holds may).base, (upload c account holds may).finished finished)),
)

downloaded : {kind : WireKind} (host : HostKey) (status : ℕ) (before after : SyncOutside kind) (old new : Option (List ℕ))
    → (run : IsTransferRun Downloads host status before after old new) → run.outcome ≡ outcomes.Finished
    → OfNext HasDownloaded host before after
downloaded host status before after old new run finished = (
  run.word,
  run.drawn,
  λ c account log holds tells may.
      let (now, grown, download) = run.does.0.told log tells in (now, grown, (download c account holds may).finished finished),
)

-- with status 0
upload_of_run : {kind : WireKind} (spares : Bool) (host : HostKey) (before after : SyncOutside kind) (old new : Option (List ℕ))
    → IsTransferRun (Uploads spares) host 0 before after old new → OfNext HasUploaded host before after
upload_of_run spares host before after old new run =
    uploaded spares host 0 before after old new run (finished_by run.outcome old new run.does.1 run.told)

download_of_run : {kind : WireKind} (host : HostKey) (before after : SyncOutside kind) (old new : Option (List ℕ))
    → IsTransferRun Downloads host 0 before after old new → OfNext HasDownloaded host before after
download_of_run host before after old new run =
    downloaded host 0 before after old new run (finished_by run.outcome old new (as_upload run.outcome run.does.1) run.told)

pub printed_upload : {kind : WireKind} (spares : Bool) (host : HostKey) (before after : SyncOutside kind) (old new : Option (List ℕ))
    → EndsUpload spares host 0 before after old new → OfNext HasUploaded host before after
printed_upload spares host before after old new ends =
    upload_of_run spares host before after old new (done_on before.keeping.headed.current (Uploads spares) host before after old new ends)

pub printed_download : {kind : WireKind} (host : HostKey) (before after : SyncOutside kind) (old new : Option (List ℕ))
    → EndsDownload host 0 before after old new → OfNext HasDownloaded host before after
printed_download host before after old new ends =
    download_of_run host before after old new (done_on before.keeping.headed.current Downloads host before after old new ends)

-- with status 5 it is one of the two
upload_either : {kind : WireKind} (spares : Bool) (host : HostKey) (before after : SyncOutside kind) (old new : Option (List ℕ))
    → (run : IsTransferRun (Uploads spares) host 5 before after old new) → (run.outcome ≡ outcomes.Finished) ⊎ (after.keeping ≡ before.keeping)
    → (after.keeping ≡ before.keeping) ⊎ OfNext HasUploaded host before after
upload_either spares host before after old new run (inl finished) = inr (uploaded spares host 5 before after old new run finished)
upload_either spares host before after old new run (inr same) = inl same

upload_by_run : {kind : WireKind} (spares : Bool) (host : HostKey) (before after : SyncOutside kind) (old new : Option (List ℕ))
    → (after ≡ before) ⊎ IsTransferRun (Uploads spares) host 5 before after old new
    → (after.keeping ≡ before.keeping) ⊎ OfNext HasUploaded host before after
upload_by_run {kind} spares host before after old new (inl same) = inl (ap (λ (s : SyncOutside kind). s.keeping) same)
upload_by_run spares host before after old new (inr run) =
    upload_either spares host before after old new run (finished_or_kept run.outcome before.keeping after.keeping run.device)

pub unprinted_upload : {kind : WireKind} (spares : Bool) (host : HostKey) (before after : SyncOutside kind) (old new : Option (List ℕ))
    → EndsUpload spares host 5 before after old new → (after.keeping ≡ before.keeping) ⊎ OfNext HasUploaded host before after
unprinted_upload spares host before after old new ends =
    upload_by_run spares host before after old new (any_on before.keeping.headed.current (Uploads spares) host 5 before after old new ends)

download_either : {kind : WireKind} (host : HostKey) (before after : SyncOutside kind) (old new : Option (List ℕ))
    → (run : IsTransferRun Downloads host 5 before after old new) → (run.outcome ≡ outcomes.Finished) ⊎ (after.keeping ≡ before.keeping)
    → (after.keeping ≡ before.keeping) ⊎ OfNext HasDownloaded host before after
download_either host before after old new run (inl finished) = inr (downloaded host 5 before after old new run finished)
download_either host before after old new run (inr same) = inl same

download_by_run : {kind : WireKind} (host : HostKey) (before after : SyncOutside kind) (old new : Option (List ℕ))
    → (after ≡ before) ⊎ IsTransferRun Downloads host 5 before after old new
    → (after.keeping ≡ before.keeping) ⊎ OfNext HasDownloaded host before after
download_by_run {kind} host before after old new (inl same) = inl (ap (λ (s : SyncOutside kind). s.keeping) same)
download_by_run host before after old new (inr run) =
    download_either host before after old new run (finished_or_kept run.outcome before.keeping after.keeping run.device)

pub unprinted_download : {kind : WireKind} (host : HostKey) (before after : SyncOutside kind) (old new : Option (List ℕ))
    → EndsDownload host 5 before after old new → (after.keeping ≡ before.keeping) ⊎ OfNext HasDownloaded host before after
unprinted_download host before after old new ends =
    download_by_run host before after old new (any_on before.keeping.headed.current Downloads host 5 before after old new ends)

-- ---- what is committed
once_by_run : {kind : WireKind} (spares : Bool) (host : HostKey) (status : ℕ) (before after : SyncOutside kind) (old new : Option (List ℕ))
    → (after ≡ before) ⊎ IsTransferRun (Uploads spares) host status before after old new
    → (after ≡ before) ⊎ OfNext CommitsUploadOnce host before after
once_by_run spares host status before after old new (inl same) = inl same
once_by_run spares host status before after old new (inr run) = inr (
  run.word,
  run.drawn,
  λ c account log holds tells may.
      let (now, grown, upload) = run.does.0.told log tells in
      (now, grown, ((upload c account holds may).base, run.does.0.asked, (upload c account holds may).once)),
)

pub once : {kind : WireKind} (spares : Bool) (host : HostKey) (status : ℕ) (before after : SyncOutside kind) (old new : Option (List ℕ))
    → EndsUpload spares host status before after old new → (after ≡ before) ⊎ OfNext CommitsUploadOnce host before after
once spares host status before after old new ends =
    once_by_run spares host status before after old new (any_on before.keeping.headed.current (Uploads spares) host status before after old new ends)

never_by_run : {kind : WireKind} (host : HostKey) (status : ℕ) (before after : SyncOutside kind) (old new : Option (List ℕ))
    → (after ≡ before) ⊎ IsTransferRun Downloads host status before after old new
    → (after ≡ before) ⊎ OfNext CommitsNothing host before after
never_by_run host status before after old new (inl same) = inl same
never_by_run host status before after old new (inr run) = inr (
  run.word,
  run.drawn,
  λ c account log holds tells may.
      let (now, grown, download) = run.does.0.told log tells in
      (now, grown, ((download c account holds may).base, run.does.0.asked, (download c account holds may).never)),
)

pub never : {kind : WireKind} (host : HostKey) (status : ℕ) (before after : SyncOutside kind) (old new : Option (List ℕ))
    → EndsDownload host status before after old new → (after ≡ before) ⊎ OfNext CommitsNothing host before after
never host status before after old new ends =
    never_by_run host status before after old new (any_on before.keeping.headed.current Downloads host status before after old new ends)

-- ---- which statuses there are
upload_status : (outcome : Outcome) → may_end_upload outcome ≡ true → is_upload_status (outcome_status outcome) ≡ true
upload_status outcomes.Finished may = refl
upload_status outcomes.NoChanges may = absurd (search (may, rules))
upload_status (outcomes.FullSchema device server) may = absurd (search (may, rules))
upload_status (outcomes.FullSequence usn) may = absurd (search (may, rules))
upload_status (outcomes.BadRow fault) may = absurd (search (may, rules))
upload_status (outcomes.BadCounts client server) may = absurd (search (may, rules))
upload_status (outcomes.ClockOff device server) may = refl
upload_status (outcomes.OwnCheck fault) may = refl
upload_status outcomes.Stopped may = refl
upload_status (outcomes.Refused code word seen) may = refl
upload_status outcomes.Lost may = refl
upload_status outcomes.BadReply may = refl
upload_status outcomes.TooManyChunks may = absurd (search (may, rules))
upload_status outcomes.Keep may = refl
upload_status outcomes.Memory may = refl

download_status : (outcome : Outcome) → may_end_download outcome ≡ true → is_download_status (outcome_status outcome) ≡ true
download_status outcomes.Finished may = refl
download_status outcomes.NoChanges may = absurd (search (may, rules))
download_status (outcomes.FullSchema device server) may = absurd (search (may, rules))
download_status (outcomes.FullSequence usn) may = absurd (search (may, rules))
download_status (outcomes.BadRow fault) may = absurd (search (may, rules))
download_status (outcomes.BadCounts client server) may = absurd (search (may, rules))
download_status (outcomes.ClockOff device server) may = refl
download_status (outcomes.OwnCheck fault) may = absurd (search (may, rules))
download_status outcomes.Stopped may = refl
download_status (outcomes.Refused code word seen) may = refl
download_status outcomes.Lost may = refl
download_status outcomes.BadReply may = refl
download_status outcomes.TooManyChunks may = absurd (search (may, rules))
download_status outcomes.Keep may = refl
download_status outcomes.Memory may = refl

-- that of an outcome that was told, if its own status, 5 and 8 are among these
listed_told : (is_listed : ℕ → Bool) (outcome : Outcome) (status : ℕ) (old new : Option (List ℕ)) → is_listed (outcome_status outcome) ≡ true
    → is_listed 5 ≡ true → is_listed 8 ≡ true → TellsOutcome outcome status old new → is_listed status ≡ true
listed_told is_listed outcome status old new own five eight (inl (text, is, inl (same, written))) = ap is_listed same ∙ own
listed_told is_listed outcome status old new own five eight (inl (text, is, inr (same, part))) = ap is_listed same ∙ five
listed_told is_listed outcome status old new own five eight (inr (made, (same, nothing))) = ap is_listed same ∙ eight

pub upload_listed : (outcome : Outcome) (status : ℕ) (old new : Option (List ℕ)) → may_end_upload outcome ≡ true
    → TellsOutcome outcome status old new → is_upload_status status ≡ true
upload_listed outcome status old new may told = listed_told is_upload_status outcome status old new (upload_status outcome may) refl refl told

pub download_listed : (outcome : Outcome) (status : ℕ) (old new : Option (List ℕ)) → may_end_download outcome ≡ true
    → TellsOutcome outcome status old new → is_download_status status ≡ true
download_listed outcome status old new may told = listed_told is_download_status outcome status old new (download_status outcome may) refl refl told
