-- How the commands `upload` and `download` end: what they leave, what they print, and the status that they answer.
use Rattle.std.specs.Prelude.{◌≡◌, ◌≢◌, ◌⊎◌, ℕ, ◌==◌, ◌||◌, Bool, true, false, List, [], Option, Some, codes}
use Rattle.ak_base.specs.declared.keys.HostKey.{HostKey}
use Rattle.ak_client.specs.Outcomes.{HasLostThrice, ShowsRefusal}
use Rattle.ak_client.specs.declared.outcomes.Outcome.{Outcome}
use Rattle.ak_client_wire.specs.Wires.{WireKind}
use Rattle.ak_exchange.specs.Asked.{asker}
use Rattle.ak_exchange.specs.Phases.{holding}
use Rattle.ak_exchange.specs.declared.envelopes.Ids.{Ids}
use Rattle.ak_io.specs.Arrivals.{GivesNext}
use Rattle.ak_keep.specs.Collections.{Collection}
use Rattle.ak_messages.specs.declared.requests.Ask.{Ask}
use Rattle.ak_protocol.specs.Accounts.{AccountState}
use Rattle.ak_protocol.specs.Logs.{Log, commits_of}
use Rattle.ak_sync_runs.specs.SyncRuns.{EndsPrinting, EndsUntold, SyncOutside, TellsOutcome, ids_of}
use Rattle.ak_transfers.specs.Greetings.{TransferOutside}
use Rattle.ak_transfers.specs.Transfers.{HoldsLater, IsDownload, IsDownloaded, IsUpload, IsUploaded, MayTransfer, StaysUnlessFinished, UploadsAtMostOnce, may_end_download, may_end_upload}

-- ---- the run
-- what a transfer is given of it: its wire, and the moments of its clock
abbrev pub transfer_outside : {kind : WireKind} → SyncOutside kind → TransferOutside kind
transfer_outside a = record { line = record { health = a.health; wire = a.wire }; moments = a.moments }

-- what a transfer in the session of these ids does, from what it is given to what that is after it, with this outcome
abbrev pub Transfer : WireKind → Type 1
Transfer kind = Ids → SyncOutside kind → SyncOutside kind → Outcome → Type 0

-- an upload, over a keeper that spares memory or not
abbrev pub Uploads : {kind : WireKind} → Bool → Transfer kind
Uploads spares ids before after outcome =
    IsUpload spares ids before.keeping after.keeping (transfer_outside before) (transfer_outside after) outcome
    × (may_end_upload outcome ≡ true)

-- a download
abbrev pub Downloads : {kind : WireKind} → Transfer kind
Downloads ids before after outcome =
    IsDownload ids before.keeping after.keeping (transfer_outside before) (transfer_outside after) outcome
    × (may_end_download outcome ≡ true)

-- one such transfer ran, in a session whose key is the next word of chance, and its outcome was told. Whatever the status, device and
-- server are as that outcome leaves them
pub record IsTransferRun {kind : WireKind} (Does : Transfer kind) (host : HostKey) (status : ℕ) (before after : SyncOutside kind) (old new : Option (List ℕ)) : Type 0 where
  pub word : ℕ
  pub outcome : Outcome
  pub drawn : GivesNext before.words after.words word
  pub does : Does (ids_of host word) before after outcome
  pub thrice : HasLostThrice before.health after.health before.wire.silence after.wire.silence outcome
  pub shown : ShowsRefusal before.wire.reading after.wire.reading after.wire.said outcome
  pub device : StaysUnlessFinished before.keeping after.keeping outcome
  pub told : TellsOutcome outcome status old new

-- the same, by whether a collection is held. If none is, `no collection` is printed, and the status is 3. Memory may run out before
-- anything is asked
abbrev pub EndsTransferOn : {kind : WireKind} → Bool → Transfer kind → HostKey → ℕ → SyncOutside kind → SyncOutside kind → Option (List ℕ) → Option (List ℕ) → Type 0
EndsTransferOn true Does host status before after old new =
    IsTransferRun Does host status before after old new ⊎ (after ≡ before) × EndsUntold status old new
EndsTransferOn false Does host status before after old new =
    (after ≡ before) × EndsPrinting (codes "no collection") 3 status old new

-- how `upload` ends for the account of this host key
abbrev pub EndsUpload : {kind : WireKind} → Bool → HostKey → ℕ → SyncOutside kind → SyncOutside kind → Option (List ℕ) → Option (List ℕ) → Type 0
EndsUpload spares host status before after old new =
    EndsTransferOn before.keeping.headed.current (Uploads spares) host status before after old new

-- how `download` ends for the account of this host key
abbrev pub EndsDownload : {kind : WireKind} → HostKey → ℕ → SyncOutside kind → SyncOutside kind → Option (List ℕ) → Option (List ℕ) → Type 0
EndsDownload host status before after old new =
    EndsTransferOn before.keeping.headed.current Downloads host status before after old new

-- the statuses with which `download` ends
abbrev pub is_download_status : ℕ → Bool
is_download_status status =
    (status == 0) || (status == 3) || (status == 5) || (status == 6) || (status == 7) || (status == 8)
    || (status == 12) || (status == 13) || (status == 15)

-- the statuses with which `upload` ends: the device's own check may fail too
abbrev pub is_upload_status : ℕ → Bool
is_upload_status status = is_download_status status || (status == 14)

-- ---- what `finished` means
-- where the keeper told a collection and the wire a log with which a transfer may begin, this is true of the log after it
abbrev pub WhereBegun : {kind : WireKind} → Ids → SyncOutside kind → SyncOutside kind → (Collection → AccountState → Log → Log → Type 0) → Type 0
WhereBegun ids before after P = (c : Collection) (account : AccountState) (log : Log)
    → before.keeping ≡ holding c → before.wire.log ≡ Some log → MayTransfer (asker ids) account log
    → (now : Log) × (after.wire.log ≡ Some now) × P c account log now

-- the upload's session committed once, the device's content without its graves, and the device holds what was committed, with the last
-- sync at its moment
abbrev pub HasUploaded : {kind : WireKind} → Ids → SyncOutside kind → SyncOutside kind → Type 0
HasUploaded ids before after = WhereBegun ids before after
    (λ c account log now. (base : Collection) × IsUploaded (asker ids) c base account now after.keeping)

-- the device holds what was committed where the download was served, graves and usns too, with the last sync at its moment
abbrev pub HasDownloaded : {kind : WireKind} → Ids → SyncOutside kind → SyncOutside kind → Type 0
HasDownloaded ids before after = WhereBegun ids before after
    (λ c account log now. IsDownloaded (asker ids) account log now after.keeping)

-- ---- what any end leaves on the server
-- the session committed nothing, or once, the upload; so it is in any later log in which nothing but metas and what this upload asked has
-- its key
abbrev pub CommitsUploadOnce : {kind : WireKind} → Ids → SyncOutside kind → SyncOutside kind → Type 0
CommitsUploadOnce ids before after = WhereBegun ids before after
    (λ c account log now. (base : Collection) × (asked : List Ask)
    × HoldsLater (asker ids) base asked account now (UploadsAtMostOnce (asker ids).session.0 c base))

-- the session committed nothing; so it is in any later log of that kind
abbrev pub CommitsNothing : {kind : WireKind} → Ids → SyncOutside kind → SyncOutside kind → Type 0
CommitsNothing ids before after = WhereBegun ids before after
    (λ c account log now. (base : Collection) × (asked : List Ask)
    × HoldsLater (asker ids) base asked account now (λ past. commits_of (asker ids).session.0 past ≡ []))

-- this is true of the session whose key was the next word of chance
abbrev pub OfNext : {kind : WireKind} → (Ids → SyncOutside kind → SyncOutside kind → Type 0) → HostKey → SyncOutside kind → SyncOutside kind → Type 0
OfNext P host before after = (word : ℕ) × GivesNext before.words after.words word × P (ids_of host word) before after
