-- What an upload and a download ask and leave.
use Rattle.std.specs.List.{AllByRecursion}
use Rattle.std.specs.Prelude.{◌≡◌, ℕ, ℤ, Bool, true, false, List, [], ◌∷◌, ◌++◌, Option, Some, None, Result, Ok, Err, ⊤, ◌⊎◌}
use Rattle.ak_base.specs.declared.heads.Head.{Head}
use Rattle.ak_base.specs.declared.names.Name.{Name}
use Rattle.ak_base.specs.declared.rows.Row.{Row}
use Rattle.ak_client.specs.Greetings.{clock_stop, meta_of}
use Rattle.ak_client.specs.Outcomes.{outcome_at}
use Rattle.ak_client.specs.Syncs.{IsCommittedIn, IsShown, world_at}
use Rattle.ak_client.specs.declared.outcomes.Outcome.{Outcome}
use Rattle.ak_client.specs.declared.outcomes.Outcome.TheVariants as outcomes
use Rattle.ak_exchange.specs.Asked.{asker, request_at}
use Rattle.ak_exchange.specs.Phases.{holding}
use Rattle.ak_exchange.specs.Stops.{wire_stop}
use Rattle.ak_exchange.specs.declared.envelopes.Ids.{Ids}
use Rattle.ak_io.specs.Arrivals.{GivesNext}
use Rattle.ak_keep.specs.Collections.{Collection}
use Rattle.ak_keep.specs.Keepers.{Keeping, WhereHeld, WhereTold, committed, marked_here, replaced}
use Rattle.ak_merge.specs.Commits.{IsCopyOf, IsUploadOf, uploaded_rows}
use Rattle.ak_merge.specs.Edits.{second_of}
use Rattle.ak_merge.specs.Holdings.{has_tag, row_under}
use Rattle.ak_merge.specs.Soundness.{first_fault}
use Rattle.ak_merge.specs.declared.checks.CheckFault.{CheckFault}
use Rattle.ak_messages.specs.declared.replies.Give.{Give}
use Rattle.ak_messages.specs.declared.requests.Ask.{Ask}
use Rattle.ak_messages.specs.declared.requests.Ask.TheVariants as asks
use Rattle.ak_messages.specs.declared.requests.Request.{Request}
use Rattle.ak_messages.specs.declared.requests.Whole.{Whole}
use Rattle.ak_protocol.specs.Accounts.{AccountState}
use Rattle.ak_protocol.specs.Commits.{CommitsGrow}
use Rattle.ak_protocol.specs.LawfulServers.{IsLawfulAccount}
use Rattle.ak_protocol.specs.Logs.{Event, Asked, Commit, Log, IsTimely, commits_of, events_of, with_growth}
use Rattle.ak_protocol.specs.Serving.{Setback}
use Rattle.ak_protocol.specs.Sessions.{IsOwnOrOther}
use Rattle.ak_protocol.specs.Syncs.{IsUnused}
use Rattle.ak_session.specs.Closings.{whole_brought}
use Rattle.ak_session.specs.Plans.{Asker, requests_from}
use Rattle.ak_session.specs.Uploads.{whole_to_send, without_graves}
use Rattle.ak_transfers.specs.Forms.{MayBeHeld, downloaded_head, uploaded_in, whole_in}
use Rattle.ak_transfers.specs.Greetings.{Line, TransferOutside}
use Rattle.ak_transfers.specs.UploadParts.{uploaded_device_head}
use Rattle.ak_transfers.specs.declared.asks.UploadMoments.{UploadMoments}
use Rattle.ak_client_wire.specs.Forms.{meta_in}
use Rattle.ak_client_wire.specs.Tries.{Answered}
use Rattle.ak_client_wire.specs.declared.asks.Unanswered.{Unanswered}
use Rattle.ak_client_wire.specs.declared.wires.MetaSaid.{MetaSaid}
use Rattle.ak_client_wire.specs.Wires.{WireKind}

-- ---- over any keeper and wire
-- what a transfer may ask once its meta and the clocks let it go on, and how it ends then
pub record Errand (T : Type 0) : Type 1 where
  -- what it may ask, and the form of what it is given
  pub asks : Ask → Type 0
  pub part : Give → Option T
  -- how it may end without having asked it
  pub stops : Outcome → Type 0
  -- how it may end if this was asked and that was given
  pub ends : Ask → T → Outcome → Type 0

-- nothing more was asked of the wire
pub record AsksNothing {kind : WireKind} (asked : List Ask) (was now : Line kind) : Type 0 where
  pub none : asked ≡ []
  pub same : now ≡ was

-- how it ends by what its request came to: if it was not granted, for that reason
abbrev pub TransferEnds : {T : Type 0} → Errand T → Ask → Result T Unanswered → Outcome → Type 0
TransferEnds errand ask (Err why) outcome = outcome ≡ outcome_at (wire_stop why)
TransferEnds errand ask (Ok given) outcome = errand.ends ask given outcome

-- one request more was asked, over this moment: it was tried at most 3 times, again only after a call that got no answer
pub record AsksOnce {kind : WireKind} {T : Type 0} (errand : Errand T) (ids : Ids) (moment : ℤ) (asked : List Ask) (was now : Line kind)
    (outcome : Outcome) : Type 0 where
  pub ask : Ask
  pub may : errand.asks ask
  pub only : asked ≡ ask ∷ []
  pub answer : Result T Unanswered
  pub heard : Answered was.health now.health was.wire now.wire (request_at (asker ids) moment 1 ask) errand.part answer
  pub ends : TransferEnds errand ask answer outcome

-- what follows once a meta that said this and the clocks let it go on: nothing more is asked, or once
abbrev pub MayAsk : {kind : WireKind} {T : Type 0} → Errand T → Ids → ℤ → List Ask → Line kind → Line kind → Outcome → Type 0
MayAsk errand ids moment asked was now outcome =
    (AsksNothing asked was now × errand.stops outcome) ⊎ AsksOnce errand ids moment asked was now outcome

-- what follows a meta that said this, by whether the server and the clocks give a reason to end it
abbrev pub Continues : {kind : WireKind} {T : Type 0} → Errand T → Ids → MetaSaid → Option Outcome → List Ask → Line kind → Line kind → Outcome → Type 0
Continues errand ids said (Some why) asked was now outcome = AsksNothing asked was now × (outcome ≡ why)
Continues errand ids said None asked was now outcome = MayAsk errand ids said.moment asked was now outcome

-- what follows a meta by what it was answered. One that was not granted ends it for that reason, and takes no moment of the clock. One that was
-- granted takes the next
abbrev pub Follows : {kind : WireKind} {T : Type 0} → Errand T → Ids → Result MetaSaid Unanswered → List Ask → TransferOutside kind → TransferOutside kind → Outcome → Type 0
Follows errand ids (Err why) asked was now outcome =
    AsksNothing asked was.line now.line × (now.moments ≡ was.moments) × (outcome ≡ outcome_at (wire_stop why))
Follows errand ids (Ok said) asked was now outcome = (at : ℤ) × GivesNext was.moments now.moments at
    × Continues errand ids said (clock_stop said (second_of at)) asked was.line now.line outcome

-- a transfer, which asked these after its meta
pub record IsTransfer {kind : WireKind} {T : Type 0} (errand : Errand T) (ids : Ids) (asked : List Ask) (was now : TransferOutside kind)
    (outcome : Outcome) : Type 0 where
  pub answer : Result MetaSaid Unanswered
  pub met : Line kind
  pub meta : Answered was.line.health met.health was.line.wire met.wire (meta_of ids) meta_in answer
  pub follows : Follows errand ids answer asked (record was { line = met }) now outcome

-- a keeper once these rows and this head were put in place of all that it held, and committed
abbrev pub put_in_place : List Row → Head → Keeping → Keeping
put_in_place rows head k = committed (replaced rows head (marked_here k))

-- ---- what is told
-- when a transfer may begin: nothing but metas has its session key so far, and the account is lawful
pub record MayTransfer (who : Asker) (account : AccountState) (log : Log) : Type 0 where
  pub unused : IsUnused who.host.digits who.session.0 account log
  pub lawful : IsLawfulAccount (world_at who account log).state

-- the log grew, by what came at moments that a clock may tell, and what is committed changed at commits alone
pub record Grew (who : Asker) (account : AccountState) (old now : Log) (growth : List Event) : Type 0 where
  pub grown : now ≡ with_growth old growth
  pub timely : AllByRecursion IsTimely growth
  pub server : CommitsGrow (world_at who account old) (world_at who account now)

-- this holds of the commits of its session now, and in any later log in which nothing but metas and what it asked has the session key
abbrev pub HoldsLater : Asker → Collection → List Ask → AccountState → Log → (List Commit → Type 0) → Type 0
HoldsLater who base asked account now Holds = (later : List Event)
    → AllByRecursion IsTimely later
    → AllByRecursion (IsOwnOrOther who.session.0 (requests_from who base.head.moment 1 asked) base.head.moment)
    (events_of who.host.digits later)
    → Holds (world_at who account (with_growth now later)).commits

-- ---- an upload
-- how an upload may end before it asks more than its meta: the device's own collection has a fault, the keeper failed, or memory ran out
abbrev pub StopsUpload : Keeping → Outcome → Type 0
StopsUpload before outcome = ((fault : CheckFault) × (outcome ≡ outcomes.OwnCheck fault)
    × WhereTold before (λ h. first_fault h.rows ≡ Some fault))
    ⊎ ((outcome ≡ outcomes.Keep) ⊎ (outcome ≡ outcomes.Memory))

-- what it asks: the device's collection without its graves, which has no fault
pub record AsksUpload (before : Keeping) (ask : Ask) : Type 0 where
  pub whole : Whole
  pub is : ask ≡ asks.Upload whole
  pub sound : WhereTold before (λ h. first_fault h.rows ≡ None)
  pub sent : WhereHeld before (λ c. whole ≡ whole_to_send c)

-- how it may end once the server told the moments: what was sent is what the device holds, as the server does; or the keeper failed. Memory runs
-- out then only if the keeper's last calls take some
abbrev pub UploadEnds : Bool → Keeping → Keeping → Ask → UploadMoments → Outcome → Type 0
UploadEnds spares before left ask told outcome =
    ((whole : Whole) × (ask ≡ asks.Upload whole) × (outcome ≡ outcomes.Finished)
    × (left ≡ put_in_place (uploaded_rows whole.rows) (uploaded_device_head whole told) before))
    ⊎ ((outcome ≡ outcomes.Keep) ⊎ ((outcome ≡ outcomes.Memory) × (spares ≡ false)))

-- what an upload asks and how it ends, of a keeper that spares memory or does not
abbrev pub upload_errand : Bool → Keeping → Keeping → Errand UploadMoments
upload_errand spares before left = record {
  asks = AsksUpload before;
  part = uploaded_in;
  stops = StopsUpload before;
  ends = UploadEnds spares before left;
}

-- what an upload of a device's collection c leaves in place of what was committed: its content without the graves, each row and tag with the
-- usn 0, the usn 1, and moments past those of both
pub record HoldsUpload (c base after : Collection) : Type 0 where
  pub replaces : IsUploadOf (whole_brought (whole_to_send c)) base after
  pub rows : (name : Name) → row_under after name ≡ without_graves (row_under c) name
  pub tags : (name : List ℕ) → has_tag after.head.tags name ≡ has_tag c.head.tags name

-- the one commit of an upload of c, over a base
pub record UploadedAt (key : ℕ) (c base : Collection) (past : List Commit) : Type 0 where
  pub after : Collection
  pub only : commits_of key past ≡ record { key = key; before = base; after = after } ∷ []
  pub holds : HoldsUpload c base after

-- a session committed nothing, or once, the upload
abbrev pub UploadsAtMostOnce : ℕ → Collection → Collection → List Commit → Type 0
UploadsAtMostOnce key c base past = (commits_of key past ≡ []) ⊎ UploadedAt key c base past

-- what an upload leaves if it reports that it is finished: its session committed once, the device's content without its graves; and the device
-- holds that collection, with the last sync at its moment
pub record IsUploaded (who : Asker) (c base : Collection) (account : AccountState) (now : Log) (left : Keeping) : Type 0 where
  pub committed : UploadedAt who.session.0 c base (world_at who account now).commits
  pub device : Collection
  pub holds : left ≡ holding device
  pub copy : IsCopyOf committed.after device

-- what an upload of c that asked these after its meta makes of the log and of the keeper
pub record Uploaded (who : Asker) (asked : List Ask) (c : Collection) (account : AccountState) (old now : Log)
    (left : Keeping) (outcome : Outcome) : Type 0 where
  pub growth : List Event
  pub grew : Grew who account old now growth
  -- the collection that was committed where its meta was answered, if it asked more, and what the log shows of it
  pub base : Collection
  pub at_meta : (asked ≡ []) ⊎ IsCommittedIn who account old growth base
  pub asks : (asked ≡ []) ⊎ (asked ≡ asks.Upload (whole_to_send c) ∷ [])
  pub shown : IsShown who account base base.head.moment asked now
  -- it committed nothing if it asked nothing more, and at most once in any case, also if its request comes later than it waited for it
  pub unasked : asked ≡ [] → commits_of who.session.0 (world_at who account now).commits ≡ []
  pub once : HoldsLater who base asked account now (UploadsAtMostOnce who.session.0 c base)
  pub finished : outcome ≡ outcomes.Finished → IsUploaded who c base account now left

-- the same wherever the keeper tells a collection, and the wire a log with which it may begin
abbrev pub UploadsTold : Ids → List Ask → Keeping → Keeping → Option Log → Option Log → Outcome → Type 0
UploadsTold ids asked before left told_before told_now outcome = (old : Log) → told_before ≡ Some old
    → (now : Log) × (told_now ≡ Some now) × ((c : Collection) (account : AccountState) → before ≡ holding c
    → MayTransfer (asker ids) account old → Uploaded (asker ids) asked c account old now left outcome)

-- an upload: what it asks and how it ends, over any keeper and wire; and what that makes of what they tell
pub record IsUpload {kind : WireKind} (spares : Bool) (ids : Ids) (before left : Keeping) (was now : TransferOutside kind) (outcome : Outcome) : Type 0 where
  pub asked : List Ask
  pub transfer : IsTransfer (upload_errand spares before left) ids asked was now outcome
  pub told : UploadsTold ids asked before left was.line.wire.log now.line.wire.log outcome

-- how an upload may end: with no need to send the whole collection, with no chunks and no sanity check
abbrev pub may_end_upload : Outcome → Bool
may_end_upload outcomes.NoChanges = false
may_end_upload (outcomes.FullSchema device server) = false
may_end_upload (outcomes.FullSequence usn) = false
may_end_upload (outcomes.BadRow fault) = false
may_end_upload (outcomes.BadCounts client server) = false
may_end_upload outcomes.TooManyChunks = false
may_end_upload outcome = true

-- ---- a download
-- how a download may end once a whole collection was given: that is what the device holds, if it may be held; else the reply is bad; or the
-- keeper failed or memory ran out
abbrev pub DownloadEnds : Keeping → Keeping → Ask → Whole → Outcome → Type 0
DownloadEnds before left ask whole outcome =
    (MayBeHeld whole × (outcome ≡ outcomes.Finished) × (left ≡ put_in_place whole.rows (downloaded_head whole) before))
    ⊎ (((MayBeHeld whole → ⊥) × (outcome ≡ outcomes.BadReply))
    ⊎ ((outcome ≡ outcomes.Keep) ⊎ (outcome ≡ outcomes.Memory)))

-- what a download asks and how it ends. Nothing stops it between its meta and its request
abbrev pub download_errand : Keeping → Keeping → Errand Whole
download_errand before left = record {
  asks = λ ask. ask ≡ asks.Download;
  part = whole_in;
  stops = λ outcome. ⊥;
  ends = DownloadEnds before left;
}

-- a download of this session was served at a place of what came to the account, where this collection was committed
pub record IsServedOver (who : Asker) (account : AccountState) (old now : Log) (base : Collection) : Type 0 where
  pub front : List Event
  pub rest : List Event
  pub request : Request
  pub at : ℤ
  pub setback : Setback
  pub own : request.session ≡ who.session
  pub ask : request.ask ≡ asks.Download
  pub grown : now ≡ with_growth old (front ++ Asked request at setback ∷ rest)
  pub place : (world_at who account (with_growth old front)).state.committed ≡ base

-- what a download leaves if it reports that it is finished: the device holds what was committed where it was served, graves and usns too, with
-- the last sync at its moment
pub record IsDownloaded (who : Asker) (account : AccountState) (old now : Log) (left : Keeping) : Type 0 where
  pub base : Collection
  pub place : IsServedOver who account old now base
  pub device : Collection
  pub holds : left ≡ holding device
  pub copy : IsCopyOf base device

-- what a download that asked these after its meta makes of the log and of the keeper
pub record Downloaded (who : Asker) (asked : List Ask) (account : AccountState) (old now : Log)
    (left : Keeping) (outcome : Outcome) : Type 0 where
  pub growth : List Event
  pub grew : Grew who account old now growth
  -- the collection that was committed where its meta was answered, if it asked more, and what the log shows of it
  pub base : Collection
  pub shown : IsShown who account base base.head.moment asked now
  -- it commits nothing, now or later
  pub never : HoldsLater who base asked account now (λ past. commits_of who.session.0 past ≡ [])
  pub finished : outcome ≡ outcomes.Finished → IsDownloaded who account old now left

-- the same wherever the keeper tells a collection, and the wire a log with which it may begin
abbrev pub DownloadsTold : Ids → List Ask → Keeping → Keeping → Option Log → Option Log → Outcome → Type 0
DownloadsTold ids asked before left told_before told_now outcome = (old : Log) → told_before ≡ Some old
    → (now : Log) × (told_now ≡ Some now) × ((c : Collection) (account : AccountState) → before ≡ holding c
    → MayTransfer (asker ids) account old → Downloaded (asker ids) asked account old now left outcome)

-- a download: what it asks and how it ends, over any keeper and wire; and what that makes of what they tell
pub record IsDownload {kind : WireKind} (ids : Ids) (before left : Keeping) (was now : TransferOutside kind) (outcome : Outcome) : Type 0 where
  pub asked : List Ask
  pub transfer : IsTransfer (download_errand before left) ids asked was now outcome
  pub told : DownloadsTold ids asked before left was.line.wire.log now.line.wire.log outcome

-- how a download may end: as an upload may, but for a fault of the device's own collection
abbrev pub may_end_download : Outcome → Bool
may_end_download (outcomes.OwnCheck fault) = false
may_end_download outcome = may_end_upload outcome

-- ---- the device
-- the device is as it was, unless the transfer is finished
abbrev pub StaysUnlessFinished : Keeping → Keeping → Outcome → Type 0
StaysUnlessFinished before left outcomes.Finished = ⊤
StaysUnlessFinished before left outcome = left ≡ before
