-- Where nothing was uploaded, lines that do not upload leave it so.
use Rattle.std.specs.List.{AllByRecursion}
use Rattle.std.specs.Prelude.{◌≡◌, ℕ, zero, suc, ℤ, false, List, [], ◌∷◌, Option, Some, None, Result, Ok, Err, replicate}
use Rattle.std.proofs.Common.{sym, ap, subst, inl, inr}
use Rattle.ak_client.specs.Greetings.{clock_stop}
use Rattle.ak_client.specs.declared.outcomes.Outcome.{Outcome}
use Rattle.ak_client_wire.specs.Wires.{WireKind}
use Rattle.ak_client_wire.specs.declared.asks.Unanswered.{Unanswered}
use Rattle.ak_client_wire.specs.declared.wires.MetaSaid.{MetaSaid}
use Rattle.ak_exchange.specs.Asked.{answers_in}
use Rattle.ak_exchange.specs.Grants.{SendsRows}
use Rattle.ak_exchange.specs.declared.envelopes.Ids.{Ids}
use Rattle.ak_faults.specs.Causes.{one_more}
use Rattle.ak_io.specs.declared.lines.Line.{Line}
use Rattle.ak_keep.specs.Collections.{Collection}
use Rattle.ak_keep.specs.Keepers.{Keeping}
use Rattle.ak_lab.specs.LabStates.{LabState, at_line}
use Rattle.ak_lab.specs.LabSteps.{Accepts, SideHolds}
use Rattle.ak_lab.specs.LabSyncs.{EndsTransfer}
use Rattle.ak_lab.specs.LineOutcomes.{EndsAs}
use Rattle.ak_lab_joins.proofs.CrossedLab.{calls_stay, sync_uploads_none}
use Rattle.ak_lab_joins.proofs.Keys.{AreOwnCalls, UploadsNone, all_served_none, append_none, asked_none, own_calls}
use Rattle.ak_lab_joins.proofs.NoUploads.{past_uploads_none}
use Rattle.ak_lab_joins.specs.LabJoins.{HasNoUpload, SaysNoUpload, UploadsNothing}
use Rattle.ak_lab_lines.specs.declared.lab_lines.Direction.TheVariants as directions
use Rattle.ak_lab_lines.specs.declared.lab_lines.LabLine.{LabLine}
use Rattle.ak_lab_lines.specs.declared.lab_lines.LabLine.TheVariants as lines
use Rattle.ak_lab_lines.specs.declared.lab_lines.Side.{Side}
use Rattle.ak_lab_lines.specs.declared.lab_lines.Side.TheVariants as sides
use Rattle.ak_lab_wires.proofs.Between.{named_asked}
use Rattle.ak_lab_wires.specs.LabSessions.{moment_told}
use Rattle.ak_lab_wires.specs.Servings.{named_from, requests_in}
use Rattle.ak_lab_wires.specs.declared.lab_sessions.SessionKind.TheVariants as kinds
use Rattle.ak_line_runs.specs.LineRuns.{Accepted}
use Rattle.ak_merge.specs.Edits.{second_of}
use Rattle.ak_messages.specs.declared.requests.Ask.{Ask}
use Rattle.ak_protocol.specs.Accounts.{AccountState}
use Rattle.ak_sync_in_memory.specs.Copies.{IsViewed}
use Rattle.ak_sync_in_memory.specs.Entries.{LoggedState, entry_of, log_in}
use Rattle.ak_sync_in_memory.specs.declared.logs.Logged.TheVariants as logged
use Rattle.ak_transfers.specs.Greetings.{Line as WireLine, TransferOutside}
use Rattle.ak_transfers.specs.Transfers.{AsksNothing, AsksOnce, Continues, Follows, IsDownload, MayAsk, download_errand}

-- ---- a download
-- it asks for a download after its meta, and for nothing else
module _ {kind : WireKind} (ids : Ids) (before left : Keeping) (asked : List Ask) (outcome : Outcome) where
  nothing_asked : (was now : WireLine kind) → AsksNothing asked was now → AllByRecursion SendsRows asked
  nothing_asked was now it = subst (AllByRecursion SendsRows) (sym it.none) tt

  once_asked : (was now : WireLine kind) (moment : ℤ) → AsksOnce (download_errand before left) ids moment asked was now outcome → AllByRecursion SendsRows asked
  once_asked was now moment it =
      subst (AllByRecursion SendsRows) (sym it.only) (subst (λ (ask : Ask). AllByRecursion SendsRows (ask ∷ [])) (sym it.may) (tt, tt))

  may_asked : (was now : WireLine kind) (moment : ℤ) → MayAsk (download_errand before left) ids moment asked was now outcome → AllByRecursion SendsRows asked
  may_asked was now moment (inl nothing) = nothing_asked was now nothing.0
  may_asked was now moment (inr once) = once_asked was now moment once

  continued : (was now : WireLine kind) (said : MetaSaid) (why : Option Outcome) → Continues (download_errand before left) ids said why asked was now outcome
      → AllByRecursion SendsRows asked
  continued was now said (Some why) it = nothing_asked was now it.0
  continued was now said None it = may_asked was now said.moment it

  followed : (was now : TransferOutside kind) (met : WireLine kind) (answer : Result MetaSaid Unanswered)
      → Follows (download_errand before left) ids answer asked (record was { line = met }) now outcome → AllByRecursion SendsRows asked
  followed was now met (Err why) it = nothing_asked met now.line it.0
  followed was now met (Ok said) it = continued met now.line said (clock_stop said (second_of it.0)) it.2

download_rows : {kind : WireKind} (ids : Ids) (before left : Keeping) (was now : TransferOutside kind) (outcome : Outcome) (it : IsDownload ids before left was now outcome)
    → AllByRecursion SendsRows it.asked
download_rows ids before left was now outcome it =
    followed ids before left it.asked outcome was now it.transfer.met it.transfer.answer it.transfer.follows

download_none : (account : AccountState) (name : List ℕ) (s t : LabState) (outcome : Outcome) → EndsTransfer directions.Download name s t outcome
    → HasNoUpload s.server → HasNoUpload t.server
download_none account name s t outcome ends none =
    let session = ends.runs.session in
    let asked = session.asked in
    let rows = download_rows session.ids _ _ _ _ outcome session.ended in
    let own : AreOwnCalls (one_more s.sessions) session.calls =
    own_calls (one_more s.sessions) session.ids (moment_told session.ended.transfer.answer) asked.0 (session.ended.transfer.meta.answer ∷ answers_in asked.0) session.calls
    session.of.session (subst (AllByRecursion SendsRows) (sym asked.1) rows) asked.2 in
    (calls_stay account false (kinds.Transfer directions.Download) name s t [] outcome ends own).grows.uploads none

-- ---- what is looked at
views_only : (n line : ℕ) → AllByRecursion UploadsNone (requests_in (replicate n (entry_of line logged.Viewed)))
views_only zero line = tt
views_only (suc n) line = views_only n line

viewed_none : (old new : LoggedState) → IsViewed old new → HasNoUpload old → HasNoUpload new
viewed_none old new viewed none =
    subst HasNoUpload (sym viewed.adds)
    (append_none old.entries (replicate viewed.views (entry_of old.line logged.Viewed)) none (views_only viewed.views old.line))

same_none : (s t : LabState) → t.server ≡ s.server → HasNoUpload s.server → HasNoUpload t.server
same_none s t same none = subst HasNoUpload (sym same) none

looked_none : (side : Side) (s t : LabState) (c : Collection) → SideHolds side s t c → HasNoUpload s.server → HasNoUpload t.server
looked_none sides.Server s t c (committed, reads) none = viewed_none s.server t.server reads.viewed none
looked_none (sides.Device name) s t c holds none = same_none s t (ap (λ (x : LabState). x.server) holds.0) none

-- ---- a line
said_none : (account : AccountState) (said : LabLine) (s t : LabState) (printed : List (List ℕ)) → UploadsNothing said → Accepts said s t printed
    → HasNoUpload s.server → HasNoUpload t.server
said_none account (lines.Clock at) s t printed quiet (in_time, left, nothing) none = same_none s t (ap (λ (x : LabState). x.server) left) none
said_none account (lines.Device name) s t printed quiet (adds, nothing) none = viewed_none s.server t.server adds.read none
said_none account (lines.Shift name by) s t printed quiet (shifts, nothing) none = same_none s t (ap (λ (x : LabState). x.server) shifts.left) none
said_none account (lines.Review name card ease count) s t printed quiet (done, nothing) none = same_none s t (ap (λ (x : LabState). x.server) done.left) none
said_none account (lines.Do name text) s t printed quiet (answer, done, is) none = same_none s t (ap (λ (x : LabState). x.server) done.left) none
said_none account (lines.Sync name) s t printed quiet (outcome, text, crossed, ended, told, is) none = sync_uploads_none account false name s t crossed outcome ended none
said_none account (lines.Disturb name call what) s t printed quiet (plan, nothing) none = same_none s t (ap (λ (x : LabState). x.server) plan.left) none
said_none account (lines.Cross name call other) s t printed quiet (o, found, plan, nothing) none = same_none s t (ap (λ (x : LabState). x.server) plan.left) none
said_none account (lines.Replay name call from count) s t printed quiet (has, plan, nothing) none = same_none s t (ap (λ (x : LabState). x.server) plan.left) none
said_none account (lines.Resend from count) s t printed quiet resends none =
    all_served_none (named_from from count (requests_in s.server.entries)) resends.replies s.clock s.server t.server
    (asked_none (log_in s.server).events (past_uploads_none s.server.host s.server.entries none) (named_from from count (requests_in s.server.entries)) (named_asked from count s.server))
    resends.serves none
said_none account (lines.Break sides.Server) s t printed quiet (left, nothing) none = same_none s t (ap (λ (x : LabState). x.server) left) none
said_none account (lines.Break (sides.Device name)) s t printed quiet (plan, nothing) none = same_none s t (ap (λ (x : LabState). x.server) plan.left) none
said_none account (lines.Transfer directions.Upload name) s t printed quiet accepts none = absurd quiet
said_none account (lines.Transfer directions.Download name) s t printed quiet (outcome, text, ended, told, is) none = download_none account name s t outcome ended none
said_none account (lines.Show side what) s t printed quiet (c, holds, is) none = looked_none side s t c holds none
said_none account (lines.Count side) s t printed quiet (c, holds, is) none = looked_none side s t c holds none
said_none account (lines.Requests name) s t printed quiet is none = same_none s t (ap (λ (x : LabState). x.server) is.0) none

pub line_none : (account : AccountState) (number : ℕ) (line : Line) (s t : LabState) (printed : List (List ℕ)) → SaysNoUpload line → EndsAs number line s t (Accepted printed)
    → HasNoUpload s.server → HasNoUpload t.server
line_none account number line s t printed quiet (inl nothing) none = subst HasNoUpload (sym (ap (λ (x : LabState). x.server) nothing.0)) none
line_none account number line s t printed quiet (inr (said, says, accepts)) none = said_none account said (at_line number s) t printed (quiet said says) accepts none
