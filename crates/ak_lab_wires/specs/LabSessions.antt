-- A sync, an upload and a download of a device over a wire in memory, between whose calls others may act.
use Rattle.std.specs.Prelude.{◌≡◌, ◌≢◌, ℕ, ℤ, pos, Bool, true, List, [], ◌∷◌, length, Option, Some, Result, Ok, Err, ⊤, codes}
use Rattle.ak_call_counts.specs.CallCounts.{no_calls}
use Rattle.ak_client.specs.Greetings.{meta_of}
use Rattle.ak_client.specs.Syncs.{IsSyncSparing, KeepsDevice}
use Rattle.ak_client.specs.declared.outcomes.Outcome.{Outcome}
use Rattle.ak_client.specs.declared.outcomes.Outcome.TheVariants as outcomes
use Rattle.ak_client_wire.specs.Tries.{AreCallsOf, MadeCall}
use Rattle.ak_client_wire.specs.Wires.{WireKind, more}
use Rattle.ak_client_wire.specs.declared.asks.Unanswered.{Unanswered}
use Rattle.ak_client_wire.specs.declared.wires.MetaSaid.{MetaSaid}
use Rattle.ak_client_wire.specs.declared.wires.WireEnd.{WireEnd}
use Rattle.ak_exchange.specs.Asked.{TriedAsk, answers_in, asker, asks_in}
use Rattle.ak_exchange.specs.declared.envelopes.Ids.{Ids}
use Rattle.ak_faults.specs.Calls.{names_none}
use Rattle.ak_faults.specs.Causes.{Health, one_more}
use Rattle.ak_keep.specs.Keepers.{Keeping}
use Rattle.ak_lab_devices.specs.Devices.{given_outside, keeping_of}
use Rattle.ak_lab_devices.specs.declared.devices.Device.{Device}
use Rattle.ak_lab_lines.specs.declared.lab_lines.Direction.TheVariants as directions
use Rattle.ak_lab_wires.specs.declared.lab_sessions.SessionKind.{SessionKind}
use Rattle.ak_lab_wires.specs.declared.lab_sessions.SessionKind.TheVariants as kinds
use Rattle.ak_messages.specs.declared.replies.Reply.{Reply}
use Rattle.ak_messages.specs.declared.requests.Ask.{Ask}
use Rattle.ak_messages.specs.declared.requests.Request.{Request}
use Rattle.ak_session.specs.Plans.{requests_from}
use Rattle.ak_sync_in_memory.specs.Betweens.{Acting}
use Rattle.ak_sync_in_memory.specs.Entries.{LoggedState}
use Rattle.ak_sync_in_memory.specs.LoopWires.{Delivers, LoopInside, health_over, inside_with, loop_kind, state_of_loop}
use Rattle.ak_sync_in_memory.specs.Mishaps.{loses_nothing}
use Rattle.ak_sync_in_memory.specs.declared.mishaps.Mishap.{Mishap}
use Rattle.ak_transfers.specs.Greetings.{TransferOutside}
use Rattle.ak_transfers.specs.Transfers.{IsDownload, IsUpload, StaysUnlessFinished, may_end_download, may_end_upload}

-- ---- what is asked
-- the digits of the host key of the server's account
abbrev pub lab_host : List ℕ
lab_host = codes "aaaaaaaaaaaaaaaaaaaaaaaaaaaaaaaa"

-- whose session it is: the server's account's, with this key
pub record IsLabIds (key : ℕ) (ids : Ids) : Type 0 where
  pub host : ids.host.digits ≡ lab_host
  pub session : ids.session.0 ≡ key

-- the requests of a sync that asked these after its meta, over the moment that this told
abbrev pub sent_by : Ids → ℤ → List TriedAsk → List Request
sent_by ids moment tries = meta_of ids ∷ requests_from (asker ids) moment 1 (asks_in tries)

-- the moment over which an upload or a download asks: the one that its meta told. Without one it asks nothing
abbrev pub moment_told : Result MetaSaid Unanswered → ℤ
moment_told (Ok said) = said.moment
moment_told (Err why) = pos 0

-- ---- a session, by its kind
-- how a session goes, over a keeper that spares memory and whatever wire, and for which reason it ends
abbrev pub EndsByKind : {kind : WireKind} → SessionKind → Ids → Keeping → Keeping → TransferOutside kind → TransferOutside kind → Outcome → Type 0
EndsByKind kinds.Sync ids before left was now outcome =
    IsSyncSparing true ids before left was.line.health now.line.health was.line.wire now.line.wire was.moments outcome
EndsByKind (kinds.Transfer directions.Upload) ids before left was now outcome =
    IsUpload true ids before left was now outcome
EndsByKind (kinds.Transfer directions.Download) ids before left was now outcome =
    IsDownload ids before left was now outcome

-- with which outcomes it may end
abbrev pub MayEnd : SessionKind → Outcome → Type 0
MayEnd kinds.Sync outcome = ⊤
MayEnd (kinds.Transfer directions.Upload) outcome = may_end_upload outcome ≡ true
MayEnd (kinds.Transfer directions.Download) outcome = may_end_download outcome ≡ true

-- the device is as the outcome says: after an upload and a download as it was, if they did not finish
abbrev pub LeavesDevice : SessionKind → Keeping → Keeping → Option (List ℤ) → Option (List ℤ) → Outcome → Type 0
LeavesDevice kinds.Sync before left to_come_before to_come outcome =
    KeepsDevice 1 before left to_come_before to_come outcome
LeavesDevice (kinds.Transfer direction) before left to_come_before to_come outcome =
    StaysUnlessFinished before left outcome

-- how many calls a device knows of then: those of its last sync
abbrev pub calls_known_after : SessionKind → ℕ → ℕ → ℕ
calls_known_after kinds.Sync before made = made
calls_known_after (kinds.Transfer direction) before made = before

-- the calls of a keeper that fail in a session: in a sync those that are planned, in an upload and a download none
abbrev pub fails_in : SessionKind → List ℕ → List ℕ
fails_in kinds.Sync planned = planned
fails_in (kinds.Transfer direction) planned = []

-- those that are planned after it: a sync uses them up, whether it reached them or not
abbrev pub fails_after : SessionKind → List ℕ → List ℕ
fails_after kinds.Sync planned = []
fails_after (kinds.Transfer direction) planned = planned

-- ---- its calls
-- these calls are the tries of a meta that came to this and told this, and of what was asked after it
abbrev pub AsksInCalls : Ids → Result MetaSaid Unanswered → Result Reply WireEnd → List Ask → List MadeCall → Type 0
AsksInCalls ids told meta asked calls =
    (tries : List TriedAsk) × (asks_in tries ≡ asked)
    × AreCallsOf (sent_by ids (moment_told told) tries) (meta ∷ answers_in tries) calls

-- these calls are the tries of what a session asked, in step order
abbrev pub CallsByKind : {kind : WireKind} (it : SessionKind) (ids : Ids) (before left : Keeping) (was now : TransferOutside kind)
    (outcome : Outcome) → EndsByKind it ids before left was now outcome → List MadeCall → Type 0
CallsByKind kinds.Sync ids before left was now outcome ended calls =
    AreCallsOf (sent_by ids ended.ended.sync.asked.moment ended.ended.sync.asked.tries) (ended.ended.sync.asked.meta ∷ answers_in ended.ended.sync.asked.tries) calls
CallsByKind (kinds.Transfer directions.Upload) ids before left was now outcome ended calls =
    AsksInCalls ids ended.transfer.answer ended.transfer.meta.answer ended.asked calls
CallsByKind (kinds.Transfer directions.Download) ids before left was now outcome ended calls =
    AsksInCalls ids ended.transfer.answer ended.transfer.meta.answer ended.asked calls

-- calls from this number on: before each, others acted; then its request was served as often as the mishaps of its number say, at this moment, or
-- not at all if memory ran out before. What was served is written down with the line that is set
abbrev pub ComeInCalls : {X : Type 0} → Acting X → (X → Bool) → List Mishap → ℤ → ℕ → List MadeCall → X → X → LoggedState → LoggedState → Type 0
ComeInCalls acts idle mishaps at number [] was now old new = (now ≡ was) × (new ≡ old)
ComeInCalls {X} acts idle mishaps at number (it ∷ calls) was now old new =
    (mid : X) × (met : LoggedState) × Delivers acts idle number mishaps was mid old met it.request at it.answer
    × ComeInCalls acts idle mishaps at (one_more number) calls mid now met new

-- ---- a session over a wire
-- what is known of a wire before its first call, and of the clock of the device
abbrev pub before_calls : {X : Type 0} (acts : Acting X) (idle : X → Bool) → LoggedState → X → ℤ → List Mishap → List ℤ
    → TransferOutside (loop_kind acts idle)
before_calls acts idle old was at mishaps moments =
    given_outside (health_over no_calls mishaps) (state_of_loop acts idle (inside_with old was at mishaps no_calls)) (Some moments)

-- a device had a session of this kind and key with the server, over a wire that these mishaps happen to, and between whose calls somebody acts.
-- The server's clock stands at one moment, and the device's gives these
pub record IsSessionOver {X : Type 0} (acts : Acting X) (idle : X → Bool) (kind : SessionKind) (key : ℕ) (at : ℤ) (moments : List ℤ)
    (mishaps : List Mishap) (d made : Device) (was became : X) (old new : LoggedState) (outcome : Outcome) : Type 0 where
  pub ids : Ids
  pub of : IsLabIds key ids
  -- it went as such a session goes, and ended for the reason that the replies and the clock gave
  pub health : Health
  pub end : LoopInside X
  pub to_come : Option (List ℤ)
  pub ended : EndsByKind kind ids (keeping_of d) (keeping_of made) (before_calls acts idle old was at mishaps moments)
      (given_outside health (state_of_loop acts idle end) to_come) outcome
  pub between : end.between ≡ became
  pub server : end.server ≡ new
  pub may : MayEnd kind outcome
  -- the device's keeper did not fail, if none of its calls is to; and no request was lost, if nothing is
  pub unfailed : names_none (fails_in kind d.fails) ≡ true → outcome ≢ outcomes.Keep
  pub unlost : loses_nothing mishaps ≡ true → outcome ≢ outcomes.Lost
  -- its calls are the tries of what it asked, step by step; and of each, what came before it and how it fared
  pub calls : List MadeCall
  pub asked : CallsByKind kind ids (keeping_of d) (keeping_of made) (before_calls acts idle old was at mishaps moments)
      (given_outside health (state_of_loop acts idle end) to_come) outcome ended calls
  pub come : ComeInCalls acts idle mishaps at 0 calls was became old new
  pub counted : end.counts.calls ≡ more (length calls) 0
  -- the device is as the outcome says, with nothing to undo, knows how many calls its last sync made, and of its keeper no call is to fail after
  -- a sync
  pub device : LeavesDevice kind (keeping_of d) (keeping_of made) (Some moments) to_come outcome
  pub rest : made ≡ record d {
    collection = made.collection;
    undo = [];
    calls = calls_known_after kind d.calls end.counts.calls;
    fails = fails_after kind d.fails;
  }
