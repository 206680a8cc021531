-- That a transfer over a wire which tells its log never ends as stopped.
use Rattle.std.specs.Prelude.{◌≡◌, ◌==◌, if◌then◌else◌, ℤ, Bool, true, false, List, [], Option, Some, None, Result, Ok, Err, ok_or}
use Rattle.std.proofs.Common.{refl, sym, ap, ◌∙◌, inl, inr}
use Rattle.ak_client.specs.Greetings.{clock_stop, meta_of}
use Rattle.ak_client.specs.Outcomes.{outcome_at}
use Rattle.ak_client.specs.Syncs.{told_by}
use Rattle.ak_client.specs.declared.outcomes.Outcome.{Outcome}
use Rattle.ak_client.specs.declared.outcomes.Outcome.TheVariants as outcomes
use Rattle.ak_client_wire.specs.Forms.{meta_in}
use Rattle.ak_client_wire.specs.Tries.{Answered, granted_in, in_form}
use Rattle.ak_client_wire.specs.Wires.{WireKind}
use Rattle.ak_client_wire.specs.declared.asks.Unanswered.{Unanswered}
use Rattle.ak_client_wire.specs.declared.asks.Unanswered.TheVariants as unanswered
use Rattle.ak_client_wire.specs.declared.wires.MetaSaid.{MetaSaid}
use Rattle.ak_client_wire.specs.declared.wires.WireEnd.TheVariants as ends
use Rattle.ak_exchange.specs.Stops.{wire_stop}
use Rattle.ak_exchange.specs.declared.envelopes.Ids.{Ids}
use Rattle.ak_keep.specs.Keepers.{Keeping}
use Rattle.ak_merge.specs.Edits.{second_of}
use Rattle.ak_messages.specs.declared.replies.Reply.{Reply}
use Rattle.ak_messages.specs.declared.requests.Ask.{Ask}
use Rattle.ak_messages.specs.declared.requests.Whole.{Whole}
use Rattle.ak_protocol.proofs.Commits.{not_both}
use Rattle.ak_protocol.specs.Logs.{Log}
use Rattle.ak_sync_completes.proofs.Serving.{Answer}
use Rattle.ak_sync_completes.proofs.Stopping.{clocks_other, is_stopped, said_goes}
use Rattle.ak_transfer_laws.proofs.Meeting.{err_ok, ok_same}
use Rattle.ak_transfers.specs.Greetings.{Line, TransferOutside}
use Rattle.ak_transfers.specs.Transfers.{Continues, DownloadEnds, Errand, Follows, IsDownload, IsTransfer, IsUpload, StopsUpload, TransferEnds, UploadEnds, download_errand, upload_errand}
use Rattle.ak_transfers.specs.declared.asks.UploadMoments.{UploadMoments}

-- a meta whose answer comes to this said it
said_by : (answer : Answer) (said : MetaSaid) → in_form meta_in (granted_in answer) ≡ Ok said → told_by answer ≡ Some said
said_by (Err ends.Failed) said is = absurd (err_ok unanswered.Lost said is)
said_by (Err ends.BadReply) said is = absurd (err_ok unanswered.BadReply said is)
said_by (Err ends.Memory) said is = absurd (err_ok unanswered.Memory said is)
said_by (Ok reply) said is = by (reply.status == 200) is
  where
    part : (o : Option MetaSaid) → ok_or o unanswered.BadReply ≡ Ok said → o ≡ Some said
    part None found = absurd (err_ok unanswered.BadReply said found)
    part (Some one) found = ap Some (ok_same one said found)

    by : (b : Bool) → in_form meta_in (if b then Ok reply.give else Err (unanswered.Refused reply.status reply.word reply.seen)) ≡ Ok said
        → (if b then meta_in reply.give else None) ≡ Some said
    by true found = part (meta_in reply.give) found
    by false found = absurd (err_ok (unanswered.Refused reply.status reply.word reply.seen) said found)

-- a request that is not granted is no such end
wire_other : (why : Unanswered) → is_stopped (outcome_at (wire_stop why)) ≡ false
wire_other unanswered.Lost = refl
wire_other unanswered.BadReply = refl
wire_other (unanswered.Refused status word seen) = refl
wire_other unanswered.Memory = refl

module _ {kind : WireKind} {T : Type 0} (errand : Errand T) (ids : Ids) (old : Log) (was now : TransferOutside kind) (outcome : Outcome) (told : was.line.wire.log ≡ Some old)
    (unasked : errand.stops outcome → is_stopped outcome ≡ false) (ended : (ask : Ask) (given : T) → errand.ends ask given outcome → is_stopped outcome ≡ false) where
  asked_other : (ask : Ask) (answer : Result T Unanswered) → TransferEnds errand ask answer outcome → is_stopped outcome ≡ false
  asked_other ask (Err why) is = ap is_stopped is ∙ wire_other why
  asked_other ask (Ok given) how = ended ask given how

  met_other : (said : MetaSaid) (second : ℤ) (asked : List Ask) (met : Line kind) → said.cont ≡ true → (why : Option Outcome) → clock_stop said second ≡ why
      → Continues errand ids said why asked met now.line outcome → is_stopped outcome ≡ false
  met_other said second asked met cont (Some why) found (nothing, is) = ap is_stopped is ∙ clocks_other said second why cont found
  met_other said second asked met cont None found (inl (nothing, how)) = unasked how
  met_other said second asked met cont None found (inr once) = asked_other once.ask once.answer once.ends

  transfer_other : (asked : List Ask) → IsTransfer errand ids asked was now outcome → is_stopped outcome ≡ false
  transfer_other asked it = by it.answer it.meta it.follows
    where
      by : (answer : Result MetaSaid Unanswered) → Answered was.line.health it.met.health was.line.wire it.met.wire (meta_of ids) meta_in answer
          → Follows errand ids answer asked (record was { line = it.met }) now outcome → is_stopped outcome ≡ false
      by (Err why) heard (nothing, moments, is) = ap is_stopped is ∙ wire_other why
      by (Ok said) heard (at, given, continues) =
          let cont : said.cont ≡ true =
          said_goes ids old was.line.health it.met.health was.line.wire it.met.wire told heard.answer [] [] (it.met.health, it.met.wire, heard.tried, (refl, refl)) said
          (said_by heard.answer said (sym heard.came)) in
          met_other said (second_of at) asked it.met cont (clock_stop said (second_of at)) refl continues

pub upload_never_stopped : {kind : WireKind} (spares : Bool) (ids : Ids) (old : Log) (before left : Keeping) (was now : TransferOutside kind) (outcome : Outcome)
    → was.line.wire.log ≡ Some old → IsUpload spares ids before left was now outcome → outcome ≡ outcomes.Stopped → ⊥
upload_never_stopped spares ids old before left was now outcome told it stopped =
    not_both (ap is_stopped stopped) (transfer_other (upload_errand spares before left) ids old was now outcome told unasked ended it.asked it.transfer)
  where
    unasked : StopsUpload before outcome → is_stopped outcome ≡ false
    unasked (inl (fault, is, first)) = ap is_stopped is
    unasked (inr (inl is)) = ap is_stopped is
    unasked (inr (inr is)) = ap is_stopped is

    ended : (ask : Ask) (given : UploadMoments) → UploadEnds spares before left ask given outcome → is_stopped outcome ≡ false
    ended ask given (inl (whole, asked, is, held)) = ap is_stopped is
    ended ask given (inr (inl is)) = ap is_stopped is
    ended ask given (inr (inr (is, takes))) = ap is_stopped is

pub download_never_stopped : {kind : WireKind} (ids : Ids) (old : Log) (before left : Keeping) (was now : TransferOutside kind) (outcome : Outcome)
    → was.line.wire.log ≡ Some old → IsDownload ids before left was now outcome → outcome ≡ outcomes.Stopped → ⊥
download_never_stopped ids old before left was now outcome told it stopped =
    not_both (ap is_stopped stopped) (transfer_other (download_errand before left) ids old was now outcome told (λ none. absurd none) ended it.asked it.transfer)
  where
    ended : (ask : Ask) (given : Whole) → DownloadEnds before left ask given outcome → is_stopped outcome ≡ false
    ended ask given (inl (may, is, held)) = ap is_stopped is
    ended ask given (inr (inl (unheld, is))) = ap is_stopped is
    ended ask given (inr (inr (inl is))) = ap is_stopped is
    ended ask given (inr (inr (inr is))) = ap is_stopped is
