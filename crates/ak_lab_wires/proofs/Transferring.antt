-- What an upload and a download tried of their wire: a meta, and at most one request more.
use Rattle.std.proofs.Common.{◌≡◌, ℤ, pos, [], ◌∷◌, List, Option, Some, None, Result, Ok, Err, refl, sym, subst, inl, inr}
use Rattle.ak_client.specs.Greetings.{clock_stop}
use Rattle.ak_client.specs.declared.outcomes.Outcome.{Outcome}
use Rattle.ak_client_wire.specs.Wires.{WireKind}
use Rattle.ak_client_wire.specs.declared.asks.Unanswered.{Unanswered}
use Rattle.ak_client_wire.specs.declared.wires.MetaSaid.{MetaSaid}
use Rattle.ak_client_wire.specs.declared.wires.WireEnd.{WireEnd}
use Rattle.ak_exchange.specs.Asked.{AreTried, TriedAsk, answers_in, asks_in}
use Rattle.ak_exchange.specs.declared.envelopes.Ids.{Ids}
use Rattle.ak_lab_wires.specs.LabSessions.{moment_told, sent_by}
use Rattle.ak_merge.specs.Edits.{second_of}
use Rattle.ak_messages.specs.declared.replies.Reply.{Reply}
use Rattle.ak_messages.specs.declared.requests.Ask.{Ask}
use Rattle.ak_transfers.specs.Greetings.{Line, TransferOutside}
use Rattle.ak_transfers.specs.Transfers.{AsksNothing, AsksOnce, Continues, Errand, Follows, IsTransfer, MayAsk}

-- these were tried over this moment after a meta that came to this, one after the other
pub record TriesInTurn {kind : WireKind} (ids : Ids) (moment : ℤ) (meta : Result Reply WireEnd) (asked : List Ask) (was now : Line kind) : Type 0 where
  pub tries : List TriedAsk
  pub same : asks_in tries ≡ asked
  pub tried : AreTried (sent_by ids moment tries) (meta ∷ answers_in tries) was.health now.health was.wire now.wire

module _ {kind : WireKind} {T : Type 0} (errand : Errand T) (ids : Ids) (asked : List Ask) (was now : TransferOutside kind) (outcome : Outcome)
    (transfer : IsTransfer errand ids asked was now outcome) where
  abbrev met : Line kind
  met = transfer.met

  abbrev Tries : ℤ → Type 0
  Tries moment = TriesInTurn ids moment transfer.meta.answer asked was.line now.line

  -- nothing was tried after the meta
  nothing_more : (moment : ℤ) → AsksNothing asked met now.line → Tries moment
  nothing_more moment nothing = subst (TriesInTurn ids moment transfer.meta.answer asked was.line) (sym nothing.same) (record {
    tries = [];
    same = sym nothing.none;
    tried = (met.health, met.wire, transfer.meta.tried, (refl, refl));
  })

  -- one request was
  once_more : (moment : ℤ) → AsksOnce errand ids moment asked met now.line outcome → Tries moment
  once_more moment once = record {
    tries = record { ask = once.ask; answer = once.heard.answer } ∷ [];
    same = sym once.only;
    tried = (met.health, met.wire, transfer.meta.tried, (now.line.health, now.line.wire, once.heard.tried, (refl, refl)));
  }

  may_more : (moment : ℤ) → MayAsk errand ids moment asked met now.line outcome → Tries moment
  may_more moment (inl nothing) = nothing_more moment nothing.0
  may_more moment (inr once) = once_more moment once

  continued : (said : MetaSaid) (why : Option Outcome) → Continues errand ids said why asked met now.line outcome → Tries said.moment
  continued said (Some why) goes = nothing_more said.moment goes.0
  continued said None goes = may_more said.moment goes

  followed : (answer : Result MetaSaid Unanswered) → Follows errand ids answer asked (record was { line = met }) now outcome → Tries (moment_told answer)
  followed (Err why) goes = nothing_more (pos 0) goes.0
  followed (Ok said) (at, given, goes) = continued said (clock_stop said (second_of at)) goes

  pub transfer_tried : TriesInTurn ids (moment_told transfer.answer) transfer.meta.answer asked was.line now.line
  transfer_tried = followed transfer.answer transfer.follows
