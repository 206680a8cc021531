-- How a transfer goes on from its greeting.
use Rattle.std.specs.Prelude.{◌≡◌, ◌≢◌, ℤ, List, [], Option, Some, None, Result, Ok, Err}
use Rattle.std.proofs.Common.{refl, sym, ap, subst, ◌∙◌, arith}
use Rattle.ak_client.proofs.Testing.{of_clocks, passed, stopped_by}
use Rattle.ak_client.specs.Greetings.{clock_stop, meta_of}
use Rattle.ak_client.specs.Outcomes.{end_or_go, outcome_at}
use Rattle.ak_client.specs.declared.outcomes.Outcome.{Outcome}
use Rattle.ak_client.specs.declared.outcomes.Outcome.TheVariants as outcomes
use Rattle.ak_exchange.proofs.Faults.{same_err}
use Rattle.ak_exchange.specs.Stops.{wire_stop}
use Rattle.ak_exchange.specs.declared.envelopes.Ids.{Ids}
use Rattle.ak_io.specs.Arrivals.{GivesNext}
use Rattle.ak_merge.specs.Edits.{second_of}
use Rattle.ak_messages.specs.declared.requests.Ask.{Ask}
use Rattle.ak_transfers.specs.Greetings.{GreetsBy, GreetsFirst, Line, TransferOutside, met_or}
use Rattle.ak_transfers.specs.Transfers.{Continues, Errand, Follows, IsTransfer, MayAsk}
use Rattle.ak_client_wire.specs.Forms.{meta_in}
use Rattle.ak_client_wire.specs.Tries.{Answered}
use Rattle.ak_client_wire.specs.declared.asks.Unanswered.{Unanswered}
use Rattle.ak_client_wire.specs.declared.asks.Unanswered.TheVariants as unanswered
use Rattle.ak_client_wire.specs.declared.wires.MetaSaid.{MetaSaid}
use Rattle.ak_client_wire.specs.Wires.{WireKind}

same_said : (one other : MetaSaid) → (let going : Result MetaSaid Outcome = Ok one in going ≡ Ok other) → one ≡ other
same_said one other is = grind (arith, is)

err_ok : (outcome : Outcome) (said : MetaSaid) → Err outcome ≡ Ok said → ⊥
err_ok outcome said is = grind (arith, is)

-- ---- the greeting
module _ {kind : WireKind} (ids : Ids) (was now : TransferOutside kind) where
  abbrev Heard : Result MetaSaid Unanswered → Type 0
  Heard answer = Answered was.line.health now.line.health was.line.wire now.line.wire (meta_of ids) meta_in answer

  pub greets_unheard : (why : Unanswered) → Heard (Err why) → now.moments ≡ was.moments → GreetsFirst ids was now (Err (outcome_at (wire_stop why)))
  greets_unheard why heard still = record { answer = Err why; heard = heard; comes = (still, refl) }

  module _ (said : MetaSaid) (at second : ℤ) (heard : Heard (Ok said)) (given : GivesNext was.moments now.moments at) (is : second ≡ second_of at) where
    pub greets_stopped : (why : Outcome) → Err why ≡ end_or_go (clock_stop said second) → GreetsFirst ids was now (Err why)
    greets_stopped why ends_it = record {
      answer = Ok said;
      heard = heard;
      comes = (at, given, sym (ap (met_or said) (subst (λ (s : ℤ). clock_stop said s ≡ Some why) is (stopped_by (clock_stop said second) why (sym ends_it)))));
    }

    pub greets_on : Ok tt ≡ end_or_go (clock_stop said second) → GreetsFirst ids was now (Ok said)
    greets_on passes = record {
      answer = Ok said;
      heard = heard;
      comes = (at, given, sym (ap (met_or said) (subst (λ (s : ℤ). clock_stop said s ≡ None) is (passed (clock_stop said second) (sym passes)))));
    }

-- ---- what follows
-- a greeting that stops ends the transfer
pub unmet : {kind : WireKind} {T : Type 0} (errand : Errand T) (ids : Ids) (was now : TransferOutside kind) (outcome : Outcome) → GreetsFirst ids was now (Err outcome)
    → IsTransfer errand ids [] was now outcome
unmet errand ids was now outcome greets = record {
  answer = greets.answer;
  met = now.line;
  meta = greets.heard;
  follows = by greets.answer greets.comes;
}
  where
    goes : (said : MetaSaid) (o : Option Outcome) → Err outcome ≡ met_or said o → Continues errand ids said o [] now.line now.line outcome
    goes said (Some other) is = (record { none = refl; same = refl }, same_err {T = MetaSaid} outcome other is)
    goes said None is = absurd (err_ok outcome said is)

    by : (answer : Result MetaSaid Unanswered) → GreetsBy answer was.moments now.moments (Err outcome)
        → Follows errand ids answer [] (record was { line = now.line }) now outcome
    by (Err why) (still, is) = (record { none = refl; same = refl }, still, same_err {T = MetaSaid} outcome (outcome_at (wire_stop why)) is)
    by (Ok said) (at, given, is) = (at, given, goes said (clock_stop said (second_of at)) is)

-- one that lets it go on leads to what it asks then
pub met_on : {kind : WireKind} {T : Type 0} (errand : Errand T) (ids : Ids) (was mid : TransferOutside kind) (line : Line kind) (said : MetaSaid) (asked : List Ask) (outcome : Outcome)
    → GreetsFirst ids was mid (Ok said) → MayAsk errand ids said.moment asked mid.line line outcome
    → IsTransfer errand ids asked was (record { line = line; moments = mid.moments }) outcome
met_on {kind} {T} errand ids was mid line said asked outcome greets may = record {
  answer = greets.answer;
  met = mid.line;
  meta = greets.heard;
  follows = by greets.answer greets.comes;
}
  where
    goes : (own : MetaSaid) (o : Option Outcome) → Ok said ≡ met_or own o → Continues errand ids own o asked mid.line line outcome
    goes own (Some why) is = absurd (err_ok why said (sym is))
    goes own None is = subst (λ (m : MetaSaid). MayAsk errand ids m.moment asked mid.line line outcome) (same_said said own is) may

    by : (answer : Result MetaSaid Unanswered) → GreetsBy answer was.moments mid.moments (Ok said)
        → Follows errand ids answer asked (record was { line = mid.line }) (record { line = line; moments = mid.moments }) outcome
    by (Err why) (still, is) = absurd (err_ok (outcome_at (wire_stop why)) said (sym is))
    by (Ok own) (at, given, is) = (at, given, goes own (clock_stop own (second_of at)) is)

-- ---- a greeting asks nothing of the keeper
wire_unkept : (why : Unanswered) → outcome_at (wire_stop why) ≢ outcomes.Keep
wire_unkept unanswered.Lost is = grind (arith, is)
wire_unkept unanswered.BadReply is = grind (arith, is)
wire_unkept (unanswered.Refused status word seen) is = grind (arith, is)
wire_unkept unanswered.Memory is = grind (arith, is)

-- what a meta did not let go on has this reason
met_by : (said : MetaSaid) (o : Option Outcome) (outcome : Outcome) → Err outcome ≡ met_or said o → o ≡ Some outcome
met_by said None outcome is = absurd (err_ok outcome said is)
met_by said (Some why) outcome is = ap (λ (w : Outcome). Some w) (sym (same_err {T = MetaSaid} outcome why is))

pub greeting_unkept : {kind : WireKind} (ids : Ids) (was now : TransferOutside kind) (outcome : Outcome) → GreetsFirst ids was now (Err outcome) → outcome ≢ outcomes.Keep
greeting_unkept ids was now outcome greets = by greets.answer greets.comes
  where
    by : (answer : Result MetaSaid Unanswered) → GreetsBy answer was.moments now.moments (Err outcome) → outcome ≢ outcomes.Keep
    by (Err why) (still, is) = λ keep. wire_unkept why (sym (same_err {T = MetaSaid} outcome (outcome_at (wire_stop why)) is) ∙ keep)
    by (Ok said) (at, given, is) =
        of_clocks (λ (o : Outcome). o ≢ outcomes.Keep) (λ so. grind (arith, so)) (λ device server so. grind (arith, so)) said (second_of at) outcome
        (met_by said (clock_stop said (second_of at)) outcome is)
