-- What a download asks, and how it ends then.
use Rattle.std.specs.Prelude.{◌≡◌, ◌≢◌, List, [], ◌∷◌, Result, Ok, Err, ◌⊎◌}
use Rattle.std.proofs.Common.{refl, sym, ap, subst, ◌∙◌, inl, inr, arith}
use Rattle.ak_base.specs.declared.heads.Head.{Head}
use Rattle.ak_base.specs.declared.rows.Row.{Row}
use Rattle.ak_client.specs.Outcomes.{outcome_at}
use Rattle.ak_client.specs.declared.outcomes.Outcome.{Outcome}
use Rattle.ak_client.specs.declared.outcomes.Outcome.TheVariants as outcomes
use Rattle.ak_exchange.specs.Asked.{asker, request_at}
use Rattle.ak_exchange.specs.Stops.{keep_stop, wire_stop}
use Rattle.ak_exchange.specs.declared.envelopes.Ids.{Ids}
use Rattle.ak_keep.specs.Keepers.{Keeping}
use Rattle.ak_keep.specs.declared.keepers.KeepFault.{KeepFault}
use Rattle.ak_keep.specs.declared.keepers.KeepFault.TheVariants as faults
use Rattle.ak_messages.specs.declared.requests.Ask.{Ask}
use Rattle.ak_messages.specs.declared.requests.Ask.TheVariants as asks
use Rattle.ak_messages.specs.declared.requests.Whole.{Whole}
use Rattle.ak_transfers.proofs.Greeted.{met_on}
use Rattle.ak_transfers.specs.Forms.{MayBeHeld, downloaded_head, whole_in}
use Rattle.ak_transfers.specs.Greetings.{GreetsFirst, Line, TransferOutside}
use Rattle.ak_transfers.specs.Transfers.{DownloadEnds, IsTransfer, TransferEnds, download_errand, put_in_place}
use Rattle.ak_client_wire.specs.Tries.{Answered}
use Rattle.ak_client_wire.specs.declared.asks.Unanswered.{Unanswered}
use Rattle.ak_client_wire.specs.declared.wires.MetaSaid.{MetaSaid}
use Rattle.ak_client_wire.specs.Wires.{WireKind}

module _ {kind : WireKind} (ids : Ids) (before left : Keeping) (was mid : TransferOutside kind) (line : Line kind) (said : MetaSaid) (greets : GreetsFirst ids was mid (Ok said))
    (answer : Result Whole Unanswered)
    (heard : Answered mid.line.health line.health mid.line.wire line.wire (request_at (asker ids) said.moment 1 asks.Download) whole_in answer) where
  abbrev Ends : Outcome → Type 0
  Ends outcome = (asked : List Ask) × IsTransfer (download_errand before left) ids asked was (record { line = line; moments = mid.moments }) outcome

  asked_so : (outcome : Outcome) → TransferEnds (download_errand before left) asks.Download answer outcome → Ends outcome
  asked_so outcome ends = (
    asks.Download ∷ [],
    met_on (download_errand before left) ids was mid line said (asks.Download ∷ []) outcome greets
        (inr (record { ask = asks.Download; may = refl; only = refl; answer = answer; heard = heard; ends = ends })),
  )

  -- it was not granted
  pub not_granted : (why : Unanswered) → answer ≡ Err why → Ends (outcome_at (wire_stop why))
  not_granted why is = asked_so (outcome_at (wire_stop why)) (subst (λ (r : Result Whole Unanswered). TransferEnds (download_errand before left) asks.Download r (outcome_at (wire_stop why))) (sym is) refl)

  module _ (whole : Whole) (is : answer ≡ Ok whole) where
    granted : (outcome : Outcome) → DownloadEnds before left asks.Download whole outcome → Ends outcome
    granted outcome ends = asked_so outcome (subst (λ (r : Result Whole Unanswered). TransferEnds (download_errand before left) asks.Download r outcome) (sym is) ends)

    -- what was given may not be held, or memory ran out before that was known
    pub not_held : (outcome : Outcome) → (outcome ≡ outcomes.Memory) ⊎ ((outcome ≡ outcomes.BadReply) × (MayBeHeld whole → ⊥)) → Ends outcome
    not_held outcome (inl memory) = granted outcome (inr (inr (inr memory)))
    not_held outcome (inr (bad, never)) = granted outcome (inr (inl (never, bad)))

    -- the keeper refused it
    pub not_kept : (fault : KeepFault) → Ends (outcome_at (keep_stop fault))
    not_kept faults.Failed = granted outcomes.Keep (inr (inr (inl refl)))
    not_kept faults.Memory = granted outcomes.Memory (inr (inr (inr refl)))

    -- it is finished
    pub held : MayBeHeld whole → (rows : List Row) (head : Head) → rows ≡ whole.rows → head ≡ downloaded_head whole → left ≡ put_in_place rows head before
        → Ends outcomes.Finished
    held may rows head the_rows the_head put =
        granted outcomes.Finished
        (inl (may, refl, put ∙ ap (λ (list : List Row). put_in_place list head before) the_rows ∙ ap (λ (h : Head). put_in_place whole.rows h before) the_head))

-- what may not be held is no fault of the keeper
pub held_unkept : (outcome : Outcome) (P : Type 0) → (outcome ≡ outcomes.Memory) ⊎ ((outcome ≡ outcomes.BadReply) × P) → outcome ≢ outcomes.Keep
held_unkept outcome P (inl memory) = λ keep. let both = sym memory ∙ keep in grind (arith, both)
held_unkept outcome P (inr (bad, so)) = λ keep. let both = sym bad ∙ keep in grind (arith, both)
