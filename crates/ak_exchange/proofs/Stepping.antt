-- One request more of a sync: what was asked is one more, and its reply is what the session answers.
use Rattle.std.specs.Prelude.{◌≡◌, ℕ, ◌+◌, false, List, [], ◌∷◌, ◌++◌, length, Option, Some, Result, IfOk}
use Rattle.std.proofs.Common.{sym, ap, subst, ◌∙◌, arith}
use Rattle.ak_client_wire.specs.Tries.{Answered}
use Rattle.ak_client_wire.specs.Wires.{WireKind, WireState}
use Rattle.ak_client_wire.specs.declared.asks.Unanswered.{Unanswered}
use Rattle.ak_exchange.proofs.Asking.{IsShown, plain_call}
use Rattle.ak_exchange.proofs.Replying.{asks_are, requests_count, requests_go_on}
use Rattle.ak_exchange.specs.Asked.{request_at}
use Rattle.ak_exchange.specs.Phases.{IsReached}
use Rattle.ak_faults.specs.Causes.{Health}
use Rattle.ak_keep.specs.Collections.{Collection}
use Rattle.ak_messages.specs.declared.replies.Give.{Give}
use Rattle.ak_messages.specs.declared.requests.Ask.{Ask}
use Rattle.ak_messages.specs.declared.requests.Request.{Request}
use Rattle.ak_protocol.specs.Accounts.{AccountState}
use Rattle.ak_session.specs.Answers.{answer_to}
use Rattle.ak_session.specs.Asks.{asks_of}
use Rattle.ak_session.specs.Contents.{answer}
use Rattle.ak_session.specs.Plans.{Asker, requests_from}
use Rattle.ak_session.specs.Requests.{asks_commit, is_download, is_meta}

pub answered_by : (s : Collection) (accepted : List Request) (request : Request) (asks : List Ask) → asks_of accepted ≡ asks
    → answer s accepted request ≡ answer_to s asks request.ask
unfolding answer
answered_by s accepted request asks is = ap (λ (l : List Ask). answer_to s l request.ask) is

module _ (who : Asker) (account : AccountState) (s : Collection) (asks : List Ask) (ask : Ask) where
  abbrev pub asked : List Request
  asked = requests_from who s.head.moment 1 asks

  -- its step is the number of those before it, the meta counted
  pub step_is : (step : ℕ) → step ≡ length asks + 1 → request_at who s.head.moment step ask ≡ request_at who s.head.moment (length asked + 1) ask
  step_is step is = ap (λ (n : ℕ). request_at who s.head.moment n ask)
      (is ∙ ap (λ (n : ℕ). n + 1) (sym (requests_count who s.head.moment 1 asks)))

  pub one_more : asked ++ request_at who s.head.moment (length asked + 1) ask ∷ [] ≡ requests_from who s.head.moment 1 (asks ++ ask ∷ [])
  one_more =
      let same : length asked + 1 ≡ 1 + length asks = ap (λ (n : ℕ). n + 1) (requests_count who s.head.moment 1 asks) ∙ omega arith in
      ap (λ (n : ℕ). asked ++ request_at who s.head.moment n ask ∷ []) same ∙ sym (requests_go_on who s.head.moment 1 asks ask)

  pub asks_one : {kind : WireKind} {T : Type 0} (before now : Health) (old new : WireState kind) (part : Give → Option T) (step : ℕ) (result : Result T Unanswered)
      → is_meta ask ≡ false → is_download ask ≡ false → asks_commit ask ≡ false → step ≡ length asks + 1
      → IsReached who account s asks old.log → Answered before now old new (request_at who s.head.moment step ask) part result
      → IsReached who account s (asks ++ ask ∷ []) new.log
      × IfOk result (λ (it : T). part (answer_to s asks ask) ≡ Some it)
  asks_one {kind} {T} before now old new part step result later reads commits is reached call =
      let made = plain_call who account s asked ask before now old new part result later reads commits reached
      (subst (λ (r : Request). Answered before now old new r part result) (step_is step is) call) in (
        subst (λ (l : List Request). IsShown who account s l new.log) one_more made.0,
        subst (λ (give : Give). IfOk result (λ (it : T). part give ≡ Some it))
            (answered_by s asked (request_at who s.head.moment (length asked + 1) ask) asks (asks_are who s.head.moment 1 asks)) made.1,
      )
