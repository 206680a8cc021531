-- What each act and each serving keeps, a whole session keeps.
use Rattle.std.specs.List.{AllByRecursion}
use Rattle.std.specs.Prelude.{◌≡◌, ℕ, zero, suc, ℤ, Bool, List, [], ◌∷◌, Ok, Err, Result}
use Rattle.std.proofs.Common.{refl, sym, subst, inl, inr}
use Rattle.ak_client_wire.specs.Tries.{MadeCall}
use Rattle.ak_client_wire.specs.declared.wires.WireEnd.{WireEnd}
use Rattle.ak_client_wire.specs.declared.wires.WireEnd.TheVariants as ends
use Rattle.ak_faults.specs.Causes.{one_more}
use Rattle.ak_lab_devices.specs.declared.plans.Planned.{Planned}
use Rattle.ak_lab_wires.specs.LabSessions.{ComeInCalls}
use Rattle.ak_lab_wires.specs.Servings.{AreServed}
use Rattle.ak_lab_wires.specs.Turns.{InTurn, TurnKind}
use Rattle.ak_messages.specs.declared.replies.Reply.{Reply}
use Rattle.ak_messages.specs.declared.requests.Request.{Request}
use Rattle.ak_sync_in_memory.specs.Betweens.{ActEnd, Acting}
use Rattle.ak_sync_in_memory.specs.Entries.{LoggedState}
use Rattle.ak_sync_in_memory.specs.LoggedServers.{IsServed}
use Rattle.ak_sync_in_memory.specs.LoopWires.{Delivers, Fares, FaresAfter, ServesInARow, ServesUpTo}
use Rattle.ak_sync_in_memory.specs.Mishaps.{is_lost, servings}
use Rattle.ak_sync_in_memory.specs.declared.mishaps.Mishap.{Mishap}

-- a relation between what a server was and what it is that holds of itself and goes on
pub record KeepsOn {X : Type 0} (R : X → X → LoggedState → LoggedState → Type 0) : Type 0 where
  pub same : (x : X) (s : LoggedState) → R x x s s
  pub further : (x y z : X) (a b c : LoggedState) → R x y a b → R y z b c → R x z a c

module _ {X : Type 0} (R : X → X → LoggedState → LoggedState → Type 0) (keeps : KeepsOn R) where
  same_as : (x y : X) (a b : LoggedState) → y ≡ x → b ≡ a → R x y a b
  same_as x y a b is stays =
      subst (λ (z : X). R x z a b) (sym is) (subst (λ (s : LoggedState). R x x a s) (sym stays) (keeps.same x a))

  -- ---- lines in turn
  pub turns_keep : (act : TurnKind X) → ((it : Planned) (x y : X) (a b : LoggedState) (came : ActEnd) → act it x y a b came → R x y a b)
      → (planned : List Planned) (x y : X) (a b : LoggedState) (came : ActEnd) → InTurn act planned x y a b came → R x y a b
  turns_keep act one [] x y a b came turn = same_as x y a b turn.0 turn.1
  turns_keep act one (it ∷ planned) x y a b came (inl (mid, met, first, rest)) =
      keeps.further x mid y a met b (one it x mid a met (Ok tt) first) (turns_keep act one planned mid y met b came rest)
  turns_keep act one (it ∷ planned) x y a b came (inr (end, first, is)) = one it x y a b (Err end) first

  -- ---- servings of requests of one sort
  module _ (Q : Request → Type 0) (at : ℤ)
      (served : (x : X) (a b : LoggedState) (request : Request) (reply : Reply) → Q request → IsServed a b request at reply → R x x a b) where
    pub all_served_keep : (requests : List Request) (replies : List Reply) (x : X) (a b : LoggedState) → AllByRecursion Q requests
        → AreServed requests at a b replies → R x x a b
    all_served_keep [] replies x a b all are = same_as x x a b refl are.0
    all_served_keep (request ∷ requests) [] x a b all are = absurd are
    all_served_keep (request ∷ requests) (reply ∷ replies) x a b all are =
        keeps.further x x x a are.0 b (served x a are.0 request reply all.0 are.1) (all_served_keep requests replies x are.0 b all.1 are.2)

    row_keeps : (n : ℕ) (x : X) (a b : LoggedState) (request : Request) (reply : Reply) → Q request → ServesInARow n a b request at reply → R x x a b
    row_keeps zero x a b request reply is row = absurd row
    row_keeps (suc zero) x a b request reply is row = served x a b request reply is row
    row_keeps (suc (suc n)) x a b request reply is row =
        keeps.further x x x a row.0 b (served x a row.0 request row.1 is row.2) (row_keeps (suc n) x row.0 b request reply is row.3)

    up_to_keeps : (n : ℕ) (x : X) (a b : LoggedState) (request : Request) → Q request → ServesUpTo n a b request at → R x x a b
    up_to_keeps zero x a b request is same = same_as x x a b refl same
    up_to_keeps (suc n) x a b request is row = row_keeps (suc n) x a b request row.0 is row.1

    fares_keep : (lost : Bool) (times : ℕ) (x : X) (a b : LoggedState) (request : Request) (answer : Result Reply WireEnd) → Q request
        → Fares lost times a b request at answer → R x x a b
    fares_keep lost times x a b request (Ok reply) is fares = row_keeps times x a b request reply is fares.1
    fares_keep lost times x a b request (Err ends.Failed) is fares = up_to_keeps times x a b request is fares.1
    fares_keep lost times x a b request (Err ends.BadReply) is fares = absurd fares
    fares_keep lost times x a b request (Err ends.Memory) is fares = up_to_keeps fares.0 x a b request is fares.2

    after_keeps : (came : ActEnd) (number : ℕ) (mishaps : List Mishap) (x : X) (a b : LoggedState) (request : Request) (answer : Result Reply WireEnd) → Q request
        → FaresAfter came number mishaps a b request at answer → R x x a b
    after_keeps (Ok done) number mishaps x a b request answer is fares =
        fares_keep (is_lost number mishaps) (servings number mishaps) x a b request answer is fares
    after_keeps (Err end) number mishaps x a b request answer is fares = same_as x x a b refl fares.1

    -- ---- a session's calls
    pub calls_keep : (acts : Acting X) (idle : X → Bool)
        → ((call session : ℕ) (x y : X) (a b : LoggedState) (came : ActEnd) → acts call session x y a b came → R x y a b)
        → (mishaps : List Mishap) (number : ℕ) (calls : List MadeCall) (x y : X) (a b : LoggedState)
        → AllByRecursion (λ (it : MadeCall). Q it.request) calls → ComeInCalls acts idle mishaps at number calls x y a b → R x y a b
    calls_keep acts idle acted mishaps number [] x y a b all come = same_as x y a b come.0 come.1
    calls_keep acts idle acted mishaps number (it ∷ calls) x y a b all come =
        let mid : X = come.0 in
        let met : LoggedState = come.1 in
        let one : Delivers acts idle number mishaps x mid a met it.request at it.answer = come.2 in
        keeps.further x mid y a met b
        (keeps.further x mid mid a one.met met (acted number it.request.session.0 x mid a one.met one.came one.acted)
        (after_keeps one.came number mishaps mid one.met met it.request it.answer all.0 one.fares))
        (calls_keep acts idle acted mishaps (one_more number) calls mid y met b all.1 come.3)
