-- A request that is served twice in a row, and one whose reply is lost.
use Rattle.std.specs.Prelude.{◌≡◌, ◌||◌, Bool, true, false, ℕ, ℤ, List, Result, Ok, Err, IfOk}
use Rattle.std.proofs.Common.{refl, subst, arith}
use Rattle.ak_base.specs.declared.errors.Memory.{Memory}
use Rattle.ak_client_wire.specs.declared.wires.WireEnd.{WireEnd}
use Rattle.ak_client_wire.specs.declared.wires.WireEnd.TheVariants as ends
use Rattle.ak_messages.specs.declared.replies.Reply.{Reply}
use Rattle.ak_messages.specs.declared.requests.Request.{Request}
use Rattle.ak_sync_in_memory.specs.Betweens.{ActEnd, Acting, ComesBetween, StaysIdle}
use Rattle.ak_sync_in_memory.specs.Entries.{LoggedState}
use Rattle.ak_sync_in_memory.specs.LoggedServers.{IsServed}
use Rattle.ak_sync_in_memory.specs.LoopWires.{Delivers, Fares, FaresAfter, ServesInARow, ServesUpTo, times_of}
use Rattle.ak_sync_in_memory.specs.Mishaps.{is_lost, servings}
use Rattle.ak_sync_in_memory.specs.declared.mishaps.Mishap.{Mishap}

pub twice_served : (old mid new : LoggedState) (request : Request) (now : ℤ) (first : Reply) (repeats : Bool) (result : Result Reply Memory) → repeats ≡ true
    → IsServed old mid request now first → IfOk result (IsServed mid new request now) → IfOk result (ServesInARow (times_of false repeats) old new request now)
twice_served old mid new request now first true (Ok reply) is one two = (mid, first, one, two)
twice_served old mid new request now first true (Err end) is one two = tt
twice_served old mid new request now first false result is one two = absurd (grind (arith, is))

pub reply_lost : (old new : LoggedState) (request : Request) (now : ℤ) (reply : Reply) (lost loses repeats : Bool) → lost ≡ false → loses ≡ true
    → ServesInARow (times_of false repeats) old new request now reply → (lost || loses ≡ true) × ServesUpTo (times_of lost repeats) old new request now
reply_lost old new request now reply true loses repeats none is row = absurd (grind (arith, none))
reply_lost old new request now reply false loses true none is row = (is, (reply, row))
reply_lost old new request now reply false loses false none is row = (is, (reply, row))

module _ {B : Type 0} (acts : Acting B) (idle : B → Bool) (call : ℕ) (mishaps : List Mishap) (was became : B) (old met : LoggedState) (request : Request) (now : ℤ)
    (came : ActEnd) (acted : acts call request.session.0 was became old met came) (before : ComesBetween request.session.0 old met)
    (quiet : StaysIdle (idle was) (idle became) old met) where
  delivers : (new : LoggedState) (result : Result Reply WireEnd) → FaresAfter came call mishaps met new request now result
      → Delivers acts idle call mishaps was became old new request now result
  delivers new result fares = record { met = met; came = came; acted = acted; before = before; quiet = quiet; fares = fares }

module _ {B : Type 0} (acts : Acting B) (idle : B → Bool) (call : ℕ) (mishaps : List Mishap) (was became : B) (old met : LoggedState) (request : Request) (now : ℤ) where
  pub delivered : (done : Unit {0}) → acts call request.session.0 was became old met (Ok done) → ComesBetween request.session.0 old met
      → StaysIdle (idle was) (idle became) old met → (new : LoggedState) (result : Result Reply WireEnd) (lost : Bool) (times : ℕ)
      → lost ≡ is_lost call mishaps → times ≡ servings call mishaps → Fares lost times met new request now result
      → Delivers acts idle call mishaps was became old new request now result
  delivered done acted before quiet new result lost times lost_so times_so fares =
      delivers acts idle call mishaps was became old met request now (Ok done) acted before quiet new result
      (subst (λ (b : Bool). Fares b (servings call mishaps) met new request now result) lost_so
      (subst (λ (n : ℕ). Fares lost n met new request now result) times_so fares))

  pub not_delivered : (end : Memory) → acts call request.session.0 was became old met (Err end) → ComesBetween request.session.0 old met
      → StaysIdle (idle was) (idle became) old met → Delivers acts idle call mishaps was became old met request now (Err ends.Memory)
  not_delivered end acted before quiet =
      delivers acts idle call mishaps was became old met request now (Err end) acted before quiet met (Err ends.Memory) (refl, refl)
