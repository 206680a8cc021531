-- What a wire in memory tells, and what its calls make of the server that it leads to.
use Rattle.std.specs.Prelude.{◌≡◌, ◌<◌, ℕ, zero, suc, ℤ, if◌then◌else◌, Bool, true, false, List, Some, Result, Ok, Err}
use Rattle.ak_call_counts.specs.CallCounts.{counts_after}
use Rattle.ak_call_counts.specs.declared.call_counts.CallCounts.{CallCounts}
use Rattle.ak_client_wire.specs.Wires.{WireKind, WireState}
use Rattle.ak_client_wire.specs.declared.wires.WireEnd.{WireEnd}
use Rattle.ak_client_wire.specs.declared.wires.WireEnd.TheVariants as ends
use Rattle.ak_faults.specs.Causes.{Health}
use Rattle.ak_messages.specs.declared.replies.Reply.{Reply}
use Rattle.ak_messages.specs.declared.requests.Request.{Request}
use Rattle.ak_sync_in_memory.specs.Betweens.{ActEnd, Acting, ComesBetween, StaysIdle}
use Rattle.ak_sync_in_memory.specs.Entries.{LoggedState, log_in}
use Rattle.ak_sync_in_memory.specs.LoggedServers.{IsServed}
use Rattle.ak_sync_in_memory.specs.Mishaps.{is_lost, loses_nothing, servings}
use Rattle.ak_sync_in_memory.specs.declared.mishaps.Mishap.{Mishap}

-- ---- what it tells
-- how many of its calls failed. It is known not to fail if no mishap loses a message
abbrev pub health_over : CallCounts → List Mishap → Health
health_over c mishaps = record { faults = c.faults; calm = loses_nothing mishaps }

-- ---- what a call does
-- how often a request is served that is lost or not, and repeated or not
abbrev pub times_of : Bool → Bool → ℕ
times_of lost repeated = if lost then 0 else if repeated then 2 else 1

-- a request was served so many times in a row at this moment, at least once, and this is the reply to the last serving
abbrev pub ServesInARow : ℕ → LoggedState → LoggedState → Request → ℤ → Reply → Type 0
ServesInARow zero old new request now reply = ⊥
ServesInARow (suc zero) old new request now reply = IsServed old new request now reply
ServesInARow (suc (suc n)) old new request now reply =
    (mid : LoggedState) × (first : Reply) × IsServed old mid request now first
    × ServesInARow (suc n) mid new request now reply

-- the request was served so many times in a row, or not at all
abbrev pub ServesUpTo : ℕ → LoggedState → LoggedState → Request → ℤ → Type 0
ServesUpTo zero old new request now = new ≡ old
ServesUpTo (suc n) old new request now = (reply : Reply) × ServesInARow (suc n) old new request now reply

-- the request was served less often than so many times
abbrev pub ServesFewer : ℕ → LoggedState → LoggedState → Request → ℤ → Type 0
ServesFewer most old new request now = (times : ℕ) × (times < most) × ServesUpTo times old new request now

-- how a request fared that is to be served so many times, lost or not: it was served so, and answered with the last reply unless that is
-- lost. If memory ran out it was served less often
abbrev pub Fares : Bool → ℕ → LoggedState → LoggedState → Request → ℤ → Result Reply WireEnd → Type 0
Fares lost times old new request now (Ok reply) = (lost ≡ false) × ServesInARow times old new request now reply
Fares lost times old new request now (Err ends.Failed) = (lost ≡ true) × ServesUpTo times old new request now
Fares lost times old new request now (Err ends.BadReply) = ⊥
Fares lost times old new request now (Err ends.Memory) = ServesFewer times old new request now

-- a request fared so after what came between ended so: as the mishaps of the call of this number say; or memory ran out in what came, and it
-- was not served
abbrev pub FaresAfter : ActEnd → ℕ → List Mishap → LoggedState → LoggedState → Request → ℤ → Result Reply WireEnd → Type 0
FaresAfter (Ok done) call mishaps old new request now result =
    Fares (is_lost call mishaps) (servings call mishaps) old new request now result
FaresAfter (Err end) call mishaps old new request now result = (result ≡ Err ends.Memory) × (new ≡ old)

-- a call of this number: whoever acts between the calls did so, or nothing if they are known to be idle, and then its request fared as the
-- mishaps of the call say
pub record Delivers {B : Type 0} (acts : Acting B) (idle : B → Bool) (call : ℕ) (mishaps : List Mishap) (was became : B) (old new : LoggedState)
    (request : Request) (now : ℤ) (result : Result Reply WireEnd) : Type 0 where
  pub met : LoggedState
  pub came : ActEnd
  pub acted : acts call request.session.0 was became old met came
  pub before : ComesBetween request.session.0 old met
  pub quiet : StaysIdle (idle was) (idle became) old met
  pub fares : FaresAfter came call mishaps met new request now result

-- ---- the wire
-- what stands inside of a wire in memory: its server with all that it wrote down, whoever acts between its calls, the moment of its clock, its
-- mishaps, and its counts
pub record LoopInside (B : Type 0) : Type 0 where
  pub server : LoggedState
  pub between : B
  pub moment : ℤ
  pub mishaps : List Mishap
  pub counts : CallCounts

-- these inside of a wire
abbrev pub inside_with : {B : Type 0} → LoggedState → B → ℤ → List Mishap → CallCounts → LoopInside B
inside_with server between moment mishaps counts =
    record { server = server; between = between; moment = moment; mishaps = mishaps; counts = counts }

-- a call of a wire in memory delivers its request, counts it, and changes nothing else
pub record CallsLoop {B : Type 0} (acts : Acting B) (idle : B → Bool) (old new : LoopInside B) (request : Request)
    (result : Result Reply WireEnd) : Type 0 where
  pub delivers : Delivers acts idle old.counts.calls old.mishaps old.between new.between old.server new.server request old.moment result
  pub rest : new ≡ inside_with new.server new.between old.moment old.mishaps (counts_after old.counts request result)

-- the kind of a wire in memory between whose calls somebody acts so
abbrev pub loop_kind : {B : Type 0} → Acting B → (B → Bool) → WireKind
loop_kind {B} acts idle = record { Inside = LoopInside B; does = CallsLoop acts idle }

-- what is known of a wire with this inside: the log of its server, always; and each answer can be read. If whoever acts between its calls is
-- known to do nothing, it is alone
abbrev pub state_of_loop : {B : Type 0} (acts : Acting B) (idle : B → Bool) → LoopInside B → WireState (loop_kind acts idle)
state_of_loop acts idle it = record {
  log = Some (log_in it.server);
  reading = record { faults = 0; calm = true };
  silence = it.counts.silent;
  said = it.counts.said;
  calls = it.counts.calls;
  alone = idle it.between;
  inside = it;
}
