-- What the tries of one request make of a wire, and what they come to.
use Rattle.std.specs.Prelude.{◌≡◌, ℕ, zero, suc, ◌≤◌, ◌==◌, Bool, true, false, if◌then◌else◌, List, [], ◌∷◌, ◌++◌, Option, Result, Ok, Err, ok_or}
use Rattle.std.specs.Result.{IsErrOf}
use Rattle.ak_client_wire.specs.Wires.{WireKind, WireState, Called, Carries, StaysAlone, more, said_after}
use Rattle.ak_client_wire.specs.declared.asks.Unanswered.{Unanswered}
use Rattle.ak_client_wire.specs.declared.asks.Unanswered.TheVariants as unanswered
use Rattle.ak_client_wire.specs.declared.wires.WireEnd.{WireEnd}
use Rattle.ak_client_wire.specs.declared.wires.WireEnd.TheVariants as ends
use Rattle.ak_faults.specs.Causes.{Health, GoesOn, HasCauseOf}
use Rattle.ak_messages.specs.declared.replies.Give.{Give}
use Rattle.ak_messages.specs.declared.replies.Reply.{Reply}
use Rattle.ak_messages.specs.declared.requests.Request.{Request}

-- ---- the tries
-- whether a call got no answer
abbrev pub is_failed : Result Reply WireEnd → Bool
is_failed (Err ends.Failed) = true
is_failed (Err ends.BadReply) = false
is_failed (Err ends.Memory) = false
is_failed (Ok reply) = false

-- so many calls were made of a wire with this request: each but the last got no answer, and this is what the last one answered
abbrev pub AreCalls : {kind : WireKind} → ℕ → Health → Health → WireState kind → WireState kind → Request → Result Reply WireEnd → Type 0
AreCalls zero before now old new request result = ⊥
AreCalls (suc zero) before now old new request result = Called before now old new request result
AreCalls {kind} (suc (suc n)) before now old new request result =
    (between : Health) × (mid : WireState kind) × Called before between old mid request (Err ends.Failed)
    × AreCalls (suc n) between now mid new request result

-- how many calls in a row failed, once a request was tried: three more if it was lost, and none otherwise
abbrev pub silence_tried : ℕ → Result Reply WireEnd → ℕ
silence_tried before result = if is_failed result then more 3 before else 0

-- a request was tried: at most 3 times, again only after a call that got no answer. It ends with a failure only at the third try
pub record Tried {kind : WireKind} (before now : Health) (old new : WireState kind) (request : Request) (result : Result Reply WireEnd) : Type 0 where
  pub tries : ℕ
  pub most : tries ≤ 3
  pub each : AreCalls tries before now old new request result
  pub third : IsErrOf result ends.Failed → tries ≡ 3
  -- to the log that is told they are one call
  pub carries : Carries old.log new.log request result
  -- the count of faults rose at each failure; a wire that is calm has none
  pub goes : GoesOn before now
  pub lost : IsErrOf result ends.Failed → more 3 before.faults ≤ now.faults
  pub unfailed : before.calm ≡ true → IsErrOf result ends.Failed → ⊥
  pub unread : HasCauseOf ends.BadReply old.reading new.reading result
  pub silence : new.silence ≡ silence_tried old.silence result
  pub said : new.said ≡ said_after request result
  pub calls : new.calls ≡ more tries old.calls
  pub alone : StaysAlone old new request

-- ---- the calls that they are
-- a call that was made
pub record MadeCall : Type 0 where
  pub request : Request
  pub answer : Result Reply WireEnd

-- the calls of so many tries of a request that was answered so: all but the last got no answer
abbrev pub calls_of : ℕ → Request → Result Reply WireEnd → List MadeCall
calls_of zero request answer = []
calls_of (suc zero) request answer = record { request = request; answer = answer } ∷ []
calls_of (suc (suc n)) request answer = record { request = request; answer = Err ends.Failed } ∷ calls_of (suc n) request answer

-- how often a request may have been tried that was answered so: once to 3 times, and 3 times if it ends with a failure
pub record MayTry (tries : ℕ) (answer : Result Reply WireEnd) : Type 0 where
  pub some : 1 ≤ tries
  pub most : tries ≤ 3
  pub third : IsErrOf answer ends.Failed → tries ≡ 3

-- these calls are the tries of these requests, which were answered so, in their order
abbrev pub AreCallsOf : List Request → List (Result Reply WireEnd) → List MadeCall → Type 0
AreCallsOf [] [] calls = calls ≡ []
AreCallsOf [] (answer ∷ answers) calls = ⊥
AreCallsOf (request ∷ requests) [] calls = ⊥
AreCallsOf (request ∷ requests) (answer ∷ answers) calls =
    (tries : ℕ) × (later : List MadeCall) × MayTry tries answer × (calls ≡ calls_of tries request answer ++ later)
    × AreCallsOf requests answers later

-- these calls were made one after the other, each of which does what a wire of this kind does, from one inside to another
abbrev pub AreMade : (kind : WireKind) → List MadeCall → kind.Inside → kind.Inside → Type 0
AreMade kind [] old new = new ≡ old
AreMade kind (call ∷ calls) old new =
    (mid : kind.Inside) × kind.does old mid call.request call.answer × AreMade kind calls mid new

-- ---- what they come to
-- what a reply grants: its status is 200
abbrev pub granted_by : Reply → Result Give Unanswered
granted_by reply =
    if reply.status == 200 then Ok reply.give else Err (unanswered.Refused reply.status reply.word reply.seen)

-- what an answer grants, or why it grants nothing
abbrev pub granted_in : Result Reply WireEnd → Result Give Unanswered
granted_in (Ok reply) = granted_by reply
granted_in (Err ends.Failed) = Err unanswered.Lost
granted_in (Err ends.BadReply) = Err unanswered.BadReply
granted_in (Err ends.Memory) = Err unanswered.Memory

-- the part of what is granted that this form finds. What is of another form is a bad reply
abbrev pub in_form : {T : Type 0} → (Give → Option T) → Result Give Unanswered → Result T Unanswered
in_form part (Ok give) = ok_or (part give) unanswered.BadReply
in_form part (Err why) = Err why

-- a request was tried, and its answer comes to this by its form
pub record Answered {kind : WireKind} {T : Type 0} (before now : Health) (old new : WireState kind) (request : Request) (part : Give → Option T)
    (result : Result T Unanswered) : Type 0 where
  pub answer : Result Reply WireEnd
  pub tried : Tried before now old new request answer
  pub came : result ≡ in_form part (granted_in answer)
