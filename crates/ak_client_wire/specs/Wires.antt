-- What is known of a wire, and what one call makes of it.
use Rattle.std.specs.List.{AllByRecursion}
use Rattle.std.specs.Prelude.{◌≡◌, ℕ, ◌+◌, ◌-◌, ◌^◌, ◌==◌, min, if◌then◌else◌, Bool, true, List, Option, Some, None, Result, Ok, Err, ⊤}
use Rattle.ak_client_wire.specs.Forms.{meta_in, sanity_in}
use Rattle.ak_client_wire.specs.declared.wires.MetaSaid.{MetaSaid}
use Rattle.ak_client_wire.specs.declared.wires.Said.{Said}
use Rattle.ak_client_wire.specs.declared.wires.WireEnd.{WireEnd}
use Rattle.ak_client_wire.specs.declared.wires.WireEnd.TheVariants as ends
use Rattle.ak_faults.specs.Causes.{Health, HasCauseOf}
use Rattle.ak_messages.specs.declared.replies.Reply.{Reply}
use Rattle.ak_messages.specs.declared.replies.SanityReply.{SanityReply}
use Rattle.ak_messages.specs.declared.requests.Ask.{Ask}
use Rattle.ak_messages.specs.declared.requests.Ask.TheVariants as asks
use Rattle.ak_messages.specs.declared.requests.Request.{Request}
use Rattle.ak_protocol.specs.Logs.{Event, View, Asked, Log, Grows, with_growth}

-- a kind of wires: what stands inside of one, and what a call with a request, answered so, makes of that
pub record WireKind : Type 1 where
  pub Inside : Type 0
  pub does : Inside → Inside → Request → Result Reply WireEnd → Type 0

-- the kind of a wire of which no more is told: nothing stands inside
abbrev pub plain_kind : WireKind
plain_kind = record { Inside = Unit {0}; does = λ old new request result. ⊤ }

-- what is known of a wire, but for how many of its calls failed, which its health tells
pub record WireState (kind : WireKind) : Type 0 where
  -- the log of the server that it leads to, if it tells it
  pub log : Option Log
  -- how many answers could not be read, and whether it is known that all can be
  pub reading : Health
  -- how many calls in a row failed, up to the last one
  pub silence : ℕ
  -- what the reply of the last call said
  pub said : Option Said
  -- how many calls were made. An implementation counts them in a `u64`, which stays at its last value
  pub calls : ℕ
  -- whether it is known that while a call is under way nothing comes to the server but its request
  pub alone : Bool
  -- what stands inside of it
  pub inside : kind.Inside

-- a count once it rose so many times. At the last `u64` it stays
abbrev pub more : ℕ → ℕ → ℕ
more times count = min (count + times) (2 ^ 64 - 1)

-- where the wire tells the log, it grows by what may come while the request is under way, and the reply, if there is one, is that at
-- one place of the growth at which the request stands
abbrev pub Carries : Option Log → Option Log → Request → Result Reply WireEnd → Type 0
Carries None now request result = now ≡ None
Carries (Some old) now request result = (new : Log) × (now ≡ Some new) × Grows old new request result

-- an event is a serving of this request
abbrev pub IsServing : Request → Event → Type 0
IsServing request (View host) = ⊥
IsServing request (Asked other now setback) = other ≡ request

-- a log grew by servings of this request alone: once, or several times if it was repeated. If it was lost, there is none
pub record GrowsByServings (old new : Log) (request : Request) : Type 0 where
  pub growth : List Event
  pub grown : new ≡ with_growth old growth
  pub servings : AllByRecursion (IsServing request) growth

-- the same of a wire that tells its log
abbrev pub BringsServings : Option Log → Option Log → Request → Type 0
BringsServings told_before told_now request = (old new : Log) → told_before ≡ Some old → told_now ≡ Some new
    → GrowsByServings old new request

-- whether nothing else comes to the server does not change. If so, the log grows by servings of this request alone
pub record StaysAlone {kind : WireKind} (old new : WireState kind) (request : Request) : Type 0 where
  pub stays : new.alone ≡ old.alone
  pub brings : old.alone ≡ true → BringsServings old.log new.log request

-- what the reply to a meta says, if it was granted and has its form
abbrev pub meta_said : Ask → Reply → Option MetaSaid
meta_said asks.Meta reply = if reply.status == 200 then meta_in reply.give else None
meta_said ask reply = None

-- what the reply to a sanity check says, if it was granted and has its form
abbrev pub sanity_said : Ask → Reply → Option SanityReply
sanity_said (asks.SanityCheck2 counts) reply = if reply.status == 200 then sanity_in reply.give else None
sanity_said ask reply = None

-- what a reply says
abbrev pub said_of : Request → Reply → Said
said_of request reply = record {
  session = request.session;
  status = reply.status;
  word = reply.word;
  seen = reply.seen;
  meta = meta_said request.ask reply;
  sanity = sanity_said request.ask reply;
}

-- what the reply of a call said: nothing, if it answered none
abbrev pub said_after : Request → Result Reply WireEnd → Option Said
said_after request (Ok reply) = Some (said_of request reply)
said_after request (Err end) = None

-- how many calls in a row failed, once so many did before this call: one more if it failed, and none after any other
abbrev pub silence_after : ℕ → Result Reply WireEnd → ℕ
silence_after before (Err ends.Failed) = more 1 before
silence_after before (Err ends.BadReply) = 0
silence_after before (Err ends.Memory) = 0
silence_after before (Ok reply) = 0

-- what a call of a wire with a request makes of it, from one health to the next
pub record Called {kind : WireKind} (before now : Health) (old new : WireState kind) (request : Request) (result : Result Reply WireEnd) : Type 0 where
  pub carries : Carries old.log new.log request result
  -- it fails only if its count of faults rose in the call, and has a bad reply only if its count of bad answers did
  pub lost : HasCauseOf ends.Failed before now result
  pub unread : HasCauseOf ends.BadReply old.reading new.reading result
  pub silence : new.silence ≡ silence_after old.silence result
  pub said : new.said ≡ said_after request result
  pub calls : new.calls ≡ more 1 old.calls
  pub alone : StaysAlone old new request
  -- of what stands inside it makes what a call of this kind of wires does
  pub does : kind.does old.inside new.inside request result
