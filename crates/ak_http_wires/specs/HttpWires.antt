-- What a wire over HTTP is, and what its call does.
use Rattle.std.specs.Prelude.{◌≡◌, ℕ, ◌⊎◌, false, List, [], Option, None, Result, Ok, Err}
use Rattle.ak_call_counts.specs.declared.call_counts.CallCounts.{CallCounts}
use Rattle.ak_faults.specs.Causes.{Health, Rose, one_more}
use Rattle.ak_io.specs.Ends.{uncertain}
use Rattle.ak_links.specs.Dials.{GivesFirst}
use Rattle.ak_messages.specs.declared.methods.Method.{Method}
use Rattle.ak_messages.specs.declared.replies.Reply.{Reply}
use Rattle.ak_client_wire.specs.Wires.{WireState, plain_kind}
use Rattle.ak_client_wire.specs.declared.wires.WireEnd.{WireEnd}
use Rattle.ak_client_wire.specs.declared.wires.WireEnd.TheVariants as ends
use Rattle.ak_http_wires.specs.Exchanges.{Exchanges}

-- it tells no log, may fail at any call, and may get an answer that can't be read at any
abbrev pub http_state : CallCounts → ℕ → WireState plain_kind
http_state c bad = record {
  log = None;
  reading = uncertain bad;
  silence = c.silent;
  said = c.said;
  calls = c.calls;
  alone = false;
  inside = tt;
}

-- how many answers could not be read, once so many could not before this call
abbrev pub bad_after : ℕ → Result Reply WireEnd → ℕ
bad_after before (Err ends.BadReply) = one_more before
bad_after before (Err ends.Failed) = before
bad_after before (Err ends.Memory) = before
bad_after before (Ok reply) = before

-- the dial refused, and so the call failed
pub record IsRefused {D L : Type 0} (to_come : D → Option (List L)) (dialling : D → Health) (old new : D)
    (result : Result Reply WireEnd) : Type 0 where
  pub failed : result ≡ Err ends.Failed
  pub rose : Rose (dialling old) (dialling new)
  pub stays : to_come new ≡ to_come old

-- the dial gave one link, over which the text was exchanged for an answer
pub record IsCarried {D L : Type 0} (to_come : D → Option (List L)) (left written : L → Option (List ℕ)) (health : L → Health)
    (method : Method) (text : List ℕ) (old new : D) (result : Result Reply WireEnd) : Type 0 where
  pub opened : L
  pub ended : L
  pub gives : GivesFirst (to_come old) (to_come new) opened
  pub exchanges : Exchanges left written health method text opened ended result

-- a call dials once, unless memory runs out
abbrev pub CallsOnce : {D L : Type 0} → (D → Option (List L)) → (D → Health) → (L → Option (List ℕ)) → (L → Option (List ℕ))
    → (L → Health) → Method → List ℕ → D → D → Result Reply WireEnd → Type 0
CallsOnce to_come dialling left written health method text old new result =
    (result ≡ Err ends.Memory)
    ⊎ (IsRefused to_come dialling old new result ⊎ IsCarried to_come left written health method text old new result)
