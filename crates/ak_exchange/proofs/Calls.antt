-- What requests that were tried tell of the calls of their wire.
use Rattle.std.specs.Prelude.{ℕ, zero, suc, ◌≤◌, List, [], ◌∷◌, ◌++◌, Result}
use Rattle.std.proofs.Common.{refl, ap, subst, arith}
use Rattle.ak_client_wire.specs.Tries.{AreCalls, AreCallsOf, AreMade, MadeCall, MayTry, Tried, calls_of}
use Rattle.ak_client_wire.specs.Wires.{WireKind, WireState}
use Rattle.ak_client_wire.specs.declared.wires.WireEnd.{WireEnd}
use Rattle.ak_exchange.specs.Asked.{AreTried}
use Rattle.ak_faults.specs.Causes.{Health}
use Rattle.ak_messages.specs.declared.replies.Reply.{Reply}
use Rattle.ak_messages.specs.declared.requests.Request.{Request}

abbrev Answer : Type 0
Answer = Result Reply WireEnd

-- these calls were made, and so were those after them
pub made_then : (kind : WireKind) (a b : List MadeCall) (i0 i1 i2 : kind.Inside) → AreMade kind a i0 i1 → AreMade kind b i1 i2 → AreMade kind (a ++ b) i0 i2
made_then kind [] b i0 i1 i2 one two = subst (λ (i : kind.Inside). AreMade kind b i i2) one two
made_then kind (call ∷ calls) b i0 i1 i2 one two = (one.0, one.1, made_then kind calls b one.0 i1 i2 one.2 two)

-- so many tries are so many calls, each but the last of which got no answer
tries_made : {kind : WireKind} (n : ℕ) (h0 h1 : Health) (w0 w1 : WireState kind) (request : Request) (answer : Answer)
    → AreCalls n h0 h1 w0 w1 request answer → AreMade kind (calls_of n request answer) w0.inside w1.inside
tries_made zero h0 h1 w0 w1 request answer are = absurd are
tries_made (suc zero) h0 h1 w0 w1 request answer are = (w1.inside, are.does, refl)
tries_made (suc (suc n)) h0 h1 w0 w1 request answer are =
    (are.1.inside, are.2.does, tries_made (suc n) are.0 h1 are.1 w1 request answer are.3)

-- a request that was tried was tried once at least
some_tries : {kind : WireKind} (n : ℕ) (h0 h1 : Health) (w0 w1 : WireState kind) (request : Request) (answer : Answer)
    → AreCalls n h0 h1 w0 w1 request answer → 1 ≤ n
some_tries zero h0 h1 w0 w1 request answer are = absurd are
some_tries (suc n) h0 h1 w0 w1 request answer are = omega arith

may_try : {kind : WireKind} (h0 h1 : Health) (w0 w1 : WireState kind) (request : Request) (answer : Answer) (tried : Tried h0 h1 w0 w1 request answer)
    → MayTry tried.tries answer
may_try h0 h1 w0 w1 request answer tried = record {
  some = some_tries tried.tries h0 h1 w0 w1 request answer tried.each;
  most = tried.most;
  third = tried.third;
}

-- what was asked, and of each call of the wire, in their order, what it made of the inside
pub record CallsMade (kind : WireKind) (requests : List Request) (answers : List Answer) (old new : kind.Inside) : Type 0 where
  pub calls : List MadeCall
  pub tries : AreCallsOf requests answers calls
  pub made : AreMade kind calls old new

pub calls_made : {kind : WireKind} (requests : List Request) (answers : List Answer) (h0 h1 : Health) (w0 w1 : WireState kind)
    → AreTried requests answers h0 h1 w0 w1 → CallsMade kind requests answers w0.inside w1.inside
calls_made {kind} [] [] h0 h1 w0 w1 tried = record { calls = []; tries = refl; made = ap (λ (w : WireState kind). w.inside) tried.1 }
calls_made [] (answer ∷ answers) h0 h1 w0 w1 tried = absurd tried
calls_made (request ∷ more) [] h0 h1 w0 w1 tried = absurd tried
calls_made {kind} (request ∷ more) (answer ∷ answers) h0 h1 w0 w1 tried =
    let first : List MadeCall = calls_of tried.2.tries request answer in
    let rest : CallsMade kind more answers tried.1.inside w1.inside = calls_made more answers tried.0 h1 tried.1 w1 tried.3 in
    record {
      calls = first ++ rest.calls;
      tries = (tried.2.tries, rest.calls, may_try h0 tried.0 w0 tried.1 request answer tried.2, refl, rest.tries);
      made = made_then kind first rest.calls w0.inside tried.1.inside w1.inside
          (tries_made tried.2.tries h0 tried.0 w0 tried.1 request answer tried.2.each) rest.made;
    }
