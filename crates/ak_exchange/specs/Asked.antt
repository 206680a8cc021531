-- What a sync asked of its wire, whatever wire it is: in which order, how often each request was tried, and how many there were.
use Rattle.std.specs.Prelude.{◌≡◌, ℕ, ℤ, ◌+◌, ◌≤◌, Bool, false, not, ◌&&◌, List, [], ◌∷◌, map, length, count_by, Result}
use Rattle.ak_client_wire.specs.Tries.{Tried}
use Rattle.ak_client_wire.specs.Wires.{WireKind, WireState}
use Rattle.ak_client_wire.specs.declared.wires.WireEnd.{WireEnd}
use Rattle.ak_exchange.specs.declared.envelopes.Envelopes.{Envelopes}
use Rattle.ak_exchange.specs.declared.envelopes.Ids.{Ids}
use Rattle.ak_faults.specs.Causes.{Health}
use Rattle.ak_messages.specs.declared.methods.Method.TheVariants as methods
use Rattle.ak_messages.specs.declared.replies.Reply.{Reply}
use Rattle.ak_messages.specs.declared.requests.Ask.{Ask}
use Rattle.ak_messages.specs.declared.requests.Ask.TheVariants as asks
use Rattle.ak_messages.specs.declared.requests.Request.{Request}
use Rattle.ak_session.specs.Plans.{Asker, requests_from}
use Rattle.ak_session.specs.Requests.{asked_method, same_method}

-- ---- the requests
-- who asks
abbrev pub asker : Ids → Asker
asker ids = record { host = ids.host; session = ids.session }

-- the request of an ask at a step, over this base
abbrev pub request_at : Asker → ℤ → ℕ → Ask → Request
request_at who base step ask = record { host = who.host; session = who.session; step = step; base = base; ask = ask }

-- an ask whose request was tried, and what the last try answered
pub record TriedAsk : Type 0 where
  pub ask : Ask
  pub answer : Result Reply WireEnd

-- what was asked
abbrev pub asks_in : List TriedAsk → List Ask
asks_in tries = map (λ (it : TriedAsk). it.ask) tries

-- what each was answered
abbrev pub answers_in : List TriedAsk → List (Result Reply WireEnd)
answers_in tries = map (λ (it : TriedAsk). it.answer) tries

-- these requests were asked of a wire, one after the other, and so answered; each was tried at most 3 times
abbrev pub AreTried : {kind : WireKind} → List Request → List (Result Reply WireEnd) → Health → Health → WireState kind → WireState kind → Type 0
AreTried [] [] before now old new = (now ≡ before) × (new ≡ old)
AreTried [] (answer ∷ answers) before now old new = ⊥
AreTried (request ∷ more) [] before now old new = ⊥
AreTried {kind} (request ∷ more) (answer ∷ answers) before now old new =
    (between : Health) × (mid : WireState kind)
    × Tried before between old mid request answer × AreTried more answers between now mid new

-- a sync and its wire: how many of its calls failed, what is known of it, and the envelopes of the next request
pub record Talk (kind : WireKind) : Type 0 where
  pub health : Health
  pub wire : WireState kind
  pub envelopes : Envelopes

-- these were tried from one talk to another: the steps go on from the last one, over the same base
pub record AreAsked {kind : WireKind} (tries : List TriedAsk) (was now : Talk kind) : Type 0 where
  pub tried : AreTried (requests_from (asker was.envelopes.ids) was.envelopes.base (was.envelopes.step + 1) (asks_in tries))
      (answers_in tries) was.health now.health was.wire now.wire
  pub envelopes : now.envelopes ≡ record was.envelopes { step = was.envelopes.step + length tries }

-- ---- how many there are
-- a request for a chunk
abbrev pub asks_chunk : Ask → Bool
asks_chunk ask = same_method (asked_method ask) methods.Chunk

-- a chunk is sent that is not the last one
abbrev pub sends_unfinished : Ask → Bool
sends_unfinished (asks.ApplyChunk chunk) = not chunk.done
sends_unfinished ask = false

-- any other request
abbrev pub is_other : Ask → Bool
is_other ask = not (asks_chunk ask) && not (sends_unfinished ask)

-- at most so many of these ask for a chunk, at most so many send one that is not the last, and at most so many are others
pub record AreFew (pulled pushed others : ℕ) (asks : List Ask) : Type 0 where
  pub asked : count_by asks_chunk asks ≤ pulled
  pub sent : count_by sends_unfinished asks ≤ pushed
  pub rest : count_by is_other asks ≤ others
