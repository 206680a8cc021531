-- The lists that a session may have.
use Rattle.std.specs.Prelude.{◌≡◌, ◌+◌, ◌≤◌, ℕ, false, List, ◌∷◌, ◌++◌, length, Some, None, IfSome}
use Rattle.ak_keep.specs.Collections.{Collection}
use Rattle.ak_messages.specs.declared.requests.Request.{Request}
use Rattle.ak_protocol.specs.Accounts.{SessionState, AccountState}
use Rattle.ak_session.specs.Contents.{refusal, ends}
use Rattle.ak_session.specs.Requests.{is_meta, asks_commit}

-- a request that is the next of the live session, over the committed moment
pub record IsNext (s : AccountState) (session : SessionState) (request : Request) : Type 0 where
  pub live : s.live ≡ Some session
  pub key : session.key ≡ request.session.0
  pub step : request.step ≡ length session.accepted + 1
  pub base : request.base ≡ s.committed.head.moment
  pub later : is_meta request.ask ≡ false
  pub in_range : request.step ≤ 9_223_372_036_854_775_807
  pub allowed : refusal s.committed session.accepted request ≡ None

-- a session of this key over this collection that accepted these requests before accepts this one, and goes on after it
pub record IsAccepted (key : ℕ) (committed : Collection) (before : List Request) (request : Request) : Type 0 where
  pub own : request.session.0 ≡ key
  pub step : request.step ≡ length before + 1
  pub in_range : request.step ≤ 9_223_372_036_854_775_807
  pub base : request.base ≡ committed.head.moment
  pub later : is_meta request.ask ≡ false
  pub stays : asks_commit request.ask ≡ false
  pub allowed : refusal committed before request ≡ None
  pub goes_on : ends committed before request ≡ false

-- each of these requests is accepted by a session of this key, after those before it
abbrev pub AreAccepted : ℕ → Collection → List Request → Type 0
AreAccepted key committed accepted =
    (before : List Request) (request : Request) (after : List Request) → before ++ request ∷ after ≡ accepted
    → IsAccepted key committed before request

-- the list of the live session is one that a session over the committed collection accepts
abbrev pub HasLawfulSession : AccountState → Type 0
HasLawfulSession s = IfSome s.live (λ session. AreAccepted session.key s.committed session.accepted)
