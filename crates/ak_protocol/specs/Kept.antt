-- What becomes of the reply that an account keeps, and what a reply that grants comes from.
use Rattle.std.specs.Prelude.{◌≡◌, ◌≤◌, ◌++◌, ℤ, true, false, List, [], ◌∷◌, Some, None, IfSome, ⊤, ◌⊎◌}
use Rattle.ak_messages.specs.MessageForms.{is_given_to}
use Rattle.ak_messages.specs.declared.methods.Method.TheVariants as methods
use Rattle.ak_messages.specs.declared.requests.Request.{Request}
use Rattle.ak_protocol.specs.Accounts.{SessionState, KeptReply, AccountState, last_step, repeated, given_again}
use Rattle.ak_session.specs.Contents.{ends, closed}
use Rattle.ak_protocol.specs.Lawful.{IsNext}
use Rattle.ak_protocol.specs.Logs.{Event, View, Asked, World, world_next}
use Rattle.ak_session.specs.Requests.{asked_method, is_meta, asks_commit}
use Rattle.ak_protocol.specs.Serving.{Setback, Undisturbed, Served, unchanged, kept_of, reply_to, served}

-- a request was accepted: nothing came in between, it was next of the live session, and no repeat, and its reply is kept
pub record IsNewlyKept (s : AccountState) (request : Request) (setback : Setback) (it : Served) : Type 0 where
  pub quiet : setback ≡ Undisturbed
  pub session : SessionState
  pub next : IsNext s session request
  pub first : repeated s.kept request ≡ None
  pub kept : it.next.kept ≡ Some (kept_of request it.reply)

-- what a serving makes of the kept reply: after a meta none is kept, whatever setback comes. Otherwise it stays, or the request was accepted
pub record KeepsReply (s : AccountState) (request : Request) (setback : Setback) (it : Served) : Type 0 where
  pub forgets : is_meta request.ask ≡ true → it.next.kept ≡ None
  pub stays : is_meta request.ask ≡ false → (it.next.kept ≡ s.kept) ⊎ IsNewlyKept s request setback it

-- what an event makes of the kept reply: a view leaves it
abbrev pub LeavesReply : World → Event → Type 0
LeavesReply w (View host) = (world_next w (View host)).state.kept ≡ w.state.kept
LeavesReply w (Asked request now setback) = KeepsReply w.state request setback (served w.state request now setback)

-- an event at which an account accepts nothing: a view, or a request but a meta that met a setback, or is a repeat, or isn't next of the
-- live session
abbrev pub IsIdle : AccountState → Event → Type 0
IsIdle s (View host) = ⊤
IsIdle s (Asked request now setback) =
    (is_meta request.ask ≡ false)
    × (setback ≡ Undisturbed → (session : SessionState) → IsNext s session request → repeated s.kept request ≡ None → ⊥)

-- each of these events is idle where it comes
abbrev pub AreIdle : World → List Event → Type 0
AreIdle w [] = ⊤
AreIdle w (event ∷ events) = IsIdle w.state event × AreIdle (world_next w event) events

-- a request has the session key, the step and the method of the kept reply, and is given that reply, which changes nothing
pub record IsGivenAgain (s : AccountState) (request : Request) (it : Served) : Type 0 where
  pub kept : KeptReply
  pub is_kept : s.kept ≡ Some kept
  pub key : kept.key ≡ request.session.0
  pub step : kept.step ≡ request.step
  pub method : kept.method ≡ asked_method request.ask
  pub given : it ≡ unchanged s (given_again s.committed kept)

-- where a reply that grants a request comes from: it is a meta, or is given again, or it is next of the live session
abbrev pub IsEarned : AccountState → Request → Served → Type 0
IsEarned s request it =
    (is_meta request.ask ≡ true) ⊎ (IsGivenAgain s request it ⊎ ((session : SessionState) × IsNext s session request))

-- a request that is next of the live session is done: it is granted, and its reply is kept. A finish or an upload commits, a bad sanity
-- check ends the session, and any other is added to it
pub record IsDone (s : AccountState) (session : SessionState) (request : Request) (now : ℤ) (it : Served) : Type 0 where
  pub granted : it.reply.status ≡ 200
  pub kept : it.next.kept ≡ Some (kept_of request it.reply)
  pub commits : asks_commit request.ask ≡ true → it.is_commit ≡ true
  pub committed : asks_commit request.ask ≡ true → it.next.committed ≡ closed s.committed session.accepted request now
  pub answers : asks_commit request.ask ≡ false → it.reply ≡ reply_to s.committed session.accepted request
  pub stops : asks_commit request.ask ≡ false → ends s.committed session.accepted request ≡ true → it.next.live ≡ None
  pub goes_on : asks_commit request.ask ≡ false → ends s.committed session.accepted request ≡ false
      → it.next.live ≡ Some (record session { accepted = session.accepted ++ request ∷ [] })

-- the session of an account is over, and nothing is committed
pub record EndsSession (s next : AccountState) : Type 0 where
  pub over : next.live ≡ None
  pub same : next.committed ≡ s.committed

-- a kept reply grants what was asked, and gives what its method is given; it holds no reply if it is that of a download, and only then
pub record IsLawfulReply (kept : KeptReply) : Type 0 where
  pub granted : IfSome kept.reply (λ reply. reply.status ≡ 200)
  pub form : IfSome kept.reply (λ reply. is_given_to kept.method reply.give ≡ true)
  pub read : kept.method ≡ methods.Download → kept.reply ≡ None
  pub told : kept.reply ≡ None → kept.method ≡ methods.Download

-- the kept reply of an account is lawful
abbrev pub HasLawfulReply : AccountState → Type 0
HasLawfulReply s = IfSome s.kept (λ kept. IsLawfulReply kept)

-- the kept reply, if it is of the live session's key, is of a step that the session has had
abbrev pub HasPastReply : AccountState → Type 0
HasPastReply s = IfSome s.kept (λ kept. IfSome s.live (λ session. kept.key ≡ session.key → kept.step ≤ last_step session))
