-- What may come to a server before a request.
use Rattle.std.specs.List.{AllByRecursion}
use Rattle.std.specs.Prelude.{◌≡◌, ℕ, Bool, true, List, Result, Ok, ⊤}
use Rattle.ak_base.specs.declared.errors.Memory.{Memory}
use Rattle.ak_io.specs.Arrivals.{IsClockMoment}
use Rattle.ak_protocol.specs.Logs.{Event, View, Asked, HasAsked, with_growth}
use Rattle.ak_sync_in_memory.specs.Entries.{LoggedState, log_in}

-- how what came between two calls ended: well, or because memory ran out
abbrev pub ActEnd : Type 0
ActEnd = Result (Unit {0}) Memory

-- what whoever acts between the calls makes of itself and of the server before the call of a number, whose request has a session key, and how
-- that ended
abbrev pub Acting : Type 0 → Type 1
Acting B = (call session : ℕ) (was now : B) (old new : LoggedState) (came : ActEnd) → Type 0

-- whoever does nothing
abbrev pub does_nothing : {B : Type 0} → Acting B
does_nothing call session was now old new came = (now ≡ was) × (new ≡ old) × (came ≡ Ok tt)

-- whoever is known to do nothing, at all times
abbrev pub always_idle : {B : Type 0} → B → Bool
always_idle between = true

-- what may come between two requests of this session, after these events: any view, and at a moment that a clock may tell any request
-- of another session, and any that came before
abbrev pub MayComeBetween : List Event → ℕ → Event → Type 0
MayComeBetween past session (View host) = ⊤
MayComeBetween past session (Asked request now setback) =
    IsClockMoment now × (request.session.0 ≡ session → HasAsked past request)

-- a logged server after what came to it before a request of this session: the log that it tells grew by what may come, its opening is the
-- one that it was, and so is the line of the entries to come
pub record ComesBetween (session : ℕ) (old new : LoggedState) : Type 0 where
  pub growth : List Event
  pub grown : log_in new ≡ with_growth (log_in old) growth
  pub may : AllByRecursion (MayComeBetween (log_in old).events session) growth
  pub line : new.line ≡ old.line

-- whether it is known of somebody that they do nothing never changes. If so, the server is as it was
pub record StaysIdle (was now : Bool) (old new : LoggedState) : Type 0 where
  pub stays : now ≡ was
  pub nothing : was ≡ true → new ≡ old
