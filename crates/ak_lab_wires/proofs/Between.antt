-- What comes between two calls of a session: no request of its own, but such as came before.
use Rattle.std.specs.List.{AllByRecursion}
use Rattle.std.specs.Prelude.{◌≡◌, ◌≤◌, ◌+◌, ℕ, zero, suc, ℤ, true, List, [], ◌∷◌, ◌++◌, drop, take, Result}
use Rattle.std.proofs.Common.{refl, sym, ap, subst, ◌∙◌, inl, inr, arith}
use Rattle.ak_client_wire.specs.Tries.{AreCallsOf, MadeCall, calls_of}
use Rattle.ak_client_wire.specs.declared.wires.WireEnd.{WireEnd}
use Rattle.ak_exchange.specs.Asked.{TriedAsk, answers_in, asker, asks_in}
use Rattle.ak_exchange.specs.declared.envelopes.Ids.{Ids}
use Rattle.ak_io.specs.Arrivals.{IsClockMoment}
use Rattle.ak_lab_devices.specs.declared.plans.Act.{Act}
use Rattle.ak_lab_devices.specs.declared.plans.Act.TheVariants as acts
use Rattle.ak_lab_devices.specs.declared.plans.Planned.{Planned}
use Rattle.ak_lab_wires.proofs.Keeping.{KeepsOn, calls_keep, turns_keep}
use Rattle.ak_lab_wires.specs.CrossedSyncs.{ActsBy, ActsOnce, CrossState, CrossedSync, CrossesAt, cross_state, crosses_nothing}
use Rattle.ak_lab_wires.specs.LabSessions.{sent_by}
use Rattle.ak_lab_wires.specs.Replaying.{ReplaysAt, ReplaysBy, ReplaysOne, replays_nothing}
use Rattle.ak_lab_wires.specs.Servings.{AreServed, ServesAgain, ServesNamed, named_from, requests_in, with_line, with_served}
use Rattle.ak_lab_wires.specs.Turns.{InTurn, due, plans_nothing}
use Rattle.ak_lab_wires.specs.declared.crossed_syncs.Crossings.{Crossings}
use Rattle.ak_lab_wires.specs.declared.replayed_requests.Replays.{Replays}
use Rattle.ak_messages.specs.declared.replies.Reply.{Reply}
use Rattle.ak_messages.specs.declared.requests.Ask.{Ask}
use Rattle.ak_messages.specs.declared.requests.Request.{Request}
use Rattle.ak_protocol.specs.Logs.{Asked, Event, HasAsked, View}
use Rattle.ak_session.specs.Plans.{requests_from}
use Rattle.ak_sync_in_memory.proofs.Growing.{comes_further, comes_lined, comes_nothing, comes_request}
use Rattle.ak_sync_in_memory.specs.Betweens.{ActEnd, ComesBetween, StaysIdle}
use Rattle.ak_sync_in_memory.specs.Entries.{LoggedState, event_of, events_in, log_in}
use Rattle.ak_sync_in_memory.specs.declared.logs.Entry.{Entry}
use Rattle.ak_sync_in_memory.specs.declared.logs.Logged.{Logged}
use Rattle.ak_sync_in_memory.specs.declared.logs.Logged.TheVariants as logged

-- ---- requests of the log
-- a request that came came also if more comes
pub asked_later : (events more : List Event) (request : Request) → HasAsked events request → HasAsked (events ++ more) request
asked_later [] more request asked = absurd asked
asked_later (View host ∷ events) more request asked = asked_later events more request asked
asked_later (Asked other now setback ∷ events) more request (inl is) = inl is
asked_later (Asked other now setback ∷ events) more request (inr asked) = inr (asked_later events more request asked)

module _ (P : Request → Type 0) where
  all_dropped : (n : ℕ) (requests : List Request) → AllByRecursion P requests → AllByRecursion P (drop n requests)
  all_dropped zero requests all = all
  all_dropped (suc n) [] all = tt
  all_dropped (suc n) (request ∷ requests) all = all_dropped n requests all.1

  all_taken : (n : ℕ) (requests : List Request) → AllByRecursion P requests → AllByRecursion P (take n requests)
  all_taken zero requests all = tt
  all_taken (suc n) [] all = tt
  all_taken (suc n) (request ∷ requests) all = (all.0, all_taken n requests all.1)

  all_front : (front rest : List Request) → AllByRecursion P (front ++ rest) → AllByRecursion P front
  all_front [] rest all = tt
  all_front (request ∷ front) rest all = (all.0, all_front front rest all.1)

-- the requests in a log came
asked_with : (host : List ℕ) (events : List Event) (what : Logged) (entries : List Entry)
    → ((request : Request) → HasAsked (event_of host what ∷ events_in host entries) request → HasAsked events request)
    → (((request : Request) → HasAsked (events_in host entries) request → HasAsked events request) → AllByRecursion (HasAsked events) (requests_in entries))
    → AllByRecursion (HasAsked events) (with_served what (requests_in entries))
asked_with host events (logged.Served request now trouble) entries here later = (here request (inl refl), later (λ other asked. here other (inr asked)))
asked_with host events logged.Viewed entries here later = later here

all_asked : (host : List ℕ) (events : List Event) (entries : List Entry)
    → ((request : Request) → HasAsked (events_in host entries) request → HasAsked events request)
    → AllByRecursion (HasAsked events) (requests_in entries)
all_asked host events [] here = tt
all_asked host events (entry ∷ entries) here = asked_with host events entry.what entries here (λ asked. all_asked host events entries asked)

pub named_asked : (from count : ℕ) (s : LoggedState) → AllByRecursion (HasAsked (log_in s).events) (named_from from count (requests_in s.entries))
named_asked from count s =
    all_taken (HasAsked (log_in s).events) count (drop from (requests_in s.entries))
    (all_dropped (HasAsked (log_in s).events) from (requests_in s.entries)
    (all_asked s.host (log_in s).events s.entries (λ request asked. asked)))

-- ---- requests that are served again
module _ (session : ℕ) where
  -- such come before a request of any session
  served_between : (base : LoggedState) (at : ℤ) → IsClockMoment at → (requests : List Request) (replies : List Reply) (mid new : LoggedState) → ComesBetween session base mid
      → AllByRecursion (HasAsked (log_in base).events) requests → AreServed requests at mid new replies → ComesBetween session base new
  served_between base at clock [] replies mid new came all are = subst (λ (s : LoggedState). ComesBetween session base s) (sym are.0) came
  served_between base at clock (request ∷ requests) [] mid new came all are = absurd are
  served_between base at clock (request ∷ requests) (reply ∷ replies) mid new came all are =
      let asked : HasAsked (log_in mid).events request =
      subst (λ (events : List Event). HasAsked events request) (sym (ap (λ log. log.events) came.grown))
      (asked_later (log_in base).events came.growth request all.0) in
      served_between base at clock requests replies are.0 new
      (comes_further session base mid are.0 came (comes_request session mid are.0 request at reply clock (λ own. asked) are.1)) all.1 are.2

  named_between : (from count line : ℕ) (at : ℤ) (old new : LoggedState) (came : ActEnd) → ServesNamed from count line at old new came → ComesBetween session old new
  named_between from count line at old new came it =
      let all : AllByRecursion (HasAsked (log_in old).events) (it.front.served ++ it.front.left) =
      subst (λ (l : List Request). AllByRecursion (HasAsked (log_in old).events) l) it.front.parts (named_asked from count old) in
      subst (λ (s : LoggedState). ComesBetween session old s) (sym it.back)
      (comes_lined session line old it.reached
      (served_between (with_line line old) at it.clock it.front.served it.front.replies (with_line line old) it.reached (comes_nothing session (with_line line old))
      (all_front (HasAsked (log_in old).events) it.front.served it.front.left all) it.front.serves))

  pub again_between : (from count line : ℕ) (at : ℤ) (old new : LoggedState) (came : ActEnd) → ServesAgain from count line at old new came → ComesBetween session old new
  again_between from count line at old new came (inl nothing) = subst (λ (s : LoggedState). ComesBetween session old s) (sym nothing.0) (comes_nothing session old)
  again_between from count line at old new came (inr it) = named_between from count line at old new came it

  -- ---- replays
  abbrev Came : {X : Type 0} → X → X → LoggedState → LoggedState → Type 0
  Came x y old new = ComesBetween session old new

  keeps_between : {X : Type 0} → KeepsOn (Came {X = X})
  keeps_between = record { same = λ x s. comes_nothing session s; further = λ x y z a b c one two. comes_further session a b c one two }

  replay_between : (act : Act) (line : ℕ) (at : ℤ) (old new : LoggedState) (came : ActEnd) → ReplaysBy act line at old new came → ComesBetween session old new
  replay_between (acts.Cross name) line at old new came it = subst (λ (s : LoggedState). ComesBetween session old s) (sym it.0) (comes_nothing session old)
  replay_between (acts.Replay from count) line at old new came it = again_between from count line at old new came it

  pub replays_between : (call own : ℕ) (was now : Replays) (old new : LoggedState) (came : ActEnd) → ReplaysAt call own was now old new came → ComesBetween session old new
  replays_between call own was now old new came it =
      turns_keep Came keeps_between ReplaysOne (λ one x y a b end acted. replay_between one.act one.line x a b end acted.1)
      (due call was.acts) was.at was.at old new came it.1

-- ---- the requests of a session
-- the key of each
abbrev HasKey : ℕ → MadeCall → Type 0
HasKey key it = it.request.session.0 ≡ key

keys_from : (ids : Ids) (moment : ℤ) (step : ℕ) (asks : List Ask) → AllByRecursion (λ (request : Request). request.session ≡ ids.session) (requests_from (asker ids) moment step asks)
keys_from ids moment step [] = tt
keys_from ids moment step (ask ∷ asks) = (refl, keys_from ids moment (step + 1) asks)

tries_key : (key n : ℕ) (request : Request) (answer : Result Reply WireEnd) → request.session.0 ≡ key → AllByRecursion (HasKey key) (calls_of n request answer)
tries_key key zero request answer is = tt
tries_key key (suc zero) request answer is = (is, tt)
tries_key key (suc (suc n)) request answer is = (is, tries_key key (suc n) request answer is)

both_keys : (key : ℕ) (a b : List MadeCall) → AllByRecursion (HasKey key) a → AllByRecursion (HasKey key) b → AllByRecursion (HasKey key) (a ++ b)
both_keys key [] b one two = two
both_keys key (it ∷ a) b one two = (one.0, both_keys key a b one.1 two)

calls_key : (key : ℕ) (requests : List Request) (answers : List (Result Reply WireEnd)) (calls : List MadeCall) → AllByRecursion (λ (request : Request). request.session.0 ≡ key) requests
    → AreCallsOf requests answers calls → AllByRecursion (HasKey key) calls
calls_key key [] [] calls all are = subst (λ (l : List MadeCall). AllByRecursion (HasKey key) l) (sym are) tt
calls_key key [] (answer ∷ answers) calls all are = absurd are
calls_key key (request ∷ requests) [] calls all are = absurd are
calls_key key (request ∷ requests) (answer ∷ answers) calls all are =
    subst (λ (l : List MadeCall). AllByRecursion (HasKey key) l) (sym are.3)
    (both_keys key (calls_of are.0 request answer) are.1 (tries_key key are.0 request answer all.0) (calls_key key requests answers are.1 all.1 are.4))

to_key : (ids : Ids) (key : ℕ) → ids.session.0 ≡ key → (requests : List Request) → AllByRecursion (λ (request : Request). request.session ≡ ids.session) requests
    → AllByRecursion (λ (request : Request). request.session.0 ≡ key) requests
to_key ids key is [] all = tt
to_key ids key is (request ∷ requests) all = (ap (λ s. s.0) all.0 ∙ is, to_key ids key is requests all.1)

-- the calls of a crossed sync have its key
pub crossed_key : (key : ℕ) (ids : Ids) (moment : ℤ) (tries : List TriedAsk) (answers : List (Result Reply WireEnd)) (calls : List MadeCall) → ids.session.0 ≡ key
    → AreCallsOf (sent_by ids moment tries) answers calls → AllByRecursion (HasKey key) calls
crossed_key key ids moment tries answers calls is are =
    calls_key key (sent_by ids moment tries) answers calls
    (is, to_key ids key is (requests_from (asker ids) moment 1 (asks_in tries)) (keys_from ids moment 1 (asks_in tries))) are

-- ---- crossings
module _ (session : ℕ) where
  -- another key
  other_key : (sessions : ℕ) → session ≤ sessions → (own : ℕ) → own ≡ sessions + 1 → own ≡ session → ⊥
  other_key sessions past own is same = omega (arith, past, is, same)

  other_calls : (sessions : ℕ) → session ≤ sessions → (calls : List MadeCall) → AllByRecursion (HasKey (sessions + 1)) calls
      → AllByRecursion (λ (it : MadeCall). it.request.session.0 ≡ session → ⊥) calls
  other_calls sessions past [] all = tt
  other_calls sessions past (it ∷ calls) all = (other_key sessions past it.request.session.0 all.0, other_calls sessions past calls all.1)

  crossed_between : (name : List ℕ) (line : ℕ) (was now : CrossState) (old new : LoggedState) (came : ActEnd) → CrossedSync name line session was now old new came
      → ComesBetween session old new
  crossed_between name line was now old new came it =
      let sync = it.sync.sync in
      let ran = sync.session in
      let own = crossed_key (was.sessions + 1) ran.ids ran.ended.ended.sync.asked.moment ran.ended.ended.sync.asked.tries (ran.ended.ended.sync.asked.meta ∷ answers_in ran.ended.ended.sync.asked.tries) ran.calls ran.of.session ran.asked in
      subst (λ (s : LoggedState). ComesBetween session old s) (sym sync.back)
      (comes_lined session line old sync.reached
      (calls_keep (Came session) (keeps_between session) (λ (request : Request). request.session.0 ≡ session → ⊥) was.clock
      (λ x a b request reply not_own served. comes_request session a b request was.clock reply it.may.clock (λ is. absurd (not_own is)) served)
      ReplaysAt replays_nothing (λ call key x y a b end acted. replays_between session call key x y a b end acted)
      it.d.mishaps 0 ran.calls sync.replays sync.replays_left (with_line line old) sync.reached (other_calls was.sessions it.may.past ran.calls own) ran.come))

  act_between : (act : Act) (line : ℕ) (was now : CrossState) (old new : LoggedState) (came : ActEnd) → ActsBy act line session was now old new came → ComesBetween session old new
  act_between (acts.Cross name) line was now old new came (inl nothing) =
      subst (λ (s : LoggedState). ComesBetween session old s) (sym nothing.1.0) (comes_nothing session old)
  act_between (acts.Cross name) line was now old new came (inr it) = crossed_between name line was now old new came it
  act_between (acts.Replay from count) line was now old new came it = again_between session from count line was.clock old new came it.1

  pub crosses_between : (call : ℕ) (was now : Crossings) (old new : LoggedState) (came : ActEnd) → CrossesAt call session was now old new came → ComesBetween session old new
  crosses_between call was now old new came it =
      turns_keep (Came session) (keeps_between session) (ActsOnce session) (λ one x y a b end acted. act_between one.act one.line x y a b end acted)
      (due call was.acts) (cross_state was.lab) (cross_state now.lab) old new came it.1

-- ---- whoever has nothing planned does nothing
none_due : (planned : List Planned) → plans_nothing planned ≡ true → planned ≡ []
none_due [] is = refl
none_due (it ∷ planned) is = absurd (grind (arith, is))

pub replays_idle : (call session : ℕ) (was now : Replays) (old new : LoggedState) (came : ActEnd) → ReplaysAt call session was now old new came
    → StaysIdle (replays_nothing was) (replays_nothing now) old new
replays_idle call session was now old new came it = record {
  stays = ap replays_nothing it.0;
  nothing = λ is.
      let turn : InTurn ReplaysOne [] was.at was.at old new came =
      subst (λ (l : List Planned). InTurn ReplaysOne (due call l) was.at was.at old new came) (none_due was.acts is) it.1 in
      turn.1;
}

pub crosses_idle : (call session : ℕ) (was now : Crossings) (old new : LoggedState) (came : ActEnd) → CrossesAt call session was now old new came
    → StaysIdle (crosses_nothing was) (crosses_nothing now) old new
crosses_idle call session was now old new came it = record {
  stays = ap plans_nothing it.0;
  nothing = λ is.
      let turn : InTurn (ActsOnce session) [] (cross_state was.lab) (cross_state now.lab) old new came =
      subst (λ (l : List Planned). InTurn (ActsOnce session) (due call l) (cross_state was.lab) (cross_state now.lab) old new came) (none_due was.acts is) it.1 in
      turn.1;
}
