-- Each sync that crosses a session leaves what a sync leaves, as long as nothing but finishes is committed meanwhile.
use Rattle.std.specs.Prelude.{◌≡◌, ℕ, ℤ, ◌≤◌, Bool, true, List, [], ◌∷◌, Ok, Err}
use Rattle.std.proofs.Common.{refl, sym, ap, inl, inr, append-nil}
use Rattle.ak_client_wire.specs.Tries.{MadeCall}
use Rattle.ak_faults.specs.Causes.{one_more}
use Rattle.ak_lab_devices.specs.declared.plans.Act.{Act}
use Rattle.ak_lab_devices.specs.declared.plans.Act.TheVariants as acts
use Rattle.ak_lab_devices.specs.declared.plans.Planned.{Planned}
use Rattle.ak_lab_joins.proofs.Crossings.{AreKept, Stays, StaysPast, act_stays, crossed_leaves, keeps_past, past_later, session_stays, stays_as, stays_further, stays_grown, stays_same}
use Rattle.ak_lab_joins.proofs.Keys.{AreOwnCalls, IsOwnRequest, served_under}
use Rattle.ak_lab_joins.proofs.Level.{IsLevel, level_first, level_rest}
use Rattle.ak_lab_joins.specs.EachCrossed.{HoldsInCalls, HoldsInTurn, HoldsOfAct}
use Rattle.ak_lab_joins.specs.LabCrossings.{CrossedLeavesJoin}
use Rattle.ak_lab_wires.proofs.Keeping.{KeepsOn, calls_keep, turns_keep}
use Rattle.ak_lab_wires.specs.CrossedSyncs.{ActsBy, ActsOnce, CrossState, CrossesAt, cross_state, crosses_nothing}
use Rattle.ak_lab_wires.specs.LabSessions.{ComeInCalls}
use Rattle.ak_lab_wires.specs.Turns.{InTurn, due}
use Rattle.ak_lab_wires.specs.declared.crossed_syncs.Crossings.{Crossings}
use Rattle.ak_protocol.specs.Accounts.{AccountState}
use Rattle.ak_sync_in_memory.specs.Betweens.{ActEnd, Acting}
use Rattle.ak_sync_in_memory.specs.Entries.{LoggedState, events_in, log_with}
use Rattle.ak_sync_in_memory.specs.LoopWires.{FaresAfter}
use Rattle.ak_sync_in_memory.specs.declared.mishaps.Mishap.{Mishap}

module _ (account : AccountState) (ordered : Bool) (place key : ℕ) where
  abbrev Kept : CrossState → LoggedState → Type 0
  Kept x met = AreKept account ordered place x met

  abbrev Moves : CrossState → CrossState → LoggedState → LoggedState → Type 0
  Moves was now old new = Stays account ordered place was now old new

  keeps_moves : KeepsOn Moves
  keeps_moves = record {
    same = λ x s. stays_same account ordered place x s;
    further = λ x y z a b c one two. stays_further account ordered place x y z a b c one two;
  }

  -- ---- before one call
  turns_move : (session : ℕ) (planned : List Planned) (x y : CrossState) (a b : LoggedState) (came : ActEnd) → InTurn (ActsOnce session) planned x y a b came → Moves x y a b
  turns_move session planned x y a b came turn =
      turns_keep Moves keeps_moves (ActsOnce session) (λ one p q c d end acted. act_stays account ordered place one.act one.line session p q c d end acted)
      planned x y a b came turn

  act_leaves : (act : Act) (line session : ℕ) (was now : CrossState) (old new : LoggedState) (came : ActEnd) (acted : ActsBy act line session was now old new came)
      → IsLevel account old new → Kept was old → HoldsOfAct (CrossedLeavesJoin account) act line session was now old new came acted
  act_leaves (acts.Cross name) line session was now old new came (inl nothing) level kept = tt
  act_leaves (acts.Cross name) line session was now old new came (inr it) level kept =
      crossed_leaves account ordered place name line session was now old new came it level kept
  act_leaves (acts.Replay from count) line session was now old new came it level kept = tt

  turns_leave : (session : ℕ) (planned : List Planned) (was now : CrossState) (old new : LoggedState) (came : ActEnd)
      (turn : InTurn (ActsOnce session) planned was now old new came) → IsLevel account old new → Kept was old
      → HoldsInTurn (CrossedLeavesJoin account) session planned was now old new came turn
  turns_leave session [] was now old new came turn level kept = tt
  turns_leave session (it ∷ planned) was now old new came (inl (mid, met, first, rest)) level kept =
      let here : Moves was mid old met = act_stays account ordered place it.act it.line session was mid old met (Ok tt) first in
      let later : Moves mid now met new = turns_move session planned mid now met new came rest in
      let level_here : IsLevel account old met = level_first account mid.sessions now.sessions old met new here.grows later.grows level in (
        act_leaves it.act it.line session was mid old met (Ok tt) first level_here kept,
        turns_leave session planned mid now met new came rest (level_rest account mid.sessions now.sessions old met new here.grows later.grows level)
            (here.kept level_here kept),
      )
  turns_leave session (it ∷ planned) was now old new came (inr (end, first, is)) level kept =
      act_leaves it.act it.line session was now old new (Err end) first level kept

  -- ---- the call
  -- its servings are those of one call between which nobody acts
  abbrev StandsAside : Acting CrossState
  StandsAside call session was now old new came = (now ≡ was) × (new ≡ old)

  served_moves : (number : ℕ) (mishaps : List Mishap) (at : ℤ) (it : MadeCall) (x : CrossState) (a b : LoggedState) (came : ActEnd) → IsOwnRequest key it.request → key ≤ x.sessions
      → FaresAfter came number mishaps a b it.request at it.answer → Moves x x a b
  served_moves number mishaps at it x a b came own past fares =
      calls_keep (StaysPast account ordered place key) (keeps_past account ordered place key) (IsOwnRequest key) at
      (λ y c d request reply is served now. stays_grown account ordered place y c d (served_under y.sessions key at now c d request reply is served))
      StandsAside (λ y. true) (λ call session y z c d end acted now. stays_as account ordered place y z c d acted.0 acted.1) mishaps number (it ∷ []) x x a b (own, tt) (
        x,
        b,
        record {
          met = a;
          came = came;
          acted = (refl, refl);
          before = record {
            growth = [];
            grown = ap (log_with a.host a.opening) (sym (append-nil (events_in a.host a.entries)));
            may = tt;
            line = refl;
          };
          quiet = record { stays = refl; nothing = λ is. refl };
          fares = fares;
        },
        (refl, refl),
      ) past

  -- ---- all calls
  pub calls_leave : (mishaps : List Mishap) (at : ℤ) (number : ℕ) (calls : List MadeCall) (x y : Crossings) (a b : LoggedState) → AreOwnCalls key calls
      → (come : ComeInCalls CrossesAt crosses_nothing mishaps at number calls x y a b) → key ≤ x.lab.sessions → IsLevel account a b → Kept (cross_state x.lab) a
      → HoldsInCalls (CrossedLeavesJoin account) mishaps at number calls x y a b come
  calls_leave mishaps at number [] x y a b own come past level kept = tt
  calls_leave mishaps at number (it ∷ calls) x y a b own come past level kept =
      let mid : Crossings = come.0 in
      let met : LoggedState = come.2.met in
      let served : LoggedState = come.1 in
      let x_lab : CrossState = cross_state x.lab in
      let mid_lab : CrossState = cross_state mid.lab in
      let y_lab : CrossState = cross_state y.lab in
      let session : ℕ = it.request.session.0 in
      let acts_so : Moves x_lab mid_lab a met = turns_move session (due number x.acts) x_lab mid_lab a met come.2.came come.2.acted.1 in
      let past_then : key ≤ mid_lab.sessions = past_later key x_lab.sessions mid_lab.sessions past acts_so.lab.later in
      let serves_so : Moves mid_lab mid_lab met served = served_moves number mishaps at it mid_lab met served come.2.came own.0 past_then come.2.fares in
      let rest : Moves mid_lab y_lab served b = session_stays account ordered place key at mishaps (one_more number) calls mid y served b own.1 come.3 past_then in
      let later : Moves mid_lab y_lab met b = stays_further account ordered place mid_lab mid_lab y_lab met served b serves_so rest in
      let level_acts : IsLevel account a met = level_first account mid_lab.sessions y_lab.sessions a met b acts_so.grows later.grows level in
      let level_later : IsLevel account met b = level_rest account mid_lab.sessions y_lab.sessions a met b acts_so.grows later.grows level in
      let level_serves : IsLevel account met served = level_first account mid_lab.sessions y_lab.sessions met served b serves_so.grows rest.grows level_later in
      let level_then : IsLevel account served b = level_rest account mid_lab.sessions y_lab.sessions met served b serves_so.grows rest.grows level_later in (
        turns_leave session (due number x.acts) x_lab mid_lab a met come.2.came come.2.acted.1 level_acts kept,
        calls_leave mishaps at (one_more number) calls mid y served b own.1 come.3 past_then level_then (serves_so.kept level_serves (acts_so.kept level_acts kept)),
      )
