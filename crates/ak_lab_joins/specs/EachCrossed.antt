-- What is said of each sync that crosses a session of a lab.
use Rattle.std.specs.Prelude.{ℕ, ℤ, List, [], ◌∷◌, Ok, Err, ⊤}
use Rattle.std.proofs.Common.{inl, inr}
use Rattle.ak_client.specs.declared.outcomes.Outcome.{Outcome}
use Rattle.ak_client_wire.specs.Tries.{MadeCall}
use Rattle.ak_faults.specs.Causes.{one_more}
use Rattle.ak_lab.specs.LabStates.{LabState}
use Rattle.ak_lab.specs.LabSyncs.{EndsLabSession, mishaps_for, server_met, with_fails}
use Rattle.ak_lab_devices.specs.declared.plans.Act.{Act}
use Rattle.ak_lab_devices.specs.declared.plans.Act.TheVariants as acts
use Rattle.ak_lab_devices.specs.declared.plans.Planned.{Planned}
use Rattle.ak_lab_wires.specs.CrossedSyncs.{ActsBy, ActsOnce, CrossState, CrossedSync, CrossesAt, cross_state, crosses_nothing}
use Rattle.ak_lab_wires.specs.LabSessions.{ComeInCalls}
use Rattle.ak_lab_wires.specs.Turns.{InTurn, due}
use Rattle.ak_lab_wires.specs.declared.crossed_syncs.Crossings.{Crossings}
use Rattle.ak_lab_wires.specs.declared.lab_sessions.SessionKind.{SessionKind}
use Rattle.ak_sync_in_memory.specs.Betweens.{ActEnd}
use Rattle.ak_sync_in_memory.specs.Entries.{LoggedState}
use Rattle.ak_sync_in_memory.specs.declared.mishaps.Mishap.{Mishap}

-- something that may be said of a sync that crosses a session
abbrev pub SaidOfCrossed : Type 1
SaidOfCrossed = (name : List ℕ) (line session : ℕ) (was now : CrossState) (old new : LoggedState) (came : ActEnd)
    → CrossedSync name line session was now old new came → Type 0

-- it holds of the sync that an act brought, if it brought one
abbrev pub HoldsOfAct : SaidOfCrossed → (act : Act) (line session : ℕ) (was now : CrossState) (old new : LoggedState) (came : ActEnd)
    → ActsBy act line session was now old new came → Type 0
HoldsOfAct Fits (acts.Cross name) line session was now old new came (inl nothing) = ⊤
HoldsOfAct Fits (acts.Cross name) line session was now old new came (inr it) = Fits name line session was now old new came it
HoldsOfAct Fits (acts.Replay from count) line session was now old new came it = ⊤

-- it holds of each that came before one call
abbrev pub HoldsInTurn : SaidOfCrossed → (session : ℕ) (planned : List Planned) (was now : CrossState) (old new : LoggedState) (came : ActEnd)
    → InTurn (ActsOnce session) planned was now old new came → Type 0
HoldsInTurn Fits session [] was now old new came turn = ⊤
HoldsInTurn Fits session (it ∷ planned) was now old new came (inl (mid, met, first, rest)) =
    HoldsOfAct Fits it.act it.line session was mid old met (Ok tt) first × HoldsInTurn Fits session planned mid now met new came rest
HoldsInTurn Fits session (it ∷ planned) was now old new came (inr (end, first, is)) =
    HoldsOfAct Fits it.act it.line session was now old new (Err end) first

-- it holds of each that came before these calls, the first of which has this number
abbrev pub HoldsInCalls : SaidOfCrossed → (mishaps : List Mishap) (at : ℤ) (number : ℕ) (calls : List MadeCall) (was now : Crossings) (old new : LoggedState)
    → ComeInCalls CrossesAt crosses_nothing mishaps at number calls was now old new → Type 0
HoldsInCalls Fits mishaps at number [] was now old new come = ⊤
HoldsInCalls Fits mishaps at number (it ∷ calls) was now old new come =
    HoldsInTurn Fits it.request.session.0 (due number was.acts) (cross_state was.lab) (cross_state come.0.lab) old come.2.met come.2.came come.2.acted.1
    × HoldsInCalls Fits mishaps at (one_more number) calls come.0 now come.1 new come.3

-- it holds of each that crossed a session
abbrev pub HoldsOfEachCrossed : SaidOfCrossed → (kind : SessionKind) (name : List ℕ) (s t : LabState) (crossed : List (List ℕ)) (outcome : Outcome)
    → EndsLabSession kind name s t crossed outcome → Type 0
HoldsOfEachCrossed Fits kind name s t crossed outcome ended =
    HoldsInCalls Fits (mishaps_for kind ended.runs.d) s.clock 0 ended.runs.session.calls ended.runs.was ended.runs.became (server_met kind s)
    (with_fails ended.runs.fails_left t.server) ended.runs.session.come
