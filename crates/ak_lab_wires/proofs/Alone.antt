-- A session between whose calls nothing is planned: no other device changed, and nobody else came to the server.
use Rattle.std.specs.Prelude.{◌≡◌, ℕ, ℤ, List, []}
use Rattle.std.proofs.Common.{refl, ap, subst, ◌∙◌}
use Rattle.ak_client.specs.declared.outcomes.Outcome.{Outcome}
use Rattle.ak_lab_devices.specs.declared.devices.Device.{Device}
use Rattle.ak_lab_devices.specs.declared.plans.Planned.{Planned}
use Rattle.ak_lab_wires.proofs.Kept.{Any, any_calls}
use Rattle.ak_lab_wires.proofs.Keeping.{KeepsOn, calls_keep}
use Rattle.ak_lab_wires.specs.CrossedSyncs.{ActsOnce, CrossesAt, cross_state, crosses_nothing}
use Rattle.ak_lab_wires.specs.LabSessions.{IsSessionOver}
use Rattle.ak_lab_wires.specs.Turns.{InTurn, due}
use Rattle.ak_lab_wires.specs.declared.crossed_syncs.Crossings.{Crossings}
use Rattle.ak_lab_wires.specs.declared.lab_sessions.SessionKind.{SessionKind}
use Rattle.ak_sync_in_memory.specs.Betweens.{ActEnd}
use Rattle.ak_sync_in_memory.specs.Entries.{LoggedState}
use Rattle.ak_sync_in_memory.specs.declared.mishaps.Mishap.{Mishap}

-- ---- what acts between the calls
-- whoever has nothing planned leaves all as it was, and has nothing planned then
abbrev pub StaysAlone : Crossings → Crossings → LoggedState → LoggedState → Type 0
StaysAlone x y old new = x.acts ≡ [] → (y.acts ≡ []) × (cross_state y.lab ≡ cross_state x.lab)

keeps_alone : KeepsOn StaysAlone
keeps_alone = record {
  same = λ x s none. (none, refl);
  further = λ x y z a b c one two none.
      let first = one none in
      let second = two first.0 in
      (second.0, second.1 ∙ first.1);
}

acts_alone : (call session : ℕ) (x y : Crossings) (a b : LoggedState) (came : ActEnd) → CrossesAt call session x y a b came → StaysAlone x y a b
acts_alone call session x y a b came it none =
    let turn : InTurn (ActsOnce session) [] (cross_state x.lab) (cross_state y.lab) a b came =
    subst (λ (l : List Planned). InTurn (ActsOnce session) (due call l) (cross_state x.lab) (cross_state y.lab) a b came) none it.1 in
    (it.0 ∙ none, turn.0)

-- the host key of the server stays
abbrev pub StaysHost : Crossings → Crossings → LoggedState → LoggedState → Type 0
StaysHost x y old new = x.acts ≡ [] → (y.acts ≡ []) × (new.host ≡ old.host)

keeps_host : KeepsOn StaysHost
keeps_host = record {
  same = λ x s none. (none, refl);
  further = λ x y z a b c one two none.
      let first = one none in
      let second = two first.0 in
      (second.0, second.1 ∙ first.1);
}

acts_host : (call session : ℕ) (x y : Crossings) (a b : LoggedState) (came : ActEnd) → CrossesAt call session x y a b came → StaysHost x y a b
acts_host call session x y a b came it none =
    let turn : InTurn (ActsOnce session) [] (cross_state x.lab) (cross_state y.lab) a b came =
    subst (λ (l : List Planned). InTurn (ActsOnce session) (due call l) (cross_state x.lab) (cross_state y.lab) a b came) none it.1 in
    (it.0 ∙ none, ap (λ (s : LoggedState). s.host) turn.1)

-- ---- a session
module _ (kind : SessionKind) (key : ℕ) (at : ℤ) (moments : List ℤ) (mishaps : List Mishap) (d made : Device) (was became : Crossings) (old new : LoggedState) (outcome : Outcome)
    (ran : IsSessionOver CrossesAt crosses_nothing kind key at moments mishaps d made was became old new outcome) where
  pub lab_stays : StaysAlone was became old new
  lab_stays =
      calls_keep StaysAlone keeps_alone Any at (λ x a b request reply any is none. (none, refl)) CrossesAt crosses_nothing acts_alone mishaps 0
      ran.calls was became old new (any_calls ran.calls) ran.come

  pub host_stays : StaysHost was became old new
  host_stays =
      calls_keep StaysHost keeps_host Any at (λ x a b request reply any is none. (none, ap (λ (z : LoggedState). z.host) is.adds)) CrossesAt crosses_nothing acts_host mishaps 0
      ran.calls was became old new (any_calls ran.calls) ran.come
