-- What a session keeps of the lab and of its server: clocks, names, and that the server's keeper does not fail.
use Rattle.std.specs.List.{AllByRecursion}
use Rattle.std.specs.Prelude.{◌≡◌, ◌≤◌, ℕ, zero, suc, ℤ, true, List, [], ◌∷◌, map, Some, slice_get, slice_set, Ok, Err, ⊤}
use Rattle.std.proofs.Common.{refl, sym, ap, subst, ◌∙◌, inl, inr, arith}
use Rattle.std.proofs.lemmas.Option.{none-some, same_Some}
use Rattle.ak_lab_devices.specs.declared.devices.Device.{Device}
use Rattle.ak_lab_devices.specs.declared.plans.Act.{Act}
use Rattle.ak_lab_devices.specs.declared.plans.Act.TheVariants as acts
use Rattle.ak_lab_wires.proofs.Keeping.{KeepsOn, all_served_keep, calls_keep, turns_keep}
use Rattle.ak_lab_wires.specs.CrossedSyncs.{ActsBy, ActsOnce, CrossState, CrossedSync, CrossesAt, TellsCrossed, cross_state, crosses_nothing}
use Rattle.ak_lab_wires.specs.LabSessions.{IsSessionOver}
use Rattle.ak_lab_wires.specs.Servings.{AreServed}
use Rattle.ak_lab_wires.specs.Turns.{due}
use Rattle.ak_lab_wires.specs.declared.crossed_syncs.Crossings.{Crossings}
use Rattle.ak_lab_wires.specs.declared.lab_sessions.SessionKind.{SessionKind}
use Rattle.ak_client.specs.declared.outcomes.Outcome.{Outcome}
use Rattle.ak_sync_in_memory.specs.Betweens.{ActEnd}
use Rattle.ak_sync_in_memory.specs.Entries.{LoggedState, health_in}
use Rattle.ak_sync_in_memory.specs.LoggedServers.{IsServed}
use Rattle.ak_sync_in_memory.specs.declared.mishaps.Mishap.{Mishap}
use Rattle.ak_messages.specs.declared.replies.Reply.{Reply}
use Rattle.ak_messages.specs.declared.requests.Request.{Request}
use Rattle.ak_client_wire.specs.Tries.{MadeCall}

-- of any request
abbrev pub Any : Request → Type 0
Any request = ⊤

pub all_any : (requests : List Request) → AllByRecursion Any requests
all_any [] = tt
all_any (request ∷ requests) = (tt, all_any requests)

pub any_calls : (calls : List MadeCall) → AllByRecursion (λ (it : MadeCall). Any it.request) calls
any_calls [] = tt
any_calls (it ∷ calls) = (tt, any_calls calls)

-- ---- a keeper that is not to fail stays so
abbrev pub StaysCalm : {X : Type 0} → X → X → LoggedState → LoggedState → Type 0
StaysCalm x y old new = (health_in old).calm ≡ true → (health_in new).calm ≡ true

keeps_calm : {X : Type 0} → KeepsOn (StaysCalm {X = X})
keeps_calm = record { same = λ x s is. is; further = λ x y z a b c one two is. two (one is) }

served_calm : {X : Type 0} (at : ℤ) (x : X) (a b : LoggedState) (request : Request) (reply : Reply) → Any request → IsServed a b request at reply → StaysCalm x x a b
served_calm at x a b request reply any is calm = is.goes.calm calm

-- requests that are served one after the other
pub all_served_calm : (requests : List Request) (replies : List Reply) (at : ℤ) (old new : LoggedState) → AreServed requests at old new replies
    → (health_in old).calm ≡ true → (health_in new).calm ≡ true
all_served_calm requests replies at old new are =
    all_served_keep (StaysCalm {X = ℤ}) keeps_calm Any at (served_calm at) requests replies at old new (all_any requests) are

-- ---- names and clocks stay
-- the name and the clock of each device
pub record Face : Type 0 where
  pub name : List ℕ
  pub shift : ℤ

abbrev pub face_of : Device → Face
face_of d = record { name = d.name; shift = d.shift }

abbrev pub faces : List Device → List Face
faces devices = map face_of devices

pub same_faces : (devices : List Device) (place : ℕ) (d made : Device) → slice_get devices place ≡ Some d → face_of made ≡ face_of d
    → faces (slice_set devices place made) ≡ faces devices
same_faces [] zero d made at same = absurd (none-some d at)
same_faces [] (suc place) d made at same = absurd (none-some d at)
same_faces (device ∷ devices) zero d made at same =
    ap (λ (f : Face). f ∷ faces devices) (same ∙ ap face_of (sym (same_Some device d at)))
same_faces (device ∷ devices) (suc place) d made at same = ap (λ (l : List Face). face_of device ∷ l) (same_faces devices place d made at same)

-- what stays of a lab while a session is under way
pub record StaysLab (was now : CrossState) : Type 0 where
  pub clock : now.clock ≡ was.clock
  pub faces : faces now.devices ≡ faces was.devices
  pub later : was.sessions ≤ now.sessions

abbrev StaysSo : CrossState → CrossState → LoggedState → LoggedState → Type 0
StaysSo was now old new = StaysLab was now

same_lab : (s t : CrossState) → t ≡ s → StaysLab s t
same_lab s t same = subst (λ (x : CrossState). StaysLab s x) (sym same) (record { clock = refl; faces = refl; later = omega arith })

lab_further : (r s t : CrossState) → StaysLab r s → StaysLab s t → StaysLab r t
lab_further r s t one two = record {
  clock = two.clock ∙ one.clock;
  faces = two.faces ∙ one.faces;
  later = let a = one.later in let b = two.later in omega (arith, a, b);
}

keeps_lab : KeepsOn StaysSo
keeps_lab = record { same = λ x s. same_lab x x refl; further = λ x y z a b c one two. lab_further x y z one two }

told_lab : (name : List ℕ) (outcome : Outcome) (was now : CrossState) (came : ActEnd) → TellsCrossed name outcome was now came → StaysLab was now
told_lab name outcome was now (Ok done) told =
    subst (λ (x : CrossState). StaysLab was x) (sym told.2) (record { clock = refl; faces = refl; later = omega arith })
told_lab name outcome was now (Err end) told = same_lab was now told

crossed_lab : (name : List ℕ) (line session : ℕ) (was now : CrossState) (old new : LoggedState) (came : ActEnd) → CrossedSync name line session was now old new came → StaysLab was now
crossed_lab name line session was now old new came it =
    let made = it.sync.made in
    let face : face_of made ≡ face_of it.d = ap face_of it.sync.sync.session.rest in
    lab_further was it.synced now
    (subst (λ (x : CrossState). StaysLab was x) (sym it.sync.left)
    (record { clock = refl; faces = same_faces was.devices it.place it.d made it.may.at face; later = omega arith }))
    (told_lab name it.outcome it.synced now came it.told)

act_lab : (act : Act) (line session : ℕ) (was now : CrossState) (old new : LoggedState) (came : ActEnd) → ActsBy act line session was now old new came → StaysLab was now
act_lab (acts.Cross name) line session was now old new came (inl nothing) = same_lab was now nothing.0
act_lab (acts.Cross name) line session was now old new came (inr it) = crossed_lab name line session was now old new came it
act_lab (acts.Replay from count) line session was now old new came it = same_lab was now it.0

crosses_lab : (call session : ℕ) (x y : Crossings) (a b : LoggedState) (came : ActEnd) → CrossesAt call session x y a b came → StaysLab (cross_state x.lab) (cross_state y.lab)
crosses_lab call session x y a b came it =
    turns_keep StaysSo keeps_lab (ActsOnce session) (λ one p q c d end acted. act_lab one.act one.line session p q c d end acted)
    (due call x.acts) (cross_state x.lab) (cross_state y.lab) a b came it.1

abbrev StaysFor : Crossings → Crossings → LoggedState → LoggedState → Type 0
StaysFor x y old new = StaysLab (cross_state x.lab) (cross_state y.lab)

pub session_lab : (kind : SessionKind) (key : ℕ) (at : ℤ) (moments : List ℤ) (mishaps : List Mishap) (d made : Device) (was became : Crossings) (old new : LoggedState) (outcome : Outcome)
    → IsSessionOver CrossesAt crosses_nothing kind key at moments mishaps d made was became old new outcome → StaysLab (cross_state was.lab) (cross_state became.lab)
session_lab kind key at moments mishaps d made was became old new outcome ran =
    calls_keep StaysFor
    (record { same = λ x s. same_lab (cross_state x.lab) (cross_state x.lab) refl; further = λ x y z a b c one two. lab_further (cross_state x.lab) (cross_state y.lab) (cross_state z.lab) one two })
    Any at (λ x a b request reply any is. same_lab (cross_state x.lab) (cross_state x.lab) refl)
    CrossesAt crosses_nothing crosses_lab mishaps 0 ran.calls was became old new (any_calls ran.calls) ran.come
