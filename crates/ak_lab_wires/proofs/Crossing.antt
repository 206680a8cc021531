-- A crossed sync, of what its parts tell.
use Rattle.std.proofs.Common.{◌≡◌, ◌≢◌, ◌≤◌, ◌<◌, ◌+◌, ◌+ℤ◌, ◌++◌, ℕ, ℤ, List, [], ◌∷◌, length, Some, Ok, Err, OnOk, OnErr, get_or, refl, sym, ap, subst, ◌∙◌, slice_get, slice_set}
use Rattle.std.proofs.lemmas.Option.{get_or_from_slice_get, same_Some, slice_get_within}
use Rattle.ak_base.specs.declared.errors.Memory.{Memory}
use Rattle.ak_client.specs.declared.outcomes.Outcome.{Outcome}
use Rattle.ak_io.specs.Arrivals.{IsClockMoment}
use Rattle.ak_lab_devices.proofs.Placing.{read_there}
use Rattle.ak_lab_devices.specs.Devices.{IsPlaceOf, with_plan}
use Rattle.ak_lab_devices.specs.Plans.{crossings_of}
use Rattle.ak_lab_devices.specs.declared.devices.Device.{Device}
use Rattle.ak_lab_devices.specs.declared.plans.Planned.{Planned}
use Rattle.ak_lab_lines.specs.LabTexts.{sync_text}
use Rattle.ak_lab_wires.specs.CrossedSyncs.{CrossState, CrossedSync, CrossesNot, CrossesOnce, IsPreparedFor, MayCross, SyncsCrossed, TellsCrossed}
use Rattle.ak_lab_wires.specs.LabSessions.{IsSessionOver}
use Rattle.ak_lab_wires.specs.Replaying.{ReplaysAt, replays_nothing}
use Rattle.ak_lab_wires.specs.Servings.{with_line}
use Rattle.ak_lab_wires.specs.declared.crossed_syncs.Prepared.{Prepared}
use Rattle.ak_lab_wires.specs.declared.lab_sessions.SessionKind.TheVariants as kinds
use Rattle.ak_lab_wires.specs.declared.replayed_requests.Replays.{Replays}
use Rattle.ak_outcomes.specs.OutcomeTexts.{outcome_text}
use Rattle.ak_sync_in_memory.specs.Betweens.{ActEnd}
use Rattle.ak_sync_in_memory.specs.Entries.{LoggedState}
use Rattle.ak_sync_in_memory.specs.declared.mishaps.Mishap.{Mishap}

-- nothing was done
pub crosses_not : (s : CrossState) (server : LoggedState) (end : Memory) → CrossesNot s s server server (Err end)
crosses_not s server end = (refl, (refl, end, refl))

-- the device at the place of a name may sync
pub may_cross : (name : List ℕ) (session place : ℕ) (s : CrossState) (d : Device) (at : ℤ) → name ≢ [] → IsPlaceOf name s.devices place → d ≡ get_or s.devices place d
    → IsClockMoment s.clock → at ≡ s.clock +ℤ d.shift → IsClockMoment at → session ≤ s.sessions → s.sessions < 18_446_744_073_709_551_615
    → (it : Device) × MayCross name session place it s × (at ≡ s.clock +ℤ it.shift)
may_cross name session place s d at named is read clock moment own past room =
    let there = read_there name s.devices place d is read in (
      d,
      record {
        named = named;
        at = there.0;
        found = there.1;
        has = there.2;
        clock = clock;
        device_clock = subst IsClockMoment moment own;
        past = past;
        room = room;
      },
      moment,
    )

-- a session of a device without its losses, repeats and replays is one that the device made
pub crossed_so : (line key : ℕ) (at : ℤ) (moments : List ℤ) (d taken made : Device) (planned : List Planned) (mishaps : List Mishap) (replays replays_left : Replays) (old lined reached back new : LoggedState)
    (outcome : Outcome) → lined ≡ with_line line old → taken ≡ with_plan [] planned d → planned ≡ crossings_of d.planned → mishaps ≡ d.mishaps → replays.at ≡ at → replays.acts ≡ d.planned
    → IsSessionOver ReplaysAt replays_nothing kinds.Sync key at moments mishaps taken made replays replays_left lined reached outcome
    → back ≡ reached → new ≡ with_line old.line back → SyncsCrossed line key at moments d made old new outcome
crossed_so line key at moments d taken made planned mishaps replays replays_left old lined reached back new outcome line_is taken_is left mishaps_are at_is acts_are ran handed is = record {
  replays = replays;
  replays_left = replays_left;
  at_moment = at_is;
  planned = acts_are;
  reached = reached;
  session = subst (λ (s : LoggedState). IsSessionOver ReplaysAt replays_nothing kinds.Sync key at moments d.mishaps (with_plan [] (crossings_of d.planned) d) made replays replays_left s reached outcome) line_is
      (subst (λ (m : List Mishap). IsSessionOver ReplaysAt replays_nothing kinds.Sync key at moments m (with_plan [] (crossings_of d.planned) d) made replays replays_left lined reached outcome) mishaps_are
      (subst (λ (x : Device). IsSessionOver ReplaysAt replays_nothing kinds.Sync key at moments mishaps x made replays replays_left lined reached outcome)
      (taken_is ∙ ap (λ (l : List Planned). with_plan [] l d) left) ran));
  back = is ∙ ap (with_line old.line) handed;
}

-- the device that was read at the place is the one that may sync
pub crossed_there : (line place key : ℕ) (read made it : Device) (devices : List Device) (s t : CrossState) (old new : LoggedState) (outcome : Outcome) (moments : List ℤ)
    → slice_get s.devices place ≡ Some read → slice_get s.devices place ≡ Some it → key ≡ s.sessions + 1 → moments ≡ (s.clock +ℤ it.shift) ∷ []
    → devices ≡ slice_set s.devices place made → t ≡ record s { sessions = key; devices = devices }
    → SyncsCrossed line key s.clock moments read made old new outcome → CrossesOnce line place it s t old new outcome
crossed_there line place key read made it devices s t old new outcome moments first second next gives put left sync =
    let same : read ≡ it = same_Some read it (sym first ∙ second) in
    record {
      made = made;
      sync = subst (λ (m : List ℤ). SyncsCrossed line (s.sessions + 1) s.clock m it made old new outcome) gives
          (subst (λ (n : ℕ). SyncsCrossed line n s.clock moments it made old new outcome) next
          (subst (λ (x : Device). SyncsCrossed line key s.clock moments x made old new outcome) same sync));
      left = left ∙ ap (λ (n : ℕ). let x : CrossState = record s { sessions = n; devices = devices } in x) next
          ∙ ap (λ (l : List Device). let x : CrossState = record s { sessions = s.sessions + 1; devices = l } in x) put;
    }

-- the whole of it
pub crossed_whole : (name : List ℕ) (line session place : ℕ) (d : Device) (was synced now : CrossState) (old new : LoggedState) (outcome : Outcome) (came : ActEnd) → MayCross name session place d was
    → CrossesOnce line place d was synced old new outcome → TellsCrossed name outcome synced now came → CrossedSync name line session was now old new came
crossed_whole name line session place d was synced now old new outcome came may sync told = record {
  place = place;
  d = d;
  may = may;
  outcome = outcome;
  synced = synced;
  sync = sync;
  told = told;
}

-- ---- what its parts read
-- a device stands at a place of the list
pub stands_within : (devices : List Device) (place : ℕ) (d : Device) → slice_get devices place ≡ Some d → place < length devices
stands_within devices place d at = slice_get_within devices place d at

-- what was read at the place is the device that stands there
pub read_is : (devices : List Device) (place : ℕ) (d read : Device) → slice_get devices place ≡ Some d → read ≡ get_or devices place read → read ≡ d
read_is devices place d read at is = is ∙ get_or_from_slice_get devices place d read at

-- what its sync takes is made for it
pub prepared_so : (clock at : ℤ) (planned : List Planned) (d : Device) (it : Prepared) → planned ≡ d.planned → at ≡ clock +ℤ d.shift → it.clock ≡ at ∷ []
    → it.left ≡ crossings_of planned → IsPreparedFor d clock it
prepared_so clock at planned d it same moment gives left = record {
  gives = gives ∙ ap (λ (z : ℤ). z ∷ []) moment;
  left = left ∙ ap crossings_of same;
}

-- the line of the sync was written: it is printed, if memory suffices for it
pub told_so : (name : List ℕ) (outcome : Outcome) (was now : CrossState) (line : List ℕ) (result : ActEnd)
    → (text : List ℕ) × (outcome_text outcome ≡ Some text) × (line ≡ sync_text name text)
    → OnOk result (now.printed ≡ was.printed ++ line ∷ []) → OnErr result (now.printed ≡ was.printed)
    → now ≡ (let x : CrossState = record was { printed = now.printed } in x) → TellsCrossed name outcome was now result
told_so name outcome was now line (Ok done) (text, is, said) pushed kept left = (
  text,
  is,
  left ∙ ap (λ (l : List (List ℕ)). let x : CrossState = record was { printed = l } in x) (pushed ∙ ap (λ (l : List ℕ). was.printed ++ l ∷ []) said),
)
told_so name outcome was now line (Err end) written pushed kept left =
    left ∙ ap (λ (l : List (List ℕ)). let x : CrossState = record was { printed = l } in x) kept
