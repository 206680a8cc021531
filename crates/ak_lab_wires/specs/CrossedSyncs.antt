-- Whoever makes other devices sync, and serves requests of the log again, between the calls of a wire.
use Rattle.std.specs.Prelude.{◌≡◌, ◌≢◌, ◌⊎◌, ◌+◌, ◌+ℤ◌, ◌≤◌, ◌<◌, ◌++◌, ℕ, ℤ, Bool, List, [], ◌∷◌, Some, Ok, Err, slice_get, slice_set}
use Rattle.ak_client.specs.declared.outcomes.Outcome.{Outcome}
use Rattle.ak_io.specs.Arrivals.{IsClockMoment}
use Rattle.ak_lab_devices.specs.Devices.{device_of, with_plan}
use Rattle.ak_lab_devices.specs.Plans.{crossings_of}
use Rattle.ak_lab_devices.specs.declared.devices.Device.{Device}
use Rattle.ak_lab_devices.specs.declared.plans.Act.{Act}
use Rattle.ak_lab_devices.specs.declared.plans.Act.TheVariants as acts
use Rattle.ak_lab_lines.specs.LabTexts.{sync_text}
use Rattle.ak_lab_wires.specs.LabSessions.{IsSessionOver}
use Rattle.ak_lab_wires.specs.Replaying.{ReplaysAt, replays_nothing}
use Rattle.ak_lab_wires.specs.Servings.{ComesToNothing, ServesAgain, with_line}
use Rattle.ak_lab_wires.specs.Turns.{InTurn, TurnKind, due, plans_nothing}
use Rattle.ak_lab_wires.specs.declared.crossed_syncs.CrossedLab.{CrossedLab}
use Rattle.ak_lab_wires.specs.declared.crossed_syncs.Crossings.{Crossings}
use Rattle.ak_lab_wires.specs.declared.crossed_syncs.Prepared.{Prepared}
use Rattle.ak_lab_wires.specs.declared.lab_sessions.SessionKind.TheVariants as kinds
use Rattle.ak_lab_wires.specs.declared.replayed_requests.Replays.{Replays}
use Rattle.ak_outcomes.specs.OutcomeTexts.{outcome_text}
use Rattle.ak_sync_in_memory.specs.Betweens.{ActEnd, Acting}
use Rattle.ak_sync_in_memory.specs.Entries.{LoggedState}

-- ---- the lab in which they sync
-- its clock in milliseconds, how many sessions began, its devices in the order of their lines, and what crossed syncs printed so far
pub record CrossState : Type 0 where
  pub clock : ℤ
  pub sessions : ℕ
  pub devices : List Device
  pub printed : List (List ℕ)

-- the state of the program's
abbrev pub cross_state : CrossedLab → CrossState
cross_state it =
    record { clock = it.clock; sessions = it.sessions; devices = it.devices.items; printed = it.printed }

-- ---- one crossing
-- the device of this name, which has one, stands at the place and may sync before a request of this session: clocks may stand so, no session that
-- began has the next key, and there is one
pub record MayCross (name : List ℕ) (session place : ℕ) (d : Device) (s : CrossState) : Type 0 where
  pub named : name ≢ []
  pub at : slice_get s.devices place ≡ Some d
  pub found : device_of name s.devices ≡ Some d
  pub has : d.name ≡ name
  pub clock : IsClockMoment s.clock
  pub device_clock : IsClockMoment (s.clock +ℤ d.shift)
  pub past : session ≤ s.sessions
  pub room : s.sessions < 18_446_744_073_709_551_615

-- what a crossed sync of a device takes is made: its clock gives the moment so far after the lab's, and its crossings stay planned
pub record IsPreparedFor (d : Device) (clock : ℤ) (it : Prepared) : Type 0 where
  pub gives : it.clock ≡ (clock +ℤ d.shift) ∷ []
  pub left : it.left ≡ crossings_of d.planned

-- a device made a whole sync, in the session of a key, at this moment of the server's clock, while its own gave these. What came of it is written down
-- with a line. It used up its breaks, losses, repeats and replays; its crossings are left
pub record SyncsCrossed (line key : ℕ) (at : ℤ) (moments : List ℤ) (d made : Device) (old new : LoggedState) (outcome : Outcome) : Type 0 where
  -- what acted between its calls
  pub replays : Replays
  pub replays_left : Replays
  pub at_moment : replays.at ≡ at
  pub planned : replays.acts ≡ d.planned
  pub reached : LoggedState
  pub session : IsSessionOver ReplaysAt replays_nothing kinds.Sync key at moments d.mishaps (with_plan [] (crossings_of d.planned) d) made
      replays replays_left (with_line line old) reached outcome
  pub back : new ≡ with_line old.line reached

-- the device at a place did so: the next session
pub record CrossesOnce (line place : ℕ) (d : Device) (was now : CrossState) (old new : LoggedState) (outcome : Outcome) : Type 0 where
  pub made : Device
  pub sync : SyncsCrossed line (was.sessions + 1) was.clock ((was.clock +ℤ d.shift) ∷ []) d made old new outcome
  pub left : now ≡ record was { sessions = was.sessions + 1; devices = slice_set was.devices place made }

-- how a crossed sync is told: its line is printed, unless memory ran out for it, or in the sync
abbrev pub TellsCrossed : List ℕ → Outcome → CrossState → CrossState → ActEnd → Type 0
TellsCrossed name outcome was now (Ok done) = (text : List ℕ) × (outcome_text outcome ≡ Some text)
    × (now ≡ record was { printed = was.printed ++ sync_text name text ∷ [] })
TellsCrossed name outcome was now (Err end) = now ≡ was

-- a whole sync of the device of this name
pub record CrossedSync (name : List ℕ) (line session : ℕ) (was now : CrossState) (old new : LoggedState) (came : ActEnd) : Type 0 where
  pub place : ℕ
  pub d : Device
  pub may : MayCross name session place d was
  pub outcome : Outcome
  pub synced : CrossState
  pub sync : CrossesOnce line place d was synced old new outcome
  pub told : TellsCrossed name outcome synced now came

-- nothing was done: the device could not sync, or memory was out for what its sync takes
abbrev pub CrossesNot : CrossState → CrossState → LoggedState → LoggedState → ActEnd → Type 0
CrossesNot was now old new came = (now ≡ was) × ComesToNothing old new came

-- ---- what lines planned
-- what an act brings before a request of this session, written down with a line
abbrev pub ActsBy : Act → ℕ → ℕ → CrossState → CrossState → LoggedState → LoggedState → ActEnd → Type 0
ActsBy (acts.Cross name) line session was now old new came =
    CrossesNot was now old new came ⊎ CrossedSync name line session was now old new came
ActsBy (acts.Replay from count) line session was now old new came =
    (now ≡ was) × ServesAgain from count line was.clock old new came

-- the same of what a line planned
abbrev pub ActsOnce : ℕ → TurnKind CrossState
ActsOnce session it was now old new came = ActsBy it.act it.line session was now old new came

-- all that is planned before a call, in the order of the lines, up to the first that ran out of memory. What is planned stays
abbrev pub CrossesAt : Acting Crossings
CrossesAt call session was now old new came = (now.acts ≡ was.acts)
    × InTurn (ActsOnce session) (due call was.acts) (cross_state was.lab) (cross_state now.lab) old new came

-- whether it is known to do nothing
abbrev pub crosses_nothing : Crossings → Bool
crosses_nothing it = plans_nothing it.acts
