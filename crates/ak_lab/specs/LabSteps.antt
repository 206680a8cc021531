-- What the lines of a lab's script do, each by its form.
use Rattle.std.specs.Prelude.{◌≡◌, ◌⊎◌, ℕ, ℤ, ◌+ℤ◌, true, false, ◌<◌, ◌≤◌, List, [], ◌∷◌, ◌++◌, length, Some, None, Ok, Err, codes}
use Rattle.ak_client.specs.declared.outcomes.Outcome.{Outcome}
use Rattle.ak_edit.specs.declared.desk_faults.DeskFault.{DeskFault}
use Rattle.ak_keep.specs.Collections.{Collection}
use Rattle.ak_lab_devices.specs.Devices.{are_in_time, device_of, is_clock_moment, new_device}
use Rattle.ak_lab.specs.LabDesks.{EndsDo, EndsReview}
use Rattle.ak_lab.specs.LabPlans.{LacksRequest, Plans, PlansBreak, Resends, ResendsSome, with_act, with_mishap}
use Rattle.ak_lab.specs.LabStates.{LabState, with_changed}
use Rattle.ak_lab.specs.LabSyncs.{EndsSync, EndsTransfer}
use Rattle.ak_lab_devices.specs.declared.devices.Device.{Device}
use Rattle.ak_lab_devices.specs.declared.plans.Act.TheVariants as acts
use Rattle.ak_lab_wires.specs.Servings.{HasRequests}
use Rattle.ak_lab_devices.specs.RestingKeepers.{Holds}
use Rattle.ak_lab_devices.specs.Shows.{shown_lines}
use Rattle.ak_lab_lines.specs.LabTexts.{counts_text, direction_word, ending_text, no_device_text, requests_text, sync_text}
use Rattle.ak_lab_lines.specs.declared.lab_lines.LabLine.{LabLine}
use Rattle.ak_lab_lines.specs.declared.lab_lines.LabLine.TheVariants as lines
use Rattle.ak_lab_lines.specs.declared.lab_lines.Side.{Side}
use Rattle.ak_lab_lines.specs.declared.lab_lines.Side.TheVariants as sides
use Rattle.ak_lab_devices.specs.declared.new_reviews.ReviewPlan.{ReviewPlan}
use Rattle.ak_line_runs.specs.LineTexts.{SaysNoLine}
use Rattle.ak_outcomes.specs.OutcomeTexts.{outcome_text}
use Rattle.ak_sync_in_memory.specs.Copies.{IsViewed, committed_in}
use Rattle.ak_sync_in_memory.specs.Entries.{health_in}
use Rattle.ak_session.specs.Answers.{counts_of}
use Rattle.ak_desk_texts.specs.AnswerTexts.{answer_text}
use Rattle.ak_desk_texts.specs.FaultTexts.{desk_fault_text, refusal_text}
use Rattle.ak_desk_texts.specs.declared.answers.DeskAnswer.{DeskAnswer}
use Rattle.ak_desk_texts.specs.declared.line_refusals.LineRefusal.{LineRefusal}

-- ---- what is looked at
-- the server was viewed, some times or not at all, and none of the calls of its keeper is to fail then
pub record ReadsServer (s t : LabState) : Type 0 where
  pub viewed : IsViewed s.server t.server
  pub calm : (health_in t.server).calm ≡ true
  pub left : t ≡ record s { server = t.server }

-- a side holds this collection. The server is read by views
abbrev pub SideHolds : Side → LabState → LabState → Collection → Type 0
SideHolds sides.Server s t c =
    (committed_in s.server ≡ Some c) × ReadsServer s t
SideHolds (sides.Device name) s t c =
    (t ≡ s) × (d : Device) × (device_of name s.devices ≡ Some d) × Holds d.collection c

-- ---- lines that are accepted
-- `device <name>`: the server is read, and a device with a copy of its collection comes last
pub record AddsDevice (name : List ℕ) (s t : LabState) : Type 0 where
  pub committed : Collection
  pub new : device_of name s.devices ≡ None
  pub room : length s.devices < 16
  pub is : committed_in s.server ≡ Some committed
  pub read : IsViewed s.server t.server
  pub calm : (health_in t.server).calm ≡ true
  pub left : t ≡ record s { server = t.server; devices = s.devices ++ new_device name committed ∷ [] }

-- `shift <device> <ms>`: the device's clock is the lab's plus this, if a clock may stand there
pub record Shifts (name : List ℕ) (by : ℤ) (s t : LabState) : Type 0 where
  pub d : Device
  pub found : device_of name s.devices ≡ Some d
  pub in_time : is_clock_moment (s.clock +ℤ by) ≡ true
  pub left : t ≡ with_changed (record d { shift = by }) s

-- the plan of new reviews that a line says
abbrev pub plan_of : ℤ → ℤ → ℕ → ReviewPlan
plan_of card ease count = record { card = card; ease = ease; count = count }

-- a line is accepted, and prints these lines
abbrev pub Accepts : LabLine → LabState → LabState → List (List ℕ) → Type 0
Accepts (lines.Clock at) s t printed =
    (are_in_time at s.devices ≡ true) × (t ≡ record s { clock = at }) × (printed ≡ [])
Accepts (lines.Device name) s t printed = AddsDevice name s t × (printed ≡ [])
Accepts (lines.Shift name by) s t printed = Shifts name by s t × (printed ≡ [])
Accepts (lines.Review name card ease count) s t printed =
    EndsReview name (plan_of card ease count) s t (Ok tt) × (printed ≡ [])
Accepts (lines.Do name text) s t printed =
    (answer : DeskAnswer) × EndsDo name text s t (Ok answer) × (printed ≡ answer_text answer ∷ [])
Accepts (lines.Sync name) s t printed =
    (outcome : Outcome) × (text : List ℕ) × (crossed : List (List ℕ)) × EndsSync name s t crossed outcome
    × (outcome_text outcome ≡ Some text) × (printed ≡ crossed ++ sync_text name text ∷ [])
Accepts (lines.Disturb name call what) s t printed = Plans name (with_mishap call what) s t × (printed ≡ [])
Accepts (lines.Cross name call other) s t printed = (o : Device) × (device_of other s.devices ≡ Some o)
    × Plans name (with_act call s.server.line (acts.Cross other)) s t × (printed ≡ [])
Accepts (lines.Replay name call from count) s t printed = HasRequests from count s.server
    × Plans name (with_act call s.server.line (acts.Replay from count)) s t × (printed ≡ [])
Accepts (lines.Resend from count) s t printed = Resends from count s t printed
Accepts (lines.Break side) s t printed = PlansBreak side s t × (printed ≡ [])
Accepts (lines.Transfer direction name) s t printed =
    (outcome : Outcome) × (text : List ℕ) × EndsTransfer direction name s t outcome × (outcome_text outcome ≡ Some text)
    × (printed ≡ ending_text (direction_word direction) name text ∷ [])
Accepts (lines.Show side what) s t printed = (c : Collection) × SideHolds side s t c × (printed ≡ shown_lines what c)
Accepts (lines.Count side) s t printed =
    (c : Collection) × SideHolds side s t c × (printed ≡ counts_text (counts_of c.rows) ∷ [])
Accepts (lines.Requests name) s t printed =
    (t ≡ s) × (d : Device) × (device_of name s.devices ≡ Some d) × (printed ≡ requests_text name d.calls ∷ [])

-- ---- lines that are refused
-- there is no device of this name
abbrev pub NoDevice : List ℕ → LabState → LabState → List ℕ → Type 0
NoDevice name s t why = (t ≡ s) × (device_of name s.devices ≡ None) × (why ≡ no_device_text name)

-- the same of a side
abbrev pub NoSide : Side → LabState → LabState → List ℕ → Type 0
NoSide sides.Server s t why = ⊥
NoSide (sides.Device name) s t why = NoDevice name s t why

-- a new device may not have a name that is held, and there are at most 16 devices
abbrev pub RefusesDevice : List ℕ → LabState → List ℕ → Type 0
RefusesDevice name s why =
    ((d : Device) × (device_of name s.devices ≡ Some d) × (why ≡ codes "device held"))
    ⊎ (device_of name s.devices ≡ None) × (16 ≤ length s.devices) × (why ≡ codes "too many devices")

-- the device's clock may not stand there
pub record RefusesShift (name : List ℕ) (by : ℤ) (s : LabState) (why : List ℕ) : Type 0 where
  pub d : Device
  pub found : device_of name s.devices ≡ Some d
  pub out : is_clock_moment (s.clock +ℤ by) ≡ false
  pub text : why ≡ codes "bad line"

-- the text says no line of the desk
pub record SaysNoDeskLine (name text : List ℕ) (s t : LabState) (why : List ℕ) : Type 0 where
  pub d : Device
  pub found : device_of name s.devices ≡ Some d
  pub none : SaysNoLine text why
  pub left : t ≡ s

-- a line is refused by this text. It leaves all as it was, but for what a refused line of the desk leaves, and for views of the server
abbrev pub RefusesWith : LabLine → LabState → LabState → List ℕ → Type 0
RefusesWith (lines.Clock at) s t why = (t ≡ s) × (are_in_time at s.devices ≡ false) × (why ≡ codes "bad line")
RefusesWith (lines.Device name) s t why = (t ≡ s) × RefusesDevice name s why
RefusesWith (lines.Shift name by) s t why = NoDevice name s t why ⊎ (t ≡ s) × RefusesShift name by s why
RefusesWith (lines.Review name card ease count) s t why = NoDevice name s t why
    ⊎ (fault : DeskFault) × EndsReview name (plan_of card ease count) s t (Err fault) × (desk_fault_text fault ≡ Some why)
RefusesWith (lines.Do name text) s t why = NoDevice name s t why ⊎ SaysNoDeskLine name text s t why
    ⊎ (refusal : LineRefusal) × EndsDo name text s t (Err refusal) × (refusal_text refusal ≡ Some why)
RefusesWith (lines.Sync name) s t why = NoDevice name s t why
RefusesWith (lines.Disturb name call what) s t why = NoDevice name s t why
RefusesWith (lines.Cross name call other) s t why = NoDevice name s t why
    ⊎ (d : Device) × (device_of name s.devices ≡ Some d) × NoDevice other s t why
RefusesWith (lines.Replay name call from count) s t why = NoDevice name s t why
    ⊎ (d : Device) × (device_of name s.devices ≡ Some d) × LacksRequest from count s t why
RefusesWith (lines.Resend from count) s t why = LacksRequest from count s t why
RefusesWith (lines.Break side) s t why = NoSide side s t why
RefusesWith (lines.Transfer direction name) s t why = NoDevice name s t why
RefusesWith (lines.Show side what) s t why = NoSide side s t why
RefusesWith (lines.Count side) s t why = NoSide side s t why
RefusesWith (lines.Requests name) s t why = NoDevice name s t why

-- ---- lines in which memory runs out
-- the server was viewed some times, or not at all
abbrev pub OnlyViews : LabState → LabState → Type 0
OnlyViews s t = IsViewed s.server t.server × (t ≡ record s { server = t.server })

-- a device of this name may be added
abbrev pub HasRoomFor : List ℕ → LabState → Type 0
HasRoomFor name s = (device_of name s.devices ≡ None) × (length s.devices < 16)

-- a side was looked at: the server by views alone
abbrev pub OnlyLooks : Side → LabState → LabState → Type 0
OnlyLooks sides.Server s t = OnlyViews s t
OnlyLooks (sides.Device name) s t = t ≡ s

-- memory ran out in a line: before it did anything; or after views of the server, which only a new device and what looks at the server make; or at the desk or in the session, or among requests
-- that are sent again, or for the text of what these came to. For the answer of an accepted line of the desk memory is never out: it is then printed in pieces
abbrev pub RunsShort : LabLine → LabState → LabState → Type 0
RunsShort (lines.Clock at) s t = t ≡ s
RunsShort (lines.Device name) s t = (t ≡ s) ⊎ HasRoomFor name s × OnlyViews s t
RunsShort (lines.Shift name by) s t = t ≡ s
RunsShort (lines.Review name card ease count) s t = (t ≡ s)
    ⊎ (fault : DeskFault) × EndsReview name (plan_of card ease count) s t (Err fault)
RunsShort (lines.Do name text) s t = (t ≡ s) ⊎ (refusal : LineRefusal) × EndsDo name text s t (Err refusal)
RunsShort (lines.Sync name) s t = (t ≡ s) ⊎ (crossed : List (List ℕ)) × (outcome : Outcome) × EndsSync name s t crossed outcome
RunsShort (lines.Disturb name call what) s t = t ≡ s
RunsShort (lines.Cross name call other) s t = t ≡ s
RunsShort (lines.Replay name call from count) s t = t ≡ s
RunsShort (lines.Resend from count) s t = (t ≡ s) ⊎ ResendsSome from count s t
RunsShort (lines.Break side) s t = t ≡ s
RunsShort (lines.Transfer direction name) s t = (t ≡ s) ⊎ (outcome : Outcome) × EndsTransfer direction name s t outcome
RunsShort (lines.Show side what) s t = OnlyLooks side s t
RunsShort (lines.Count side) s t = OnlyLooks side s t
RunsShort (lines.Requests name) s t = t ≡ s
