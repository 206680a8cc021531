-- What lines plan for the next sync of a device or of the server, and requests of the log that are sent again.
use Rattle.std.specs.Prelude.{◌≡◌, ℕ, ℤ, List, [], ◌∷◌, ◌++◌, Some, map, Result, Ok, Err}
use Rattle.ak_base.specs.declared.errors.Memory.{Memory}
use Rattle.ak_io.specs.Arrivals.{IsClockMoment}
use Rattle.ak_lab.specs.LabStates.{LabState, with_changed}
use Rattle.ak_lab_devices.specs.Devices.{device_of}
use Rattle.ak_lab_devices.specs.declared.devices.Device.{Device}
use Rattle.ak_lab_devices.specs.declared.plans.Act.{Act}
use Rattle.ak_lab_lines.specs.LabTexts.{no_request_text, reply_text}
use Rattle.ak_lab_lines.specs.declared.lab_lines.Side.{Side}
use Rattle.ak_lab_lines.specs.declared.lab_lines.Side.TheVariants as sides
use Rattle.ak_lab_wires.specs.Servings.{AreServed, HasRequests, ServesFront, first_lacking, named_from, requests_in}
use Rattle.ak_messages.specs.declared.replies.Reply.{Reply}
use Rattle.ak_messages.specs.declared.requests.Request.{Request}
use Rattle.ak_sync_in_memory.specs.Betweens.{ActEnd}
use Rattle.ak_sync_in_memory.specs.Entries.{LoggedState}
use Rattle.ak_sync_in_memory.specs.LoggedServers.{IsServed}
use Rattle.ak_sync_in_memory.specs.declared.mishaps.What.{What}

-- ---- for the next sync
-- a device to the messages of whose next sync this happens too, at the call of a number
abbrev pub with_mishap : ℕ → What → Device → Device
with_mishap call what d = record d { mishaps = d.mishaps ++ record { call = call; what = what } ∷ [] }

-- a device before the call of whose next sync this comes too, planned by a line
abbrev pub with_act : ℕ → ℕ → Act → Device → Device
with_act call line act d = record d { planned = d.planned ++ record { call = call; line = line; act = act } ∷ [] }

-- the first call of a keeper, counted from 0
abbrev pub first_call : List ℕ
first_call = 0 ∷ []

-- a device whose keeper's first call in the next sync is to fail
abbrev pub with_break : Device → Device
with_break d = record d { fails = first_call }

-- this is planned for the device of a name
pub record Plans (name : List ℕ) (change : Device → Device) (s t : LabState) : Type 0 where
  pub d : Device
  pub found : device_of name s.devices ≡ Some d
  pub left : t ≡ with_changed (change d) s

-- the first call of a side's keeper in the next sync is to fail: of the server's, in the next sync of any device
abbrev pub PlansBreak : Side → LabState → LabState → Type 0
PlansBreak sides.Server s t = t ≡ record s { fails = first_call }
PlansBreak (sides.Device name) s t = Plans name with_break s t

-- ---- requests of the log
-- there are not so many requests from a number on: the first one that the log lacks is told
abbrev pub LacksRequest : ℕ → ℕ → LabState → LabState → List ℕ → Type 0
LacksRequest from count s t why = (t ≡ s) × (HasRequests from count s.server → ⊥)
    × (why ≡ no_request_text (first_lacking from count s.server))

-- the named requests were served again at the lab's clock, and the answers are told
pub record Resends (from count : ℕ) (s t : LabState) (printed : List (List ℕ)) : Type 0 where
  pub clock : IsClockMoment s.clock
  pub has : HasRequests from count s.server
  pub replies : List Reply
  pub serves : AreServed (named_from from count (requests_in s.server.entries)) s.clock s.server t.server replies
  pub left : t ≡ record s { server = t.server }
  pub told : printed ≡ map reply_text replies

-- they were, or a front of them
pub record ResendsSome (from count : ℕ) (s t : LabState) : Type 0 where
  pub clock : IsClockMoment s.clock
  pub has : HasRequests from count s.server
  pub came : ActEnd
  pub serves : ServesFront (named_from from count (requests_in s.server.entries)) s.clock s.server t.server came
  pub left : t ≡ record s { server = t.server }

-- ---- as the program sends them
-- a request was served once and its answer is told after these
pub record AnswersOne (request : Request) (at : ℤ) (old new : LoggedState) (before after : List (List ℕ)) : Type 0 where
  pub reply : Reply
  pub served : IsServed old new request at reply
  pub told : after ≡ before ++ reply_text reply ∷ []

-- these were served one after the other, and each answer is told; or memory ran out, and a front of them was served
abbrev pub AnswersEach : List Request → ℤ → LoggedState → LoggedState → Result (List (List ℕ)) Memory → Type 0
AnswersEach requests at old new (Ok printed) =
    (replies : List Reply) × AreServed requests at old new replies × (printed ≡ map reply_text replies)
AnswersEach requests at old new (Err end) = (came : ActEnd) × ServesFront requests at old new came
