-- A line of the desk on a device of a lab.
use Rattle.std.specs.Prelude.{◌≡◌, ℕ, ℤ, ◌+ℤ◌, List, [], Some, Result}
use Rattle.ak_any_lines.specs.AnyEnds.{AppliesToAny, EndsAnyLine}
use Rattle.ak_desk_lines.specs.DeskStates.{DeskState}
use Rattle.ak_desk_lines.specs.declared.turns.Turn.{Turn}
use Rattle.ak_edit.specs.declared.desk_faults.DeskFault.{DeskFault}
use Rattle.ak_filters.specs.Meanings.{Meaning}
use Rattle.ak_lab_devices.specs.Devices.{device_of, keeping_of}
use Rattle.ak_lab.specs.LabStates.{LabState, with_changed}
use Rattle.ak_lab_devices.specs.declared.devices.Device.{Device}
use Rattle.ak_desk_language.specs.AnyLines.{SaysAnyLine}
use Rattle.ak_desk_language.specs.declared.any_lines.AnyLine.{AnyLine}
use Rattle.ak_desk_texts.specs.declared.answers.DeskAnswer.{DeskAnswer}
use Rattle.ak_desk_texts.specs.declared.line_refusals.LineRefusal.{LineRefusal}
use Rattle.ak_lab_devices.specs.NewReviews.{EndsReviews}
use Rattle.ak_lab_devices.specs.declared.new_reviews.ReviewPlan.{ReviewPlan}
use Rattle.ak_line_runs.specs.AcceptedAnswers.{done_after}

-- the desk of a device: its keeper and its undo list
abbrev pub desk_of : Device → DeskState
desk_of d = record { keeping = keeping_of d; steps = d.undo }

-- the turn of a line on a device whose clock stands at this moment. There is no chance in a lab
abbrev pub turn_of : ℤ → Device → Turn
turn_of at d = record { at = at; chance = 0; done = d.done }

-- a device after a line of the desk, by what that made of its desk and of its count of accepted answers
abbrev pub IsObeyed : Device → Device → Result DeskAnswer LineRefusal → Type 0
IsObeyed d made result =
    made ≡ record d { collection = made.collection; undo = made.undo; done = done_after result d.done }

-- `do <device> <line>`: the line is said by the text, and ended so on the device. There are no filters in a lab
pub record EndsDo (name text : List ℕ) (s t : LabState) (result : Result DeskAnswer LineRefusal) : Type 0 where
  pub d : Device
  pub made : Device
  pub said : AnyLine
  pub found : device_of name s.devices ≡ Some d
  pub says : SaysAnyLine text said
  pub ends : EndsAnyLine said (turn_of (s.clock +ℤ d.shift) d) (desk_of d) (desk_of made) result
  pub turned : List Meaning
  pub filters : AppliesToAny said (keeping_of d) [] turned result
  pub rest : IsObeyed d made result
  pub left : t ≡ with_changed made s

-- `review <device> <card> <ease> <count>`: the new reviews ended so on the device, at its moment
pub record EndsReview (name : List ℕ) (plan : ReviewPlan) (s t : LabState) (result : Result (Unit {0}) DeskFault) : Type 0 where
  pub d : Device
  pub made : Device
  pub found : device_of name s.devices ≡ Some d
  pub ends : EndsReviews (s.clock +ℤ d.shift) plan (keeping_of d) (keeping_of made) d.undo made.undo result
  pub rest : made ≡ record d { collection = made.collection; undo = made.undo }
  pub left : t ≡ with_changed made s
