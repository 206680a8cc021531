-- What was done on the device at a place was done on the device of its name.
use Rattle.std.proofs.Common.{◌≡◌, ℕ, ℤ, ◌+ℤ◌, true, [], List, Some, Result, Err, get_or, refl, sym, ap, subst, ◌∙◌, inl, inr, slice_set}
use Rattle.std.proofs.lemmas.Option.{same_Some}
use Rattle.ak_any_lines.specs.AnyEnds.{AppliesToAny, EndsAnyLine}
use Rattle.ak_edit.specs.declared.desk_faults.DeskFault.{DeskFault}
use Rattle.ak_filters.specs.Meanings.{Meaning}
use Rattle.ak_io.specs.Arrivals.{IsClockMoment}
use Rattle.ak_lab.proofs.Coming.{short}
use Rattle.ak_lab_devices.proofs.InTime.{place_in_time, unshifted_in_time}
use Rattle.ak_lab_devices.proofs.Placing.{read_there}
use Rattle.ak_lab.specs.LabDesks.{EndsDo, EndsReview, IsObeyed, desk_of, turn_of}
use Rattle.ak_lab.specs.LabStates.{IsReady, LabState}
use Rattle.ak_lab.specs.LineStops.{CameOut}
use Rattle.ak_lab_devices.specs.Devices.{IsPlaceOf, are_in_time, device_of, keeping_of, with_device}
use Rattle.ak_lab_devices.specs.declared.devices.Device.{Device}
use Rattle.ak_lab_lines.specs.declared.lab_lines.LabLine.TheVariants as lines
use Rattle.ak_lab_devices.specs.NewReviews.{EndsReviews}
use Rattle.ak_lab_devices.specs.declared.new_reviews.ReviewPlan.{ReviewPlan}
use Rattle.ak_desk_language.specs.AnyLines.{RefusesAnyLine, SaysAnyLine}
use Rattle.ak_desk_language.specs.declared.any_lines.AnyLine.{AnyLine}
use Rattle.ak_desk_language.specs.declared.line_faults.LineFault.{LineFault}
use Rattle.ak_desk_texts.specs.declared.answers.DeskAnswer.{DeskAnswer}
use Rattle.ak_desk_texts.specs.declared.line_refusals.LineRefusal.{LineRefusal}
use Rattle.ak_line_runs.specs.LineStops.{IsLineStop}
use Rattle.ak_line_runs.specs.declared.line_stops.LineStop.{LineStop}
use Rattle.ak_line_runs.specs.declared.line_stops.LineStop.TheVariants as stops

-- the lab with another device at a place
abbrev pub put_at : ℕ → Device → LabState → LabState
put_at place made s = record s { devices = slice_set s.devices place made }

-- two devices that were read at one place
pub read_twice : (name : List ℕ) (s : LabState) (place : ℕ) (read d : Device) → IsPlaceOf name s.devices place → read ≡ get_or s.devices place read → d ≡ get_or s.devices place d → read ≡ d
read_twice name s place read d is first second =
    let one = read_there name s.devices place read is first in
    let other = read_there name s.devices place d is second in
    same_Some read d (sym one.0 ∙ other.0)

-- the clock of the device at a place
pub there_in_time : (name : List ℕ) (s : LabState) (place : ℕ) (d : Device) → IsPlaceOf name s.devices place → d ≡ get_or s.devices place d → IsReady s → IsClockMoment (s.clock +ℤ d.shift)
there_in_time name s place d is read ready =
    let there = read_there name s.devices place d is read in
    place_in_time s.clock s.devices place d ready.clocks there.0

-- a device of the same name takes the place
pub put_there : (name : List ℕ) (s : LabState) (place : ℕ) (d made : Device) → IsPlaceOf name s.devices place → d ≡ get_or s.devices place d → made.name ≡ d.name
    → put_at place made s ≡ (let t : LabState = record s { devices = with_device made s.devices } in t)
put_there name s place d made is read same =
    let there = read_there name s.devices place d is read in
    ap (λ (devices : List Device). let t : LabState = record s { devices = devices } in t) (sym (is.set made (same ∙ there.2)))

-- the clocks stand as they did
pub ready_there : (name : List ℕ) (s : LabState) (place : ℕ) (d made : Device) → IsPlaceOf name s.devices place → d ≡ get_or s.devices place d
    → made.name ≡ d.name → made.shift ≡ d.shift → IsReady s → IsReady (put_at place made s)
ready_there name s place d made is read same unshifted ready =
    let there = read_there name s.devices place d is read in
    record {
      clocks = subst (λ (devices : List Device). are_in_time s.clock devices ≡ true) (is.set made (same ∙ there.2))
          (unshifted_in_time s.clock name d made s.devices ready.clocks there.1 unshifted);
      calm = ready.calm;
    }

-- new reviews
pub review_there : (name : List ℕ) (plan : ReviewPlan) (s : LabState) (place : ℕ) (read d made : Device) (at : ℤ) (result : Result (Unit {0}) DeskFault)
    → IsPlaceOf name s.devices place → read ≡ get_or s.devices place read → d ≡ get_or s.devices place d → at ≡ s.clock +ℤ read.shift
    → EndsReviews at plan (keeping_of d) (keeping_of made) d.undo made.undo result
    → made ≡ record d { collection = made.collection; undo = made.undo } → EndsReview name plan s (put_at place made s) result
review_there name plan s place read d made at result is first second moment ends rest =
    let there = read_there name s.devices place d is second in
    let same : read ≡ d = read_twice name s place read d is first second in
    record {
      d = d;
      made = made;
      found = there.1;
      ends = subst (λ (at : ℤ). EndsReviews at plan (keeping_of d) (keeping_of made) d.undo made.undo result)
          (moment ∙ ap (λ (x : Device). s.clock +ℤ x.shift) same) ends;
      rest = rest;
      left = put_there name s place d made is second (ap (λ (x : Device). x.name) rest);
    }

-- a line of the desk
pub do_there : (name text : List ℕ) (s : LabState) (place : ℕ) (read d made : Device) (at : ℤ) (said : AnyLine) (result : Result DeskAnswer LineRefusal)
    → IsPlaceOf name s.devices place → read ≡ get_or s.devices place read → d ≡ get_or s.devices place d → at ≡ s.clock +ℤ read.shift
    → SaysAnyLine text said → EndsAnyLine said (turn_of at d) (desk_of d) (desk_of made) result
    → (turned : List Meaning) × AppliesToAny said (keeping_of d) [] turned result
    → IsObeyed d made result → EndsDo name text s (put_at place made s) result
do_there name text s place read d made at said result is first second moment says ends filters rest =
    let there = read_there name s.devices place d is second in
    let same : read ≡ d = read_twice name s place read d is first second in
    record {
      d = d;
      made = made;
      said = said;
      found = there.1;
      says = says;
      ends = subst (λ (at : ℤ). EndsAnyLine said (turn_of at d) (desk_of d) (desk_of made) result)
          (moment ∙ ap (λ (x : Device). s.clock +ℤ x.shift) same) ends;
      turned = filters.0;
      filters = filters.1;
      rest = rest;
      left = put_there name s place d made is second (ap (λ (x : Device). x.name) rest);
    }

-- a text that says no line of the desk
pub unsaid : (name text : List ℕ) (s : LabState) (d : Device) (fault : LineFault) (stop : LineStop) → IsLineStop fault stop → device_of name s.devices ≡ Some d
    → RefusesAnyLine text fault → CameOut (lines.Do name text) s s (Err stop)
unsaid name text s d fault (stops.Refused why) told found refuses =
    inr (inl (record { d = d; found = found; none = (fault, refuses, told); left = refl }))
unsaid name text s d fault stops.Failed told found refuses = absurd told
unsaid name text s d fault stops.Memory told found refuses = short (lines.Do name text) s
