-- What a line comes to if it stops.
use Rattle.std.proofs.Common.{◌≡◌, ◌≢◌, ◌<◌, ℕ, ℤ, [], ◌∷◌, List, length, None, Result, Ok, Err, IfOk, IfErr, IsErrAnd, refl, sym, ap, subst, inl, inr, append-nil}
use Rattle.ak_desk_texts.specs.declared.line_refusals.LineRefusal.{LineRefusal}
use Rattle.ak_desk_texts.specs.declared.line_refusals.LineRefusal.TheVariants as refusals
use Rattle.ak_edit.specs.declared.desk_faults.DeskFault.{DeskFault}
use Rattle.ak_edit.specs.declared.desk_faults.DeskFault.TheVariants as desks
use Rattle.ak_lab.specs.LabDesks.{EndsDo, EndsReview}
use Rattle.ak_lab.specs.LabStates.{LabState}
use Rattle.ak_lab.specs.LabSteps.{Accepts, OnlyViews, RefusesWith, RunsShort, plan_of}
use Rattle.ak_lab.specs.LabStops.{IsDeskStop}
use Rattle.ak_lab.specs.LineStops.{CameOut}
use Rattle.ak_lab_devices.specs.Devices.{device_of}
use Rattle.ak_lab_devices.specs.declared.devices.Device.{Device}
use Rattle.ak_lab_lines.specs.declared.lab_lines.LabLine.{LabLine}
use Rattle.ak_lab_lines.specs.declared.lab_lines.LabLine.TheVariants as lines
use Rattle.ak_lab_lines.specs.declared.lab_lines.Side.TheVariants as sides
use Rattle.ak_line_runs.specs.LineStops.{IsRefusalStop, IsStopBy}
use Rattle.ak_line_runs.specs.declared.line_stops.LineStop.{LineStop}
use Rattle.ak_line_runs.specs.declared.line_stops.LineStop.TheVariants as stops
use Rattle.ak_sync_in_memory.specs.Copies.{IsViewed}
use Rattle.ak_sync_in_memory.specs.Entries.{LoggedState}
use Rattle.ak_sync_in_memory.specs.declared.logs.Entry.{Entry}

-- a server that was not viewed
pub not_viewed : (s : LoggedState) → IsViewed s s
not_viewed s = record { views = 0; adds = ap (λ (entries : List Entry). let t : LoggedState = record s { entries = entries } in t) (sym (append-nil s.entries)) }

pub as_it_was : (s : LabState) → OnlyViews s s
as_it_was s = (not_viewed s.server, refl)

-- a line in which memory ran out before it did anything
pub short : (said : LabLine) (s : LabState) → RunsShort said s s
short (lines.Clock at) s = refl
short (lines.Device name) s = inl refl
short (lines.Shift name by) s = refl
short (lines.Review name card ease count) s = inl refl
short (lines.Do name text) s = inl refl
short (lines.Sync name) s = inl refl
short (lines.Disturb name call what) s = refl
short (lines.Cross name call other) s = refl
short (lines.Replay name call from count) s = refl
short (lines.Resend from count) s = inl refl
short (lines.Break side) s = refl
short (lines.Transfer direction name) s = inl refl
short (lines.Show sides.Server what) s = as_it_was s
short (lines.Show (sides.Device name) what) s = refl
short (lines.Count sides.Server) s = as_it_was s
short (lines.Count (sides.Device name)) s = refl
short (lines.Requests name) s = refl

-- a line that is refused by a text, if memory suffices for it
pub stopped : (said : LabLine) (s t : LabState) (text : List ℕ) (stop : LineStop) → IsStopBy text stop → RunsShort said s t → RefusesWith said s t text → CameOut said s t (Err stop)
stopped said s t text (stops.Refused why) is out refuses = subst (RefusesWith said s t) (sym is) refuses
stopped said s t text stops.Failed is out refuses = absurd is
stopped said s t text stops.Memory is out refuses = out

-- one that leaves all as it was
pub stopped_at_once : (said : LabLine) (s : LabState) (text : List ℕ) (stop : LineStop) → IsStopBy text stop → RefusesWith said s s text → CameOut said s s (Err stop)
stopped_at_once said s text stop is refuses = stopped said s s text stop is (short said s) refuses

-- a device for which memory ran out
pub device_unmade : (name : List ℕ) (s t : LabState) (result : Result (List (List ℕ)) LineStop) → IsErrAnd result (λ stop. stop ≡ stops.Memory)
    → device_of name s.devices ≡ None → length s.devices < 16 → OnlyViews s t → CameOut (lines.Device name) s t result
device_unmade name s t (Ok printed) is new room only = absurd is
device_unmade name s t (Err stop) is new room only =
    subst (λ (stop : LineStop). CameOut (lines.Device name) s t (Err stop)) (sym is) (inr ((new, room), only))

-- new reviews that are refused
pub review_stopped : (name : List ℕ) (card ease : ℤ) (count : ℕ) (s t : LabState) (fault : DeskFault) (stop : LineStop) → IsDeskStop fault stop
    → EndsReview name (plan_of card ease count) s t (Err fault) → CameOut (lines.Review name card ease count) s t (Err stop)
review_stopped name card ease count s t fault (stops.Refused why) told ended = inr (fault, ended, told)
review_stopped name card ease count s t fault stops.Failed told ended = absurd told
review_stopped name card ease count s t fault stops.Memory told ended = inr (fault, ended)

-- a line of the desk that is refused: never for a failed keeper
pub do_stopped : (name text : List ℕ) (s t : LabState) (refusal : LineRefusal) (stop : LineStop) → IsRefusalStop refusal stop
    → refusal ≢ refusals.Desk desks.Failed → EndsDo name text s t (Err refusal) → CameOut (lines.Do name text) s t (Err stop)
do_stopped name text s t refusal (stops.Refused why) told other ended = inr (inr (refusal, ended, told))
do_stopped name text s t refusal stops.Failed told other ended = other told
do_stopped name text s t refusal stops.Memory told other ended = inr (refusal, ended)

-- a line that prints this text alone, if memory suffices for it
pub one_printed : (said : LabLine) (s t : LabState) (text : List ℕ) (result : Result (List (List ℕ)) LineStop)
    → IfOk result (λ printed. printed ≡ text ∷ []) → IfErr result (λ stop. stop ≡ stops.Memory) → Accepts said s t (text ∷ []) → RunsShort said s t → CameOut said s t result
one_printed said s t text (Ok printed) is out accepts short_so = subst (Accepts said s t) (sym is) accepts
one_printed said s t text (Err stop) is out accepts short_so = subst (λ (stop : LineStop). CameOut said s t (Err stop)) (sym out) short_so

-- a lab whose devices are the same
pub same_devices : (s : LabState) (devices : List Device) → devices ≡ s.devices → (let t : LabState = record s { devices = devices } in t) ≡ s
same_devices s devices same = ap (λ (devices : List Device). let t : LabState = record s { devices = devices } in t) same
