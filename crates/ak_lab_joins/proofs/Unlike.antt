-- No two devices of a lab have one name, whatever lines come.
use Rattle.std.specs.Prelude.{◌≡◌, ◌+◌, ℕ, List, [], ◌∷◌, slice_set}
use Rattle.std.proofs.Common.{sym, ap, subst, ◌∙◌, inl, inr}
use Rattle.ak_client.specs.declared.outcomes.Outcome.{Outcome}
use Rattle.ak_io.specs.declared.lines.Line.{Line}
use Rattle.ak_keep.specs.Collections.{Collection}
use Rattle.ak_lab.specs.LabPlans.{PlansBreak, with_act, with_break, with_mishap}
use Rattle.ak_lab.specs.LabStates.{LabState, at_line, with_changed}
use Rattle.ak_lab.specs.LabSteps.{Accepts, SideHolds}
use Rattle.ak_lab.specs.LabSyncs.{EndsLabSession, mishaps_for}
use Rattle.ak_lab.specs.LineOutcomes.{EndsAs}
use Rattle.ak_lab_devices.specs.Devices.{new_device}
use Rattle.ak_lab_devices.specs.declared.devices.Device.{Device}
use Rattle.ak_lab_devices.specs.declared.plans.Act.TheVariants as acts
use Rattle.ak_lab_joins.proofs.Alone.{name_so}
use Rattle.ak_lab_joins.proofs.Names.{added_unlike, changed_unlike, put_back_names}
use Rattle.ak_lab_joins.specs.LabJoins.{AreUnlike, device_names}
use Rattle.ak_lab_lines.specs.declared.lab_lines.LabLine.{LabLine}
use Rattle.ak_lab_lines.specs.declared.lab_lines.LabLine.TheVariants as lines
use Rattle.ak_lab_lines.specs.declared.lab_lines.Side.{Side}
use Rattle.ak_lab_lines.specs.declared.lab_lines.Side.TheVariants as sides
use Rattle.ak_lab_wires.proofs.Kept.{StaysLab, faces, session_lab}
use Rattle.ak_lab_wires.specs.CrossedSyncs.{CrossState, cross_state}
use Rattle.ak_lab_wires.specs.declared.lab_sessions.SessionKind.{SessionKind}
use Rattle.ak_lab_wires.specs.declared.lab_sessions.SessionKind.TheVariants as kinds
use Rattle.ak_line_runs.specs.LineRuns.{Accepted, AllGo}

-- ---- a session
-- the names are as they were
pub session_names : (kind : SessionKind) (name : List ℕ) (s t : LabState) (crossed : List (List ℕ)) (outcome : Outcome) (ended : EndsLabSession kind name s t crossed outcome)
    → device_names (slice_set ended.runs.became.lab.devices.items ended.place ended.runs.made) ≡ device_names s.devices
session_names kind name s t crossed outcome ended =
    let runs = ended.runs in
    let stays : StaysLab (cross_state runs.was.lab) (cross_state runs.became.lab) =
    session_lab kind _ _ _ (mishaps_for kind runs.d) _ runs.made runs.was runs.became _ _ outcome runs.session in
    put_back_names runs.became.lab.devices.items s.devices ended.place runs.begins.stand_in runs.d runs.made
    (stays.faces ∙ ap (λ (x : CrossState). faces x.devices) runs.begins.lab) runs.at
    (ap (λ (x : Device). x.name) runs.session.rest ∙ name_so kind runs.d)

-- ---- a line
abbrev IsUnlike : LabState → Type 0
IsUnlike s = AreUnlike (device_names s.devices)

same_unlike : (s t : LabState) → t.devices ≡ s.devices → IsUnlike s → IsUnlike t
same_unlike s t same unlike = subst (λ (l : List Device). AreUnlike (device_names l)) (sym same) unlike

made_unlike : (made : Device) (s t : LabState) → t ≡ with_changed made s → IsUnlike s → IsUnlike t
made_unlike made s t left unlike = subst IsUnlike (sym left) (changed_unlike made s.devices unlike)

session_unlike : (kind : SessionKind) (name : List ℕ) (s t : LabState) (crossed : List (List ℕ)) (outcome : Outcome) → EndsLabSession kind name s t crossed outcome
    → IsUnlike s → IsUnlike t
session_unlike kind name s t crossed outcome ended unlike =
    subst IsUnlike (sym ended.runs.left) (subst AreUnlike (sym (session_names kind name s t crossed outcome ended)) unlike)

looked_unlike : (side : Side) (s t : LabState) (c : Collection) → SideHolds side s t c → IsUnlike s → IsUnlike t
looked_unlike sides.Server s t c (committed, reads) unlike = same_unlike s t (ap (λ (x : LabState). x.devices) reads.left) unlike
looked_unlike (sides.Device name) s t c holds unlike = same_unlike s t (ap (λ (x : LabState). x.devices) holds.0) unlike

break_unlike : (side : Side) (s t : LabState) → PlansBreak side s t → IsUnlike s → IsUnlike t
break_unlike sides.Server s t left unlike = same_unlike s t (ap (λ (x : LabState). x.devices) left) unlike
break_unlike (sides.Device name) s t plan unlike = made_unlike (with_break plan.d) s t plan.left unlike

said_unlike : (said : LabLine) (s t : LabState) (printed : List (List ℕ)) → Accepts said s t printed → IsUnlike s → IsUnlike t
said_unlike (lines.Clock at) s t printed (in_time, left, none) unlike = same_unlike s t (ap (λ (x : LabState). x.devices) left) unlike
said_unlike (lines.Device name) s t printed (adds, none) unlike =
    subst IsUnlike (sym adds.left) (added_unlike s.devices (new_device name adds.committed) unlike adds.new)
said_unlike (lines.Shift name by) s t printed (shifts, none) unlike = made_unlike (record shifts.d { shift = by }) s t shifts.left unlike
said_unlike (lines.Review name card ease count) s t printed (ends, none) unlike = made_unlike ends.made s t ends.left unlike
said_unlike (lines.Do name text) s t printed (answer, ends, is) unlike = made_unlike ends.made s t ends.left unlike
said_unlike (lines.Sync name) s t printed (outcome, text, crossed, ended, told, is) unlike = session_unlike kinds.Sync name s t crossed outcome ended unlike
said_unlike (lines.Disturb name call what) s t printed (plan, none) unlike = made_unlike (with_mishap call what plan.d) s t plan.left unlike
said_unlike (lines.Cross name call other) s t printed (o, found, plan, none) unlike =
    made_unlike (with_act call s.server.line (acts.Cross other) plan.d) s t plan.left unlike
said_unlike (lines.Replay name call from count) s t printed (has, plan, none) unlike =
    made_unlike (with_act call s.server.line (acts.Replay from count) plan.d) s t plan.left unlike
said_unlike (lines.Resend from count) s t printed resends unlike = same_unlike s t (ap (λ (x : LabState). x.devices) resends.left) unlike
said_unlike (lines.Break side) s t printed (plan, none) unlike = break_unlike side s t plan unlike
said_unlike (lines.Transfer direction name) s t printed (outcome, text, ended, told, is) unlike =
    session_unlike (kinds.Transfer direction) name s t [] outcome ended unlike
said_unlike (lines.Show side what) s t printed (c, holds, is) unlike = looked_unlike side s t c holds unlike
said_unlike (lines.Count side) s t printed (c, holds, is) unlike = looked_unlike side s t c holds unlike
said_unlike (lines.Requests name) s t printed is unlike = same_unlike s t (ap (λ (x : LabState). x.devices) is.0) unlike

-- ---- all lines
pub all_unlike : (number : ℕ) (all : List Line) (s t : LabState) (printed : List (List ℕ)) → AllGo EndsAs number all s t printed → AreUnlike (device_names s.devices)
    → AreUnlike (device_names t.devices)
all_unlike number [] s t printed (same, nothing) unlike = subst IsUnlike (sym same) unlike
all_unlike number (line ∷ more) s t printed (mid, first, others, ends, goes, is) unlike =
    all_unlike (number + 1) more mid t others goes (by ends)
  where
    by : EndsAs number line s mid (Accepted first) → IsUnlike mid
    by (inl nothing) = subst IsUnlike (sym nothing.0) unlike
    by (inr (said, says, accepts)) = said_unlike said (at_line number s) mid first accepts unlike
