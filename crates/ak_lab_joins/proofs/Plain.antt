-- As long as no line plans anything between the calls of a sync, nothing is planned there.
use Rattle.std.specs.List.{AllByRecursion}
use Rattle.std.specs.Prelude.{◌≡◌, ◌⊎◌, ◌+◌, ℕ, List, [], ◌∷◌, Some}
use Rattle.std.proofs.Common.{refl, sym, ap, subst, ◌∙◌, inl, inr}
use Rattle.std.proofs.lemmas.Option.{none-some}
use Rattle.ak_io.specs.declared.lines.Line.{Line}
use Rattle.ak_keep.specs.Collections.{Collection}
use Rattle.ak_lab.specs.LabPlans.{with_break, with_mishap}
use Rattle.ak_lab.specs.LabStates.{LabState, at_line, opened_lab, with_changed}
use Rattle.ak_lab.specs.LabSteps.{Accepts, AddsDevice, SideHolds}
use Rattle.ak_lab.specs.LineOutcomes.{EndsAs}
use Rattle.ak_lab_devices.specs.Devices.{device_of, new_device}
use Rattle.ak_lab_devices.specs.declared.devices.Device.{Device}
use Rattle.ak_lab_joins.proofs.Alone.{sync_alone, transfer_alone}
use Rattle.ak_lab_joins.proofs.Devices.{changed_or_old, new_or_old}
use Rattle.ak_lab_joins.specs.LabJoins.{HasNoPlans, IsPlain, PlansNoAct, SaysNoAct, SaysPlain}
use Rattle.ak_lab_lines.specs.declared.lab_lines.LabLine.{LabLine}
use Rattle.ak_lab_lines.specs.declared.lab_lines.LabLine.TheVariants as lines
use Rattle.ak_lab_lines.specs.declared.lab_lines.Side.{Side}
use Rattle.ak_lab_lines.specs.declared.lab_lines.Side.TheVariants as sides
use Rattle.ak_line_runs.specs.LineRuns.{Accepted, AllGo}
use Rattle.ak_openings.specs.declared.whole_collections.Opening.{Opening}

-- there is no device at first
pub no_plans_at_first : (opening : Opening) → HasNoPlans (opened_lab opening)
no_plans_at_first opening name d found = absurd (none-some d found)

-- the devices are the same
same_devices : (s t : LabState) → t.devices ≡ s.devices → HasNoPlans s → HasNoPlans t
same_devices s t same plans name d found = plans name d (sym (ap (device_of name) same) ∙ found)

pub at_line_plans : (number : ℕ) (s : LabState) → HasNoPlans s → HasNoPlans (at_line number s)
at_line_plans number s plans = same_devices s (at_line number s) refl plans

-- one of them was changed
one_changed : (s t : LabState) (made : Device) → t.devices ≡ (with_changed made s).devices → made.planned ≡ [] → HasNoPlans s → HasNoPlans t
one_changed s t made left none plans name d found = by (changed_or_old made s.devices name d (sym (ap (device_of name) left) ∙ found))
  where
    by : (made ≡ d) ⊎ (device_of name s.devices ≡ Some d) → d.planned ≡ []
    by (inl is) = ap (λ (x : Device). x.planned) (sym is) ∙ none
    by (inr there) = plans name d there

-- a device that is found keeps its plans
kept_plans : (name : List ℕ) (s t : LabState) (d made : Device) → device_of name s.devices ≡ Some d → made.planned ≡ d.planned → t.devices ≡ (with_changed made s).devices
    → HasNoPlans s → HasNoPlans t
kept_plans name s t d made found same left plans = one_changed s t made left (same ∙ plans name d found) plans

looked_plans : (side : Side) (s t : LabState) (c : Collection) → SideHolds side s t c → HasNoPlans s → HasNoPlans t
looked_plans sides.Server s t c (committed, reads) plans = same_devices s t (ap (λ (x : LabState). x.devices) reads.left) plans
looked_plans (sides.Device name) s t c holds plans = same_devices s t (ap (λ (x : LabState). x.devices) holds.0) plans

added_plans : (name : List ℕ) (s t : LabState) → AddsDevice name s t → HasNoPlans s → HasNoPlans t
added_plans name s t adds plans other d found =
    by (new_or_old (new_device name adds.committed) s.devices other d (sym (ap (λ (x : LabState). device_of other x.devices) adds.left) ∙ found))
  where
    by : (new_device name adds.committed ≡ d) ⊎ (device_of other s.devices ≡ Some d) → d.planned ≡ []
    by (inl is) = ap (λ (x : Device). x.planned) (sym is)
    by (inr there) = plans other d there

said_plans : (said : LabLine) (s t : LabState) (printed : List (List ℕ)) → HasNoPlans s → PlansNoAct said → Accepts said s t printed → HasNoPlans t
said_plans (lines.Clock at) s t printed plans plain (in_time, left, none) = same_devices s t (ap (λ (x : LabState). x.devices) left) plans
said_plans (lines.Device name) s t printed plans plain (adds, none) = added_plans name s t adds plans
said_plans (lines.Shift name by) s t printed plans plain (shifts, none) =
    kept_plans name s t shifts.d (record shifts.d { shift = by }) shifts.found refl (ap (λ (x : LabState). x.devices) shifts.left) plans
said_plans (lines.Review name card ease count) s t printed plans plain (ends, none) =
    kept_plans name s t ends.d ends.made ends.found (ap (λ (x : Device). x.planned) ends.rest) (ap (λ (x : LabState). x.devices) ends.left) plans
said_plans (lines.Do name text) s t printed plans plain (answer, ends, is) =
    kept_plans name s t ends.d ends.made ends.found (ap (λ (x : Device). x.planned) ends.rest) (ap (λ (x : LabState). x.devices) ends.left) plans
said_plans (lines.Sync name) s t printed plans plain (outcome, text, crossed, ends, told, is) =
    let alone = sync_alone name s t crossed outcome ends (plans name) in
    one_changed s t alone.made (ap (λ (x : LabState). x.devices) alone.left) (ap (λ (x : Device). x.planned) alone.session.plan) plans
said_plans (lines.Disturb name call what) s t printed plans plain (plan, none) =
    kept_plans name s t plan.d (with_mishap call what plan.d) plan.found refl (ap (λ (x : LabState). x.devices) plan.left) plans
said_plans (lines.Cross name call other) s t printed plans plain accepts = absurd plain
said_plans (lines.Replay name call from count) s t printed plans plain accepts = absurd plain
said_plans (lines.Resend from count) s t printed plans plain resends = same_devices s t (ap (λ (x : LabState). x.devices) resends.left) plans
said_plans (lines.Break sides.Server) s t printed plans plain (left, none) = same_devices s t (ap (λ (x : LabState). x.devices) left) plans
said_plans (lines.Break (sides.Device name)) s t printed plans plain (plan, none) =
    kept_plans name s t plan.d (with_break plan.d) plan.found refl (ap (λ (x : LabState). x.devices) plan.left) plans
said_plans (lines.Transfer direction name) s t printed plans plain (outcome, text, ends, told, is) =
    let alone = transfer_alone direction name s t outcome ends in
    kept_plans name s t alone.d alone.made alone.found (ap (λ (x : Device). x.planned) alone.session.plan)
    (ap (λ (x : LabState). x.devices) alone.left) plans
said_plans (lines.Show side what) s t printed plans plain (c, holds, is) = looked_plans side s t c holds plans
said_plans (lines.Count side) s t printed plans plain (c, holds, is) = looked_plans side s t c holds plans
said_plans (lines.Requests name) s t printed plans plain is = same_devices s t (ap (λ (x : LabState). x.devices) is.0) plans

pub line_plans : (number : ℕ) (line : Line) (s t : LabState) (printed : List (List ℕ)) → HasNoPlans s → SaysNoAct line → EndsAs number line s t (Accepted printed) → HasNoPlans t
line_plans number line s t printed plans plain (inl nothing) = subst HasNoPlans (sym nothing.0) (at_line_plans number s plans)
line_plans number line s t printed plans plain (inr (said, says, accepts)) =
    said_plans said (at_line number s) t printed (at_line_plans number s plans) (plain said says) accepts

-- a plain line is one of these
plain_no_act : (said : LabLine) → IsPlain said → PlansNoAct said
plain_no_act (lines.Cross name call other) plain = plain
plain_no_act (lines.Replay name call from count) plain = plain
plain_no_act said plain = tt

pub says_no_act : (line : Line) → SaysPlain line → SaysNoAct line
says_no_act line plain said says = plain_no_act said (plain said says)

-- ---- all lines
pub all_plans : (number : ℕ) (all : List Line) (s t : LabState) (printed : List (List ℕ)) → HasNoPlans s → AllByRecursion SaysNoAct all → AllGo EndsAs number all s t printed → HasNoPlans t
all_plans number [] s t printed plans none (same, nothing) = subst HasNoPlans (sym same) plans
all_plans number (line ∷ more) s t printed plans none (mid, first, others, ends, goes, is) =
    all_plans (number + 1) more mid t others (line_plans number line s mid first plans none.0 ends) none.1 goes
