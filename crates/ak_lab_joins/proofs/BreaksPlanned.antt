-- A break of a device stands only if a line planned it, until its next sync, and its keeper fails in no sync if none stands.
use Rattle.std.specs.List.{AllByRecursion}
use Rattle.std.specs.Prelude.{◌≡◌, ◌≢◌, ◌+◌, ℕ, zero, suc, ℤ, true, false, if◌then◌else◌, List, [], ◌∷◌, ◌++◌, Some, Ok, Err, slice_get, slice_set}
use Rattle.std.proofs.Common.{refl, sym, ap, subst, ◌∙◌, inl, inr}
use Rattle.std.proofs.lemmas.Option.{none-some, same_Some}
use Rattle.ak_client.specs.declared.outcomes.Outcome.{Outcome}
use Rattle.ak_faults.specs.Calls.{names_none}
use Rattle.ak_faults.specs.Causes.{one_more}
use Rattle.ak_io.specs.declared.lines.Line.{Line}
use Rattle.ak_keep.specs.Collections.{Collection}
use Rattle.ak_lab.specs.LabPlans.{Plans, with_act, with_break, with_mishap}
use Rattle.ak_lab.specs.LabStates.{LabState, at_line, with_changed}
use Rattle.ak_lab.specs.LabSteps.{Accepts, SideHolds}
use Rattle.ak_lab.specs.LabSyncs.{EndsLabSession, EndsSync, mishaps_for, server_met, with_fails}
use Rattle.ak_lab.specs.LineOutcomes.{EndsAs, Says}
use Rattle.ak_lab_devices.proofs.Places.{found_has_name}
use Rattle.ak_lab_devices.specs.Devices.{device_of, new_device, same_name, with_device}
use Rattle.ak_lab_devices.specs.declared.devices.Device.{Device}
use Rattle.ak_lab_devices.specs.declared.plans.Act.{Act}
use Rattle.ak_lab_devices.specs.declared.plans.Act.TheVariants as acts
use Rattle.ak_lab_devices.specs.declared.plans.Planned.{Planned}
use Rattle.ak_lab_joins.proofs.Alone.{fails_so, name_so}
use Rattle.ak_lab_joins.proofs.Names.{at_place, put_there}
use Rattle.ak_lab_joins.proofs.Unlike.{session_names}
use Rattle.ak_lab_joins.specs.EachCrossed.{HoldsInCalls, HoldsInTurn, HoldsOfAct, HoldsOfEachCrossed}
use Rattle.ak_lab_joins.specs.LabBreaks.{BreaksNot, FailsNot, HasBreak, HasNoBreak, HasNoBreakIn}
use Rattle.ak_lab_joins.specs.LabJoins.{AreUnlike, device_names}
use Rattle.ak_lab_lines.specs.declared.lab_lines.LabLine.{LabLine}
use Rattle.ak_lab_lines.specs.declared.lab_lines.LabLine.TheVariants as lines
use Rattle.ak_lab_lines.specs.declared.lab_lines.Side.{Side}
use Rattle.ak_lab_lines.specs.declared.lab_lines.Side.TheVariants as sides
use Rattle.ak_lab_wires.proofs.Kept.{Any, any_calls}
use Rattle.ak_lab_wires.proofs.Keeping.{KeepsOn, calls_keep, turns_keep}
use Rattle.ak_lab_wires.specs.CrossedSyncs.{ActsBy, ActsOnce, CrossState, CrossedSync, CrossesAt, SyncsCrossed, TellsCrossed, cross_state, crosses_nothing}
use Rattle.ak_lab_wires.specs.LabSessions.{ComeInCalls, fails_after}
use Rattle.ak_lab_wires.specs.Turns.{InTurn, due}
use Rattle.ak_lab_wires.specs.declared.crossed_syncs.Crossings.{Crossings}
use Rattle.ak_lab_wires.specs.declared.lab_sessions.SessionKind.{SessionKind}
use Rattle.ak_lab_wires.specs.declared.lab_sessions.SessionKind.TheVariants as kinds
use Rattle.ak_line_runs.specs.LineRuns.{Accepted, AllGo}
use Rattle.ak_sync_in_memory.specs.Betweens.{ActEnd}
use Rattle.ak_sync_in_memory.specs.Entries.{LoggedState}
use Rattle.ak_sync_in_memory.specs.declared.mishaps.Mishap.{Mishap}
use Rattle.ak_client_wire.specs.Tries.{MadeCall}

module _ (name : List ℕ) where
  -- of a device: it has another name, or no call of its keeper is to fail
  abbrev IsUnbroken : Device → Type 0
  IsUnbroken d = d.name ≡ name → d.fails ≡ []

  -- ---- in a list
  found_unbroken : (other : List ℕ) (devices : List Device) (d : Device) → HasNoBreakIn name devices → device_of other devices ≡ Some d → IsUnbroken d
  found_unbroken other [] d none found = absurd (none-some d found)
  found_unbroken other (device ∷ devices) d none found =
      elim (same_name device.name other) as (λ b. (if b then Some device else device_of other devices) ≡ Some d → IsUnbroken d) [
        | true ↦ λ is. subst IsUnbroken (same_Some device d is) none.0
        | false ↦ λ is. found_unbroken other devices d none.1 is
      ] found

  changed_none : (made : Device) (devices : List Device) → HasNoBreakIn name devices → IsUnbroken made → HasNoBreakIn name (with_device made devices)
  changed_none made [] none is = tt
  changed_none made (device ∷ devices) none is =
      elim (same_name device.name made.name) as (λ b. HasNoBreakIn name (if b then made ∷ devices else device ∷ with_device made devices)) [
        | true ↦ (is, none.1)
        | false ↦ (none.0, changed_none made devices none.1 is)
      ]

  set_none : (devices : List Device) (place : ℕ) (made : Device) → HasNoBreakIn name devices → IsUnbroken made → HasNoBreakIn name (slice_set devices place made)
  set_none [] zero made none is = tt
  set_none [] (suc place) made none is = tt
  set_none (device ∷ devices) zero made none is = (is, none.1)
  set_none (device ∷ devices) (suc place) made none is = (none.0, set_none devices place made none.1 is)

  added_none : (devices : List Device) (made : Device) → HasNoBreakIn name devices → IsUnbroken made → HasNoBreakIn name (devices ++ made ∷ [])
  added_none [] made none is = (is, tt)
  added_none (device ∷ devices) made none is = (none.0, added_none devices made none.1 is)

  -- ---- what crosses a session
  abbrev StaysUnbroken : CrossState → CrossState → LoggedState → LoggedState → Type 0
  StaysUnbroken was now old new = HasNoBreakIn name was.devices → HasNoBreakIn name now.devices

  keeps_unbroken : KeepsOn StaysUnbroken
  keeps_unbroken = record { same = λ x s none. none; further = λ x y z a b c one two none. two (one none) }

  same_state : (was now : CrossState) → now ≡ was → HasNoBreakIn name was.devices → HasNoBreakIn name now.devices
  same_state was now same none = subst (λ (x : CrossState). HasNoBreakIn name x.devices) (sym same) none

  told_unbroken : (other : List ℕ) (outcome : Outcome) (was now : CrossState) (came : ActEnd) → TellsCrossed other outcome was now came
      → HasNoBreakIn name was.devices → HasNoBreakIn name now.devices
  told_unbroken other outcome was now (Ok done) told none = subst (λ (x : CrossState). HasNoBreakIn name x.devices) (sym told.2) none
  told_unbroken other outcome was now (Err end) told none = same_state was now told none

  crossed_unbroken : (other : List ℕ) (line session : ℕ) (was now : CrossState) (old new : LoggedState) (came : ActEnd) → CrossedSync other line session was now old new came
      → HasNoBreakIn name was.devices → HasNoBreakIn name now.devices
  crossed_unbroken other line session was now old new came it none =
      told_unbroken other it.outcome it.synced now came it.told
      (subst (λ (x : CrossState). HasNoBreakIn name x.devices) (sym it.sync.left)
      (set_none was.devices it.place it.sync.made none (λ same. ap (λ (x : Device). x.fails) it.sync.sync.session.rest)))

  act_unbroken : (act : Act) (line session : ℕ) (was now : CrossState) (old new : LoggedState) (came : ActEnd) → ActsBy act line session was now old new came
      → HasNoBreakIn name was.devices → HasNoBreakIn name now.devices
  act_unbroken (acts.Cross other) line session was now old new came (inl nothing) none = same_state was now nothing.0 none
  act_unbroken (acts.Cross other) line session was now old new came (inr it) none = crossed_unbroken other line session was now old new came it none
  act_unbroken (acts.Replay from count) line session was now old new came it none = same_state was now it.0 none

  abbrev StaysFor : Crossings → Crossings → LoggedState → LoggedState → Type 0
  StaysFor x y old new = HasNoBreakIn name x.lab.devices.items → HasNoBreakIn name y.lab.devices.items

  crosses_unbroken : (call session : ℕ) (x y : Crossings) (a b : LoggedState) (came : ActEnd) → CrossesAt call session x y a b came → StaysFor x y a b
  crosses_unbroken call session x y a b came it =
      turns_keep StaysUnbroken keeps_unbroken (ActsOnce session) (λ one p q c d end acted. act_unbroken one.act one.line session p q c d end acted)
      (due call x.acts) (cross_state x.lab) (cross_state y.lab) a b came it.1

  -- ---- a session
  made_unbroken : (kind : SessionKind) (d made : Device) → made.name ≡ d.name → made.fails ≡ fails_after kind d.fails → IsUnbroken d → IsUnbroken made
  made_unbroken kinds.Sync d made own is unbroken same = is
  made_unbroken (kinds.Transfer direction) d made own is unbroken same = is ∙ unbroken (sym own ∙ same)

  -- before its first call: what stands in for its device has no name
  begun_unbroken : (kind : SessionKind) (other : List ℕ) (s t : LabState) (crossed : List (List ℕ)) (outcome : Outcome) → name ≢ []
      → (ended : EndsLabSession kind other s t crossed outcome) → HasNoBreak name s → HasNoBreakIn name ended.runs.was.lab.devices.items
  begun_unbroken kind other s t crossed outcome named ended none =
      let begins = ended.runs.begins in
      subst (λ (x : CrossState). HasNoBreakIn name x.devices) (sym begins.lab)
      (set_none s.devices ended.place begins.stand_in none (λ same. absurd (named (sym same ∙ begins.nameless))))

  session_unbroken : (kind : SessionKind) (other : List ℕ) (s t : LabState) (crossed : List (List ℕ)) (outcome : Outcome) → name ≢ []
      → EndsLabSession kind other s t crossed outcome → HasNoBreak name s → HasNoBreak name t
  session_unbroken kind other s t crossed outcome named ended none =
      let runs = ended.runs in
      let began : HasNoBreakIn name runs.was.lab.devices.items = begun_unbroken kind other s t crossed outcome named ended none in
      let crossed_so : HasNoBreakIn name runs.became.lab.devices.items =
      calls_keep StaysFor (record { same = λ x s none. none; further = λ x y z a b c one two none. two (one none) }) Any s.clock (λ x a b request reply any is none. none)
      CrossesAt crosses_nothing crosses_unbroken (mishaps_for kind runs.d) 0 runs.session.calls runs.was runs.became _ _ (any_calls runs.session.calls) runs.session.come began in
      let made : IsUnbroken runs.made =
      made_unbroken kind runs.d runs.made (ap (λ (x : Device). x.name) runs.session.rest ∙ name_so kind runs.d)
      (ap (λ (x : Device). x.fails) runs.session.rest ∙ ap (fails_after kind) (fails_so kind runs.d))
      (found_unbroken other s.devices runs.d none (ended.is.held runs.d runs.at)) in
      subst (λ (x : LabState). HasNoBreak name x) (sym runs.left) (set_none runs.became.lab.devices.items ended.place runs.made crossed_so made)

  -- ---- a sync that crosses a session
  act_fails_not : (act : Act) (line session : ℕ) (was now : CrossState) (old new : LoggedState) (came : ActEnd) (acted : ActsBy act line session was now old new came)
      → HasNoBreakIn name was.devices → HoldsOfAct (FailsNot name) act line session was now old new came acted
  act_fails_not (acts.Cross other) line session was now old new came (inl nothing) none = tt
  act_fails_not (acts.Cross other) line session was now old new came (inr it) none =
      λ same. it.sync.sync.session.unfailed (ap names_none (found_unbroken other was.devices it.d none it.may.found (it.may.has ∙ same)))
  act_fails_not (acts.Replay from count) line session was now old new came it none = tt

  turns_fail_not : (session : ℕ) (planned : List Planned) (was now : CrossState) (old new : LoggedState) (came : ActEnd)
      (turn : InTurn (ActsOnce session) planned was now old new came) → HasNoBreakIn name was.devices → HoldsInTurn (FailsNot name) session planned was now old new came turn
  turns_fail_not session [] was now old new came turn none = tt
  turns_fail_not session (it ∷ planned) was now old new came (inl (mid, met, first, rest)) none = (
    act_fails_not it.act it.line session was mid old met (Ok tt) first none,
    turns_fail_not session planned mid now met new came rest (act_unbroken it.act it.line session was mid old met (Ok tt) first none),
  )
  turns_fail_not session (it ∷ planned) was now old new came (inr (end, first, is)) none = act_fails_not it.act it.line session was now old new (Err end) first none

  calls_fail_not : (mishaps : List Mishap) (at : ℤ) (number : ℕ) (calls : List MadeCall) (x y : Crossings) (a b : LoggedState)
      (come : ComeInCalls CrossesAt crosses_nothing mishaps at number calls x y a b) → HasNoBreakIn name x.lab.devices.items
      → HoldsInCalls (FailsNot name) mishaps at number calls x y a b come
  calls_fail_not mishaps at number [] x y a b come none = tt
  calls_fail_not mishaps at number (it ∷ calls) x y a b come none =
      let one = come.2 in (
        turns_fail_not it.request.session.0 (due number x.acts) (cross_state x.lab) (cross_state come.0.lab) a one.met one.came one.acted.1 none,
        calls_fail_not mishaps at (one_more number) calls come.0 y come.1 b come.3
            (crosses_unbroken number it.request.session.0 x come.0 a one.met one.came one.acted none),
      )

  pub crossers_fail_not : (kind : SessionKind) (other : List ℕ) (s t : LabState) (crossed : List (List ℕ)) (outcome : Outcome) → name ≢ [] → HasNoBreak name s
      → (ended : EndsLabSession kind other s t crossed outcome) → HoldsOfEachCrossed (FailsNot name) kind other s t crossed outcome ended
  crossers_fail_not kind other s t crossed outcome named none ended =
      calls_fail_not (mishaps_for kind ended.runs.d) s.clock 0 ended.runs.session.calls ended.runs.was ended.runs.became (server_met kind s)
      (with_fails ended.runs.fails_left t.server) ended.runs.session.come (begun_unbroken kind other s t crossed outcome named ended none)

  -- ---- a line
  same_devices : (s t : LabState) → t.devices ≡ s.devices → HasNoBreak name s → HasNoBreak name t
  same_devices s t same none = subst (HasNoBreakIn name) (sym same) none

  -- a device that is found keeps its calls that are to fail
  kept_none : (other : List ℕ) (s t : LabState) (d made : Device) → device_of other s.devices ≡ Some d → made.name ≡ d.name → made.fails ≡ d.fails
      → t.devices ≡ (with_changed made s).devices → HasNoBreak name s → HasNoBreak name t
  kept_none other s t d made found own same left none =
      subst (HasNoBreakIn name) (sym left)
      (changed_none made s.devices none (λ is. same ∙ found_unbroken other s.devices d none found (sym own ∙ is)))

  looked_none : (side : Side) (s t : LabState) (c : Collection) → SideHolds side s t c → HasNoBreak name s → HasNoBreak name t
  looked_none sides.Server s t c (committed, reads) none = same_devices s t (ap (λ (x : LabState). x.devices) reads.left) none
  looked_none (sides.Device other) s t c holds none = same_devices s t (ap (λ (x : LabState). x.devices) holds.0) none

  -- a break of another device
  other_broken : (other : List ℕ) (s t : LabState) → other ≢ name → Plans other with_break s t → HasNoBreak name s → HasNoBreak name t
  other_broken other s t differ plan none =
      subst (λ (x : LabState). HasNoBreak name x) (sym plan.left)
      (changed_none (with_break plan.d) s.devices none (λ is. absurd (differ (sym (found_has_name other s.devices plan.d plan.found) ∙ is))))

  said_none : (said : LabLine) (s t : LabState) (printed : List (List ℕ)) → name ≢ [] → said ≢ lines.Break (sides.Device name) → HasNoBreak name s
      → Accepts said s t printed → HasNoBreak name t
  said_none (lines.Clock at) s t printed named other none (in_time, left, nothing) = same_devices s t (ap (λ (x : LabState). x.devices) left) none
  said_none (lines.Device new) s t printed named other none (adds, nothing) =
      subst (λ (x : LabState). HasNoBreak name x) (sym adds.left) (added_none s.devices (new_device new adds.committed) none (λ is. refl))
  said_none (lines.Shift on by) s t printed named other none (shifts, nothing) =
      kept_none on s t shifts.d (record shifts.d { shift = by }) shifts.found refl refl (ap (λ (x : LabState). x.devices) shifts.left) none
  said_none (lines.Review on card ease count) s t printed named other none (ends, nothing) =
      kept_none on s t ends.d ends.made ends.found (ap (λ (x : Device). x.name) ends.rest) (ap (λ (x : Device). x.fails) ends.rest) (ap (λ (x : LabState). x.devices) ends.left) none
  said_none (lines.Do on text) s t printed named other none (answer, ends, is) =
      kept_none on s t ends.d ends.made ends.found (ap (λ (x : Device). x.name) ends.rest) (ap (λ (x : Device). x.fails) ends.rest) (ap (λ (x : LabState). x.devices) ends.left) none
  said_none (lines.Sync on) s t printed named other none (outcome, text, crossed, ended, told, is) =
      session_unbroken kinds.Sync on s t crossed outcome named ended none
  said_none (lines.Disturb on call what) s t printed named other none (plan, nothing) =
      kept_none on s t plan.d (with_mishap call what plan.d) plan.found refl refl (ap (λ (x : LabState). x.devices) plan.left) none
  said_none (lines.Cross on call crosser) s t printed named other none (o, found, plan, nothing) =
      kept_none on s t plan.d (with_act call s.server.line (acts.Cross crosser) plan.d) plan.found refl refl (ap (λ (x : LabState). x.devices) plan.left) none
  said_none (lines.Replay on call from count) s t printed named other none (has, plan, nothing) =
      kept_none on s t plan.d (with_act call s.server.line (acts.Replay from count) plan.d) plan.found refl refl (ap (λ (x : LabState). x.devices) plan.left) none
  said_none (lines.Resend from count) s t printed named other none resends = same_devices s t (ap (λ (x : LabState). x.devices) resends.left) none
  said_none (lines.Break sides.Server) s t printed named other none (left, nothing) = same_devices s t (ap (λ (x : LabState). x.devices) left) none
  said_none (lines.Break (sides.Device on)) s t printed named other none (plan, nothing) =
      other_broken on s t (λ is. other (ap (λ (n : List ℕ). lines.Break (sides.Device n)) is)) plan none
  said_none (lines.Transfer direction on) s t printed named other none (outcome, text, ended, told, is) =
      session_unbroken (kinds.Transfer direction) on s t [] outcome named ended none
  said_none (lines.Show side what) s t printed named other none (c, holds, is) = looked_none side s t c holds none
  said_none (lines.Count side) s t printed named other none (c, holds, is) = looked_none side s t c holds none
  said_none (lines.Requests on) s t printed named other none is = same_devices s t (ap (λ (x : LabState). x.devices) is.0) none

  pub line_none : (number : ℕ) (line : Line) (s t : LabState) (printed : List (List ℕ)) → name ≢ [] → HasNoBreak name s → BreaksNot name line
      → EndsAs number line s t (Accepted printed) → HasNoBreak name t
  line_none number line s t printed named none other (inl nothing) = subst (λ (x : LabState). HasNoBreak name x) (sym nothing.0) none
  line_none number line s t printed named none other (inr (said, says, accepts)) =
      said_none said (at_line number s) t printed named (λ is. other (subst (λ (l : LabLine). Says line l) is says)) none accepts

  -- ---- all lines
  pub all_none : (number : ℕ) (all : List Line) (s t : LabState) (printed : List (List ℕ)) → name ≢ [] → HasNoBreak name s → AllByRecursion (BreaksNot name) all
      → AllGo EndsAs number all s t printed → HasNoBreak name t
  all_none number [] s t printed named none others (same, nothing) = subst (λ (x : LabState). HasNoBreak name x) (sym same) none
  all_none number (line ∷ more) s t printed named none others (mid, first, later, ends, goes, is) =
      all_none (number + 1) more mid t later named (line_none number line s mid first named none others.0 ends) others.1 goes

  pub none_stands : (s : LabState) → HasNoBreak name s → HasBreak name s → ⊥
  none_stands s none (d, found, broken) = broken (found_unbroken name s.devices d none found (found_has_name name s.devices d found))

  -- ---- used up
  -- the one device of the name is to fail in no call
  own_unbroken : (devices : List Device) (place : ℕ) (made : Device) → AreUnlike (device_names devices) → slice_get devices place ≡ Some made → made.name ≡ name
      → made.fails ≡ [] → HasNoBreakIn name devices
  own_unbroken [] place made unlike at own unbroken = tt
  own_unbroken (first ∷ others) zero made unlike at own unbroken = (
    (λ is. ap (λ (x : Device). x.fails) (same_Some first made at) ∙ unbroken),
    others_named others (subst (λ (n : List ℕ). AllByRecursion (λ (other : List ℕ). other ≢ n) (device_names others))
        (ap (λ (x : Device). x.name) (same_Some first made at) ∙ own) unlike.0),
  )
    where
      others_named : (l : List Device) → AllByRecursion (λ (other : List ℕ). other ≢ name) (device_names l) → HasNoBreakIn name l
      others_named [] all = tt
      others_named (d ∷ l) all = ((λ is. absurd (all.0 is)), others_named l all.1)
  own_unbroken (first ∷ others) (suc place) made unlike at own unbroken = (
    (λ is. absurd (at_place (λ (other : List ℕ). other ≢ first.name) others place made unlike.0 at (own ∙ sym is))),
    own_unbroken others place made unlike.1 at own unbroken,
  )

  pub sync_uses_up : (s t : LabState) (crossed : List (List ℕ)) (outcome : Outcome) → AreUnlike (device_names s.devices) → EndsSync name s t crossed outcome → HasNoBreak name t
  sync_uses_up s t crossed outcome unlike ended =
      let runs = ended.runs in
      let now : List Device = slice_set runs.became.lab.devices.items ended.place runs.made in
      let names : device_names now ≡ device_names s.devices = session_names kinds.Sync name s t crossed outcome ended in
      subst (λ (x : LabState). HasNoBreak name x) (sym runs.left)
      (own_unbroken now ended.place runs.made (subst AreUnlike (sym names) unlike)
      (put_there runs.became.lab.devices.items s.devices ended.place runs.made runs.d names runs.at)
      (ap (λ (x : Device). x.name) runs.session.rest ∙ ended.is.named runs.d runs.at) (ap (λ (x : Device). x.fails) runs.session.rest))

pub server_uses_up : (name : List ℕ) (s t : LabState) (crossed : List (List ℕ)) (outcome : Outcome) → EndsSync name s t crossed outcome → t.fails ≡ []
server_uses_up name s t crossed outcome ended = ap (λ (x : LabState). x.fails) ended.runs.left

pub crossed_uses_up : (line key : ℕ) (at : ℤ) (moments : List ℤ) (d made : Device) (old new : LoggedState) (outcome : Outcome)
    → SyncsCrossed line key at moments d made old new outcome → made.fails ≡ []
crossed_uses_up line key at moments d made old new outcome sync = ap (λ (x : Device). x.fails) sync.session.rest
