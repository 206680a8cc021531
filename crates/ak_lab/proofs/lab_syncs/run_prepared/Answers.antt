use Rattle.std.proofs.Common.{List, ℕ, ◌<◌, length, refl, sym, ap, subst, ◌∙◌, w64}
use Rattle.std.proofs.lemmas.Int.{to_z-of_z}
use Rattle.std.proofs.lemmas.Option.{slice_get_read}
use Rattle.ak_io.specs.Arrivals.{IsClockMoment}
use Rattle.ak_lab.proofs.Shifting.{still_within}
use Rattle.ak_lab.proofs.Syncing.{cross_begins, runs_there, session_ready}
use Rattle.ak_lab.specs.LabStates.{state_of}
use Rattle.ak_lab.specs.LabSyncs.{mishaps_for, planned_for, with_fails, without_plan_for}
use Rattle.ak_lab_devices.proofs.InTime.{lab_in_time, moment_fits}
use Rattle.ak_lab_devices.specs.declared.devices.Device.{Device}
use Rattle.ak_lab_wires.proofs.Kept.{faces, session_lab}
use Rattle.ak_lab_wires.specs.declared.crossed_syncs.Crossings.{Crossings}
use Rattle.ak_lab.proofs.lab_syncs.run_prepared.Goals as goal

pub new-wire-requires : goal.new-wire-requires
new-wire-requires c =
    let moment = lab_in_time c.args.lab.clock c.args.lab.devices.items c.requires.ready.clocks in
    record { clock = subst IsClockMoment (sym (to_z-of_z w64 c.args.lab.clock (moment_fits c.args.lab.clock moment))) moment }

-- the place is one of the list that comes back
pub index_mut-requires-2 : goal.index_mut-requires-2
index_mut-requires-2 c =
    let ran = c.run_over-server in
    let stays = session_lab c.args.kind _ _ _ _ _ _ c.new-wire.result.between ran.result.1 _ _ _ ran.ensures in
    subst (λ (n : ℕ). c.args.place < n) (sym ran.result.1.lab.devices.ok.0)
    (still_within c.args.lab.devices.items _ c.args.place c.replace-device.new.dest (stays.faces ∙ ap (λ (b : Crossings). faces b.lab.devices.items) c.new-wire.ensures.between)
    c.requires.there.1.within)

pub returns-clause-runs : goal.returns-clause-runs
returns-clause-runs c =
    let s = state_of c.args.lab in
    let moment = lab_in_time c.args.lab.clock c.args.lab.devices.items c.requires.ready.clocks in
    let clock = to_z-of_z w64 c.args.lab.clock (moment_fits c.args.lab.clock moment) in
    let d = c.index_mut.result.now in
    let there = slice_get_read c.args.lab.devices.items (length c.args.lab.devices.items) c.args.place d refl c.requires.there.1.within c.index_mut.ensures.value in
    let prepared = c.requires.prepared d there in
    let value = c.replace-device.ensures.value in
    let ran = c.run_over-server in
    rw clock
    (runs_there c.args.kind c.args.place _ s _ d c.plan_for-mishaps.new.device ran.new.device c.replace-device.new.dest _ c.args.prepared.clock _ _ ran.result.1 c.fail_at.new.self
    ran.result.0 c.fail_at-2.new.self c.fails_for-failing.new.planned _ ran.result.2 there (ap (λ (x : Device). x.name) c.replace-device.ensures.after ∙ prepared.nameless)
    (ap (λ (x : Device). x.shift) c.replace-device.ensures.after ∙ prepared.has_shift)
    (c.plan_for-mishaps.ensures.planned ∙ ap (planned_for c.args.kind) value) (cross_begins s _ c.args.place c.replace-device.new.dest refl c.saturating_add-key.ensures refl c.new.ensures)
    c.saturating_add-key.ensures refl prepared.clock (c.plan_for-mishaps.ensures.mishaps ∙ ap (mishaps_for c.args.kind) value)
    (c.plan_for-mishaps.ensures.left ∙ ap (without_plan_for c.args.kind) value)
    (c.fail_at.ensures ∙ ap (λ (l : List ℕ). with_fails l c.args.lab.server) c.fails_for-failing.ensures.fails)
    (rw (c.new-wire.ensures.server, c.new-wire.ensures.moment, c.new-wire.ensures.mishaps, c.new-wire.ensures.between, clock) at ran.ensures)
    (c.fail_at-2.ensures ∙ ap (λ (l : List ℕ). with_fails l ran.result.0) c.new-2.ensures) c.fails_for-failing.ensures.left refl refl)

pub returns-clause-ready : goal.returns-clause-ready
returns-clause-ready c =
    let s = state_of c.args.lab in
    let moment = lab_in_time c.args.lab.clock c.args.lab.devices.items c.requires.ready.clocks in
    let clock = to_z-of_z w64 c.args.lab.clock (moment_fits c.args.lab.clock moment) in
    let d = c.index_mut.result.now in
    let there = slice_get_read c.args.lab.devices.items (length c.args.lab.devices.items) c.args.place d refl c.requires.there.1.within c.index_mut.ensures.value in
    let prepared = c.requires.prepared d there in
    let value = c.replace-device.ensures.value in
    let ran = c.run_over-server in
    rw clock
    (session_ready c.args.kind c.args.place s _ _ ran.result.2
    (runs_there c.args.kind c.args.place _ s _ d c.plan_for-mishaps.new.device ran.new.device c.replace-device.new.dest _ c.args.prepared.clock _ _ ran.result.1 c.fail_at.new.self
    ran.result.0 c.fail_at-2.new.self c.fails_for-failing.new.planned _ ran.result.2 there (ap (λ (x : Device). x.name) c.replace-device.ensures.after ∙ prepared.nameless)
    (ap (λ (x : Device). x.shift) c.replace-device.ensures.after ∙ prepared.has_shift)
    (c.plan_for-mishaps.ensures.planned ∙ ap (planned_for c.args.kind) value) (cross_begins s _ c.args.place c.replace-device.new.dest refl c.saturating_add-key.ensures refl c.new.ensures)
    c.saturating_add-key.ensures refl prepared.clock (c.plan_for-mishaps.ensures.mishaps ∙ ap (mishaps_for c.args.kind) value)
    (c.plan_for-mishaps.ensures.left ∙ ap (without_plan_for c.args.kind) value)
    (c.fail_at.ensures ∙ ap (λ (l : List ℕ). with_fails l c.args.lab.server) c.fails_for-failing.ensures.fails)
    (rw (c.new-wire.ensures.server, c.new-wire.ensures.moment, c.new-wire.ensures.mishaps, c.new-wire.ensures.between, clock) at ran.ensures)
    (c.fail_at-2.ensures ∙ ap (λ (l : List ℕ). with_fails l ran.result.0) c.new-2.ensures) c.fails_for-failing.ensures.left refl refl) c.requires.ready)
