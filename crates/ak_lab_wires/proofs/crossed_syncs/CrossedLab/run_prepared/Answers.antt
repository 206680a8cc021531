use Rattle.std.proofs.Common.{ℕ, [], ◌∷◌, ◌<◌, ◌+◌, ◌+ℤ◌, length, refl, sym, ap, subst, ◌∙◌, arith, w64, slice_set}
use Rattle.std.proofs.lemmas.Int.{to_z-of_z}
use Rattle.std.proofs.lemmas.Option.{slice_get_read}
use Rattle.ak_io.specs.Arrivals.{IsClockMoment}
use Rattle.ak_lab_devices.proofs.InTime.{moment_fits}
use Rattle.ak_lab_devices.specs.Plans.{crossings_of}
use Rattle.ak_lab_devices.specs.declared.devices.Device.{Device}
use Rattle.ak_lab_wires.proofs.Crossing.{crossed_there, read_is, stands_within}
use Rattle.ak_lab_wires.specs.CrossedSyncs.{cross_state}
use Rattle.ak_lab_wires.proofs.crossed_syncs.CrossedLab.run_prepared.Goals as goal

pub overflow_add-key : goal.overflow_add-key
overflow_add-key c = omega (arith, c.requires.may.3.room)

pub index_mut-requires : goal.index_mut-requires
index_mut-requires c = subst (λ (n : ℕ). c.args.place < n) (sym c.args.self.now.devices.ok.0)
    (stands_within c.args.self.now.devices.items c.args.place c.requires.may.2 c.requires.may.3.at)

pub sync_crossed-requires-clause-clock : goal.sync_crossed-requires-clause-clock
sync_crossed-requires-clause-clock c =
    let moment = c.requires.may.3.clock in
    subst IsClockMoment (sym (to_z-of_z w64 c.args.self.now.clock (moment_fits c.args.self.now.clock moment))) moment

pub sync_crossed-requires-clause-left : goal.sync_crossed-requires-clause-left
sync_crossed-requires-clause-left c =
    let same = read_is c.args.self.now.devices.items c.args.place c.requires.may.2 c.index_mut.result.now c.requires.may.3.at c.index_mut.ensures.value in
    c.requires.may.4.left ∙ ap (λ (x : Device). crossings_of x.planned) (sym same)

pub returns : goal.returns
returns c = λ d at.
    let may = c.requires.may.3 in
    let prepared = c.requires.may.4 in
    let clock = to_z-of_z w64 c.args.self.now.clock (moment_fits c.args.self.now.clock may.clock) in
    let first = slice_get_read c.args.self.now.devices.items (length c.args.self.now.devices.items) c.args.place c.index_mut.result.now refl
    (stands_within c.args.self.now.devices.items c.args.place c.requires.may.2 may.at) c.index_mut.ensures.value in
    let same = sym (read_is c.args.self.now.devices.items c.args.place c.requires.may.2 c.index_mut.result.now may.at c.index_mut.ensures.value)
    ∙ read_is c.args.self.now.devices.items c.args.place d c.index_mut.result.now at c.index_mut.ensures.value in
    crossed_there c.args.line c.args.place (c.args.self.now.sessions + 1) c.index_mut.result.now c.sync_crossed.new.device d
    (slice_set c.args.self.now.devices.items c.args.place c.sync_crossed.new.device) (cross_state c.args.self.now) _ c.args.server.now c.sync_crossed.new.server c.sync_crossed.result
    c.args.prepared.clock first at refl (prepared.gives ∙ ap (λ (x : Device). (c.args.self.now.clock +ℤ x.shift) ∷ []) same) refl refl (rw clock at c.sync_crossed.ensures)
