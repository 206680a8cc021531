use Rattle.std.proofs.Common.{ℤ, ◌+ℤ◌, sym, subst, w64}
use Rattle.std.proofs.lemmas.Int.{to_z-of_z}
use Rattle.ak_io.specs.Arrivals.{IsClockMoment}
use Rattle.ak_lab.proofs.Desks.{there_in_time}
use Rattle.ak_lab.proofs.Preparing.{prepared_there}
use Rattle.ak_lab_devices.proofs.InTime.{lab_in_time, moment_fits, shift_fits, shifted}
use Rattle.ak_lab.specs.LabStates.{state_of}
use Rattle.ak_lab.proofs.lab_syncs.run_at.Goals as goal

pub overflow_add-lab : goal.overflow_add-lab
overflow_add-lab c =
    let moment = lab_in_time c.args.lab.clock c.args.lab.devices.items c.requires.ready.clocks in
    let own = there_in_time c.requires.there.0 (state_of c.args.lab) c.args.place c.index.result.now c.requires.there.1 c.index.ensures c.requires.ready in
    let clock = to_z-of_z w64 c.args.lab.clock (moment_fits c.args.lab.clock moment) in
    let shift = to_z-of_z w64 c.index.result.now.shift (shift_fits c.args.lab.clock c.index.result.now.shift moment own) in
    rw (clock, shift) (moment_fits (c.args.lab.clock +ℤ c.index.result.now.shift) own)

pub prepare-requires : goal.prepare-requires
prepare-requires c =
    let own = there_in_time c.requires.there.0 (state_of c.args.lab) c.args.place c.index.result.now c.requires.there.1 c.index.ensures c.requires.ready in
    record {
      clock = subst IsClockMoment
          (sym (shifted c.args.lab.clock c.index.result.now.shift (lab_in_time c.args.lab.clock c.args.lab.devices.items c.requires.ready.clocks) own)) own;
    }

pub run_prepared-lab-requires-clause-prepared : goal.run_prepared-lab-requires-clause-prepared
run_prepared-lab-requires-clause-prepared c =
    let s = state_of c.args.lab in
    let moment = lab_in_time c.args.lab.clock c.args.lab.devices.items c.requires.ready.clocks in
    let own = there_in_time c.requires.there.0 s c.args.place c.index.result.now c.requires.there.1 c.index.ensures c.requires.ready in
    prepared_there c.requires.there.0 s c.args.place c.index.result.now _ _ c.in-Ok.prepared c.requires.there.1 c.index.ensures
    (shifted c.args.lab.clock c.index.result.now.shift moment own)
    (to_z-of_z w64 c.index.result.now.shift (shift_fits c.args.lab.clock c.index.result.now.shift moment own)) c.in-Ok.ensures
