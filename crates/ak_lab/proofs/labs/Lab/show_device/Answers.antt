use Rattle.std.proofs.Common.{List, subst}
use Rattle.ak_lab.proofs.Coming.{same_devices}
use Rattle.ak_lab_devices.proofs.Placing.{back_there, read_there}
use Rattle.ak_lab.specs.LabStates.{state_of}
use Rattle.ak_lab_devices.specs.Devices.{IsPlaceOf}
use Rattle.ak_lab_devices.specs.declared.devices.Device.{Device}
use Rattle.ak_lab.proofs.labs.Lab.show_device.Goals as goal

pub returns-in-Ok-clause-ends : goal.returns-in-Ok-clause-ends
returns-in-Ok-clause-ends c =
    let is = subst (λ (devices : List Device). IsPlaceOf c.args.name.now devices c.in-Some.place) c.as_slice.ensures.value c.in-Some.ensures in
    let there = read_there c.args.name.now c.args.self.now.devices.items c.in-Some.place c.index_mut.result.now is c.index_mut.ensures.value in
    let back = back_there c.args.self.now.devices.items c.in-Some.place c.index_mut.result.now c.shown_on.new.device is.within c.index_mut.ensures.value c.shown_on.ensures.same in
    let shown = c.in-Ok.ensures.shown in
    (shown.0, (same_devices (state_of c.args.self.now) _ back, c.index_mut.result.now, there.1, shown.1), shown.2)

pub returns-in-Err-clause-ends : goal.returns-in-Err-clause-ends
returns-in-Err-clause-ends c =
    let is = subst (λ (devices : List Device). IsPlaceOf c.args.name.now devices c.in-Some.place) c.as_slice.ensures.value c.in-Some.ensures in
    let back = back_there c.args.self.now.devices.items c.in-Some.place c.index_mut.result.now c.shown_on.new.device is.within c.index_mut.ensures.value c.shown_on.ensures.same in
    same_devices (state_of c.args.self.now) _ back
