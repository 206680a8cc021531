use Rattle.std.proofs.Common.{List, refl, ap, subst}
use Rattle.ak_lab.proofs.Desks.{ready_there}
use Rattle.ak_lab.proofs.Planned.{plans_there}
use Rattle.ak_lab.proofs.Coming.{same_devices}
use Rattle.ak_lab.specs.LabPlans.{with_break}
use Rattle.ak_lab_devices.proofs.Placing.{back_there}
use Rattle.ak_lab.specs.LabStates.{state_of}
use Rattle.ak_lab_devices.specs.Devices.{IsPlaceOf}
use Rattle.ak_lab_devices.specs.declared.devices.Device.{Device}
use Rattle.ak_lab.proofs.labs.Lab.break_device.Goals as goal

pub returns-in-Ok-clause-ends : goal.returns-in-Ok-clause-ends
returns-in-Ok-clause-ends c =
    let is = subst (λ (devices : List Device). IsPlaceOf c.args.name.now devices c.in-Some.place) c.as_slice.ensures.value c.in-Some.ensures in (
      plans_there c.args.name.now with_break (state_of c.args.self.now) c.in-Some.place c.index_mut.result.now c.set_break.new.device is c.index_mut.ensures.value refl c.in-Ok.ensures.ok,
      c.new.ensures,
    )

pub returns-in-Ok-clause-ready : goal.returns-in-Ok-clause-ready
returns-in-Ok-clause-ready c =
    let is = subst (λ (devices : List Device). IsPlaceOf c.args.name.now devices c.in-Some.place) c.as_slice.ensures.value c.in-Some.ensures in
    ready_there c.args.name.now (state_of c.args.self.now) c.in-Some.place c.index_mut.result.now c.set_break.new.device is c.index_mut.ensures.value
    (ap (λ (x : Device). x.name) c.in-Ok.ensures.ok) (ap (λ (x : Device). x.shift) c.in-Ok.ensures.ok) c.requires.ready

pub returns-in-Err-clause-ends : goal.returns-in-Err-clause-ends
returns-in-Err-clause-ends c =
    let is = subst (λ (devices : List Device). IsPlaceOf c.args.name.now devices c.in-Some.place) c.as_slice.ensures.value c.in-Some.ensures in
    same_devices (state_of c.args.self.now) _ (back_there c.args.self.now.devices.items c.in-Some.place c.index_mut.result.now c.set_break.new.device is.within c.index_mut.ensures.value c.in-Err.ensures.err)
