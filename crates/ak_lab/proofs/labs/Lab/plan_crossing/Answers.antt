use Rattle.std.proofs.Common.{◌≡◌, List, None, refl, ap, subst, inr}
use Rattle.ak_lab.proofs.Coming.{same_devices, stopped_at_once}
use Rattle.ak_lab.proofs.Desks.{ready_there}
use Rattle.ak_lab.proofs.Planned.{line_of_act, plans_there}
use Rattle.ak_lab.specs.LabPlans.{with_act}
use Rattle.ak_lab.specs.LabStates.{state_of}
use Rattle.ak_lab_devices.proofs.Placing.{back_there, placed}
use Rattle.ak_lab_devices.specs.Devices.{IsPlaceOf, device_of}
use Rattle.ak_lab_devices.specs.declared.devices.Device.{Device}
use Rattle.ak_lab_devices.specs.declared.plans.Act.TheVariants as acts
use Rattle.ak_lab_lines.specs.LabTexts.{no_device_text}
use Rattle.ak_lab_lines.specs.declared.lab_lines.LabLine.TheVariants as lines
use Rattle.ak_lab.proofs.labs.Lab.plan_crossing.Goals as goal

pub returns-in-None-clause-ends : goal.returns-in-None-clause-ends
returns-in-None-clause-ends c =
    let is = subst (λ (devices : List Device). IsPlaceOf c.args.name.now devices c.in-Some.place) c.as_slice.ensures.value c.in-Some.ensures in
    let there = placed c.args.name.now c.args.self.now.devices.items c.in-Some.place is in
    let none = subst (λ (devices : List Device). device_of c.args.other devices ≡ None) c.as_slice-2.ensures.value c.in-None.ensures in
    stopped_at_once (lines.Cross c.args.name.now c.args.call c.args.other) (state_of c.args.self.now) (no_device_text c.args.other) c.no_device-in-None.result c.no_device-in-None.ensures
    (inr (there.d, there.found, (refl, none, refl)))

pub returns-in-Ok-clause-ends : goal.returns-in-Ok-clause-ends
returns-in-Ok-clause-ends c =
    let is = subst (λ (devices : List Device). IsPlaceOf c.args.name.now devices c.in-Some.place) c.as_slice.ensures.value c.in-Some.ensures in
    let other = placed c.args.other c.args.self.now.devices.items c.in-Some-place_of.field-0
    (subst (λ (devices : List Device). IsPlaceOf c.args.other devices c.in-Some-place_of.field-0) c.as_slice-2.ensures.value c.in-Some-place_of.ensures) in (
      other.d,
      other.found,
      plans_there c.args.name.now (with_act c.args.call c.args.self.now.server.line (acts.Cross c.args.other)) (state_of c.args.self.now) c.in-Some.place c.index_mut.result.now
          c.add_act.new.device is c.index_mut.ensures.value refl
          (line_of_act c.args.call c.line.result c.args.self.now.server.line (acts.Cross c.args.other) c.index_mut.result.now c.add_act.new.device c.line.ensures c.in-Ok.ensures.ok),
      c.new.ensures,
    )

pub returns-in-Ok-clause-ready : goal.returns-in-Ok-clause-ready
returns-in-Ok-clause-ready c =
    let is = subst (λ (devices : List Device). IsPlaceOf c.args.name.now devices c.in-Some.place) c.as_slice.ensures.value c.in-Some.ensures in
    ready_there c.args.name.now (state_of c.args.self.now) c.in-Some.place c.index_mut.result.now c.add_act.new.device is c.index_mut.ensures.value
    (ap (λ (x : Device). x.name) c.in-Ok.ensures.ok) (ap (λ (x : Device). x.shift) c.in-Ok.ensures.ok) c.requires.ready

pub returns-in-Err-clause-ends : goal.returns-in-Err-clause-ends
returns-in-Err-clause-ends c =
    let is = subst (λ (devices : List Device). IsPlaceOf c.args.name.now devices c.in-Some.place) c.as_slice.ensures.value c.in-Some.ensures in
    same_devices (state_of c.args.self.now) _
    (back_there c.args.self.now.devices.items c.in-Some.place c.index_mut.result.now c.add_act.new.device is.within c.index_mut.ensures.value c.in-Err.ensures.err)
