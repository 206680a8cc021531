use Rattle.std.proofs.Common.{List, refl, ap, subst}
use Rattle.std.proofs.lemmas.Result.{err_from_is_err_and}
use Rattle.ak_lab.proofs.Coming.{same_devices}
use Rattle.ak_lab.proofs.Desks.{ready_there}
use Rattle.ak_lab.proofs.Planned.{line_of_act, plans_there, replay_lacking}
use Rattle.ak_lab.specs.LabPlans.{with_act}
use Rattle.ak_lab.specs.LabStates.{state_of}
use Rattle.ak_lab_devices.proofs.Placing.{back_there, placed}
use Rattle.ak_lab_devices.specs.Devices.{IsPlaceOf}
use Rattle.ak_lab_devices.specs.declared.devices.Device.{Device}
use Rattle.ak_lab_devices.specs.declared.plans.Act.TheVariants as acts
use Rattle.ak_lab.proofs.labs.Lab.plan_replay.Goals as goal

pub returns-in_err-requests_of-clause-ends : goal.returns-in_err-requests_of-clause-ends
returns-in_err-requests_of-clause-ends c =
    let is = subst (λ (devices : List Device). IsPlaceOf c.args.name.now devices c.in-Some.place) c.as_slice.ensures.value c.in-Some.ensures in
    let there = placed c.args.name.now c.args.self.now.devices.items c.in-Some.place is in
    let p = err_from_is_err_and c.from_residual.result c.from_residual.ensures.1 in
    rw (p.1, p.2) (replay_lacking c.args.name.now c.args.call c.args.again.from c.args.again.count (state_of c.args.self.now) there.d c.in_err-requests_of.field-0.0 there.found
    c.in_err-requests_of.ensures.err)

pub returns-in-Ok-clause-ends : goal.returns-in-Ok-clause-ends
returns-in-Ok-clause-ends c =
    let is = subst (λ (devices : List Device). IsPlaceOf c.args.name.now devices c.in-Some.place) c.as_slice.ensures.value c.in-Some.ensures in (
      c.in_ok-requests_of.ensures.ok.1,
      plans_there c.args.name.now (with_act c.args.call c.args.self.now.server.line (acts.Replay c.args.again.from c.args.again.count)) (state_of c.args.self.now) c.in-Some.place
          c.index_mut.result.now c.add_act.new.device is c.index_mut.ensures.value refl
          (line_of_act c.args.call c.line.result c.args.self.now.server.line (acts.Replay c.args.again.from c.args.again.count) c.index_mut.result.now c.add_act.new.device c.line.ensures c.in-Ok.ensures.ok),
      c.new.ensures,
    )

pub returns-in-Ok-clause-ready : goal.returns-in-Ok-clause-ready
returns-in-Ok-clause-ready c =
    let is = subst (λ (devices : List Device). IsPlaceOf c.args.name.now devices c.in-Some.place) c.as_slice.ensures.value c.in-Some.ensures in
    ready_there c.args.name.now (state_of c.args.self.now) c.in-Some.place c.index_mut.result.now c.add_act.new.device is c.index_mut.ensures.value
    (ap (λ (x : Device). x.name) c.in-Ok.ensures.ok) (ap (λ (x : Device). x.shift) c.in-Ok.ensures.ok) c.requires.ready

pub returns-in-Err-clause-ends : goal.returns-in-Err-clause-ends
returns-in-Err-clause-ends c =
    let is = subst (λ (devices : List Device). IsPlaceOf c.args.name.now devices c.in-Some.place) c.as_slice.ensures.value c.in-Some.ensures in
    same_devices (state_of c.args.self.now) _
    (back_there c.args.self.now.devices.items c.in-Some.place c.index_mut.result.now c.add_act.new.device is.within c.index_mut.ensures.value c.in-Err.ensures.err)
