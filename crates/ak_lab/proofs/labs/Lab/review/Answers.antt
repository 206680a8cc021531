use Rattle.std.proofs.Common.{List, ap, subst}
use Rattle.ak_lab.proofs.Coming.{review_stopped}
use Rattle.ak_lab.proofs.Desks.{ready_there, review_there, there_in_time}
use Rattle.ak_lab_devices.proofs.InTime.{lab_in_time, shifted}
use Rattle.ak_lab.specs.LabStates.{state_of}
use Rattle.ak_lab_devices.specs.Devices.{IsPlaceOf}
use Rattle.ak_lab_devices.specs.declared.devices.Device.{Device}
use Rattle.ak_lab.proofs.labs.Lab.review.Goals as goal

pub returns-in-Ok-clause-ends : goal.returns-in-Ok-clause-ends
returns-in-Ok-clause-ends c =
    let s = state_of c.args.self.now in
    let is = subst (λ (devices : List Device). IsPlaceOf c.args.name.now devices c.in-Some.place) c.as_slice.ensures.value c.in-Some.ensures in
    let at = shifted c.args.self.now.clock c.index.result.now.shift (lab_in_time c.args.self.now.clock c.args.self.now.devices.items c.requires.ready.clocks)
    (there_in_time c.args.name.now s c.in-Some.place c.index.result.now is c.index.ensures c.requires.ready) in (
      review_there c.args.name.now c.args.plan s c.in-Some.place c.index.result.now c.index_mut.result.now c.review_on.new.device _ _ is c.index.ensures c.index_mut.ensures.value at
          c.in-Ok.ensures.ends c.in-Ok.ensures.rest,
      c.new.ensures,
    )

pub returns-in-Ok-clause-ready : goal.returns-in-Ok-clause-ready
returns-in-Ok-clause-ready c =
    let is = subst (λ (devices : List Device). IsPlaceOf c.args.name.now devices c.in-Some.place) c.as_slice.ensures.value c.in-Some.ensures in
    ready_there c.args.name.now (state_of c.args.self.now) c.in-Some.place c.index_mut.result.now c.review_on.new.device is c.index_mut.ensures.value
    (ap (λ (x : Device). x.name) c.in-Ok.ensures.rest) (ap (λ (x : Device). x.shift) c.in-Ok.ensures.rest) c.requires.ready

pub returns-in-Err-clause-ends : goal.returns-in-Err-clause-ends
returns-in-Err-clause-ends c =
    let s = state_of c.args.self.now in
    let is = subst (λ (devices : List Device). IsPlaceOf c.args.name.now devices c.in-Some.place) c.as_slice.ensures.value c.in-Some.ensures in
    let at = shifted c.args.self.now.clock c.index.result.now.shift (lab_in_time c.args.self.now.clock c.args.self.now.devices.items c.requires.ready.clocks)
    (there_in_time c.args.name.now s c.in-Some.place c.index.result.now is c.index.ensures c.requires.ready) in
    review_stopped c.args.name.now c.args.plan.card c.args.plan.ease c.args.plan.count s _ c.in-Err.fault c.desk_stop.result c.desk_stop.ensures
    (review_there c.args.name.now c.args.plan s c.in-Some.place c.index.result.now c.index_mut.result.now c.review_on.new.device _ _ is c.index.ensures c.index_mut.ensures.value at
    c.in-Err.ensures.ends c.in-Err.ensures.rest)

pub returns-in-Err-clause-ready : goal.returns-in-Err-clause-ready
returns-in-Err-clause-ready c =
    let is = subst (λ (devices : List Device). IsPlaceOf c.args.name.now devices c.in-Some.place) c.as_slice.ensures.value c.in-Some.ensures in
    ready_there c.args.name.now (state_of c.args.self.now) c.in-Some.place c.index_mut.result.now c.review_on.new.device is c.index_mut.ensures.value
    (ap (λ (x : Device). x.name) c.in-Err.ensures.rest) (ap (λ (x : Device). x.shift) c.in-Err.ensures.rest) c.requires.ready
