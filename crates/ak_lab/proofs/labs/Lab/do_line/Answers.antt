use Rattle.std.proofs.Common.{List, Err, ap, refl, subst, sym}
use Rattle.ak_io.specs.Arrivals.{IsClockMoment}
use Rattle.ak_lab.proofs.Coming.{do_stopped}
use Rattle.ak_lab.proofs.Desks.{do_there, ready_there, there_in_time, unsaid}
use Rattle.ak_lab_devices.proofs.InTime.{lab_in_time, shifted}
use Rattle.ak_lab_devices.proofs.Placing.{read_there}
use Rattle.ak_lab.specs.LabStates.{state_of}
use Rattle.ak_lab_devices.specs.Devices.{IsPlaceOf}
use Rattle.ak_lab_devices.specs.declared.devices.Device.{Device}
use Rattle.ak_lab.proofs.labs.Lab.do_line.Goals as goal

pub obey_on-requires-clause-moment : goal.obey_on-requires-clause-moment
obey_on-requires-clause-moment c =
    let is = subst (λ (devices : List Device). IsPlaceOf c.args.name.now devices c.in-Some.place) c.as_slice.ensures.value c.in-Some.ensures in
    let own = there_in_time c.args.name.now (state_of c.args.self.now) c.in-Some.place c.index.result.now is c.index.ensures c.requires.ready in
    subst IsClockMoment
    (sym (shifted c.args.self.now.clock c.index.result.now.shift (lab_in_time c.args.self.now.clock c.args.self.now.devices.items c.requires.ready.clocks) own)) own

pub returns-in-Err-clause-ends : goal.returns-in-Err-clause-ends
returns-in-Err-clause-ends c =
    let is = subst (λ (devices : List Device). IsPlaceOf c.args.name.now devices c.in-Some.place) c.as_slice.ensures.value c.in-Some.ensures in
    let there = read_there c.args.name.now c.args.self.now.devices.items c.in-Some.place c.index.result.now is c.index.ensures in
    unsaid c.args.name.now c.args.text.now (state_of c.args.self.now) c.index.result.now c.in-Err.fault c.line_stop.result c.line_stop.ensures there.1
    (rw c.as_str.ensures at c.in-Err.ensures.err)

pub returns-in-Ok-obey_on-clause-ends : goal.returns-in-Ok-obey_on-clause-ends
returns-in-Ok-obey_on-clause-ends c =
    let s = state_of c.args.self.now in
    let is = subst (λ (devices : List Device). IsPlaceOf c.args.name.now devices c.in-Some.place) c.as_slice.ensures.value c.in-Some.ensures in
    let at = shifted c.args.self.now.clock c.index.result.now.shift (lab_in_time c.args.self.now.clock c.args.self.now.devices.items c.requires.ready.clocks)
    (there_in_time c.args.name.now s c.in-Some.place c.index.result.now is c.index.ensures c.requires.ready) in (
      c.in-Ok-obey_on.answer,
      do_there c.args.name.now c.args.text.now s c.in-Some.place c.index.result.now c.index_mut.result.now c.obey_on.new.device _ c.in-Ok.said _ is c.index.ensures c.index_mut.ensures.value at
          (rw c.as_str.ensures at c.in-Ok.ensures.ok) c.in-Ok-obey_on.ensures.ends c.in-Ok-obey_on.ensures.filters c.in-Ok-obey_on.ensures.rest,
      refl,
    )

pub returns-in-Ok-obey_on-clause-ready : goal.returns-in-Ok-obey_on-clause-ready
returns-in-Ok-obey_on-clause-ready c =
    let is = subst (λ (devices : List Device). IsPlaceOf c.args.name.now devices c.in-Some.place) c.as_slice.ensures.value c.in-Some.ensures in
    ready_there c.args.name.now (state_of c.args.self.now) c.in-Some.place c.index_mut.result.now c.obey_on.new.device is c.index_mut.ensures.value
    (ap (λ (x : Device). x.name) c.in-Ok-obey_on.ensures.rest) (ap (λ (x : Device). x.shift) c.in-Ok-obey_on.ensures.rest) c.requires.ready

pub returns-in-Err-obey_on-clause-ends : goal.returns-in-Err-obey_on-clause-ends
returns-in-Err-obey_on-clause-ends c =
    let s = state_of c.args.self.now in
    let is = subst (λ (devices : List Device). IsPlaceOf c.args.name.now devices c.in-Some.place) c.as_slice.ensures.value c.in-Some.ensures in
    let at = shifted c.args.self.now.clock c.index.result.now.shift (lab_in_time c.args.self.now.clock c.args.self.now.devices.items c.requires.ready.clocks)
    (there_in_time c.args.name.now s c.in-Some.place c.index.result.now is c.index.ensures c.requires.ready) in
    do_stopped c.args.name.now c.args.text.now s _ c.in-Err-obey_on.refusal c.refusal_stop.result c.refusal_stop.ensures
    (λ is. c.in-Err-obey_on.ensures.unfailed (ap Err is))
    (do_there c.args.name.now c.args.text.now s c.in-Some.place c.index.result.now c.index_mut.result.now c.obey_on.new.device _ c.in-Ok.said _ is c.index.ensures c.index_mut.ensures.value at
    (rw c.as_str.ensures at c.in-Ok.ensures.ok) c.in-Err-obey_on.ensures.ends c.in-Err-obey_on.ensures.filters c.in-Err-obey_on.ensures.rest)

pub returns-in-Err-obey_on-clause-ready : goal.returns-in-Err-obey_on-clause-ready
returns-in-Err-obey_on-clause-ready c =
    let is = subst (λ (devices : List Device). IsPlaceOf c.args.name.now devices c.in-Some.place) c.as_slice.ensures.value c.in-Some.ensures in
    ready_there c.args.name.now (state_of c.args.self.now) c.in-Some.place c.index_mut.result.now c.obey_on.new.device is c.index_mut.ensures.value
    (ap (λ (x : Device). x.name) c.in-Err-obey_on.ensures.rest) (ap (λ (x : Device). x.shift) c.in-Err-obey_on.ensures.rest) c.requires.ready
