use Rattle.std.proofs.Common.{refl, sym, subst, w64}
use Rattle.std.proofs.lemmas.Int.{to_z-of_z}
use Rattle.std.proofs.lemmas.Result.{err_from_is_err_and}
use Rattle.ak_io.specs.Arrivals.{IsClockMoment}
use Rattle.ak_lab.proofs.Planned.{lacking_stopped, resent, resent_ready, resent_short, short_ready}
use Rattle.ak_lab.specs.LabStates.{LabState, state_of}
use Rattle.ak_lab_devices.proofs.InTime.{lab_in_time, moment_fits}
use Rattle.ak_lab.proofs.labs.Lab.resend.Goals as goal

pub answer_each-requires : goal.answer_each-requires
answer_each-requires c =
    let moment = lab_in_time c.args.self.now.clock c.args.self.now.devices.items c.requires.ready.clocks in
    record { clock = subst IsClockMoment (sym (to_z-of_z w64 c.args.self.now.clock (moment_fits c.args.self.now.clock moment))) moment }

pub returns-in_err-requests-clause-ends : goal.returns-in_err-requests-clause-ends
returns-in_err-requests-clause-ends c =
    let p = err_from_is_err_and c.from_residual.result c.from_residual.ensures.1 in
    rw (p.1, p.2) (lacking_stopped c.args.again.from c.args.again.count (state_of c.args.self.now) c.in_err-requests.field-0.0 c.in_err-requests.ensures.err)

pub returns-in-Ok-clause-ends : goal.returns-in-Ok-clause-ends
returns-in-Ok-clause-ends c =
    let s = state_of c.args.self.now in
    let moment = lab_in_time c.args.self.now.clock c.args.self.now.devices.items c.requires.ready.clocks in
    let clock = to_z-of_z w64 c.args.self.now.clock (moment_fits c.args.self.now.clock moment) in
    let t : LabState = record s { server = c.answer_each.new.server } in
    let named = c.in_ok-requests.ensures.ok in
    resent c.args.again.from c.args.again.count s t c.in_ok-requests.requests c.in-Ok.printed moment named.1 named.0 refl
    (rw (c.as_slice.ensures, clock) at c.in-Ok.ensures)

pub returns-in-Ok-clause-ready : goal.returns-in-Ok-clause-ready
returns-in-Ok-clause-ready c =
    let s = state_of c.args.self.now in
    let moment = lab_in_time c.args.self.now.clock c.args.self.now.devices.items c.requires.ready.clocks in
    let clock = to_z-of_z w64 c.args.self.now.clock (moment_fits c.args.self.now.clock moment) in
    let answers = rw clock at c.in-Ok.ensures in
    resent_ready s c.as_slice.result.now c.answer_each.new.server answers.0 c.requires.ready answers.1

pub returns-clause-ends : goal.returns-clause-ends
returns-clause-ends c =
    let s = state_of c.args.self.now in
    let moment = lab_in_time c.args.self.now.clock c.args.self.now.devices.items c.requires.ready.clocks in
    let clock = to_z-of_z w64 c.args.self.now.clock (moment_fits c.args.self.now.clock moment) in
    let t : LabState = record s { server = c.answer_each.new.server } in
    let named = c.in_ok-requests.ensures.ok in
    resent_short c.args.again.from c.args.again.count s t c.in_ok-requests.requests moment named.1 named.0 refl (rw (c.as_slice.ensures, clock) at c.in-Err.ensures)

pub returns-clause-ready : goal.returns-clause-ready
returns-clause-ready c =
    let s = state_of c.args.self.now in
    let moment = lab_in_time c.args.self.now.clock c.args.self.now.devices.items c.requires.ready.clocks in
    let clock = to_z-of_z w64 c.args.self.now.clock (moment_fits c.args.self.now.clock moment) in
    short_ready s c.as_slice.result.now c.answer_each.new.server c.requires.ready (rw clock at c.in-Err.ensures)
