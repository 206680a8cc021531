use Rattle.std.proofs.Common.{◌≡◌, List, None, subst}
use Rattle.ak_lab.proofs.Syncing.{ends_session, session_printed, session_unbegun, session_unnamed}
use Rattle.ak_lab.specs.LabStates.{state_of}
use Rattle.ak_lab_devices.specs.Devices.{IsPlaceOf, device_of}
use Rattle.ak_lab_devices.specs.declared.devices.Device.{Device}
use Rattle.ak_lab.proofs.lab_syncs.run_session.Goals as goal

pub run_at-lab-requires-clause-there : goal.run_at-lab-requires-clause-there
run_at-lab-requires-clause-there c = (
  c.args.name.now,
  subst (λ (devices : List Device). IsPlaceOf c.args.name.now devices c.in-Some.place) c.as_slice.ensures.value c.in-Some.ensures,
)

pub returns-in-Ok-clause-ends : goal.returns-in-Ok-clause-ends
returns-in-Ok-clause-ends c =
    let is = subst (λ (devices : List Device). IsPlaceOf c.args.name.now devices c.in-Some.place) c.as_slice.ensures.value c.in-Some.ensures in
    session_printed c.args.kind c.args.name.now (state_of c.args.lab) (state_of c.run_at-lab.result.0) c.in-Ok.ran.crossed c.in-Ok.ran.outcome c.print_outcome-came.result
    c.print_outcome-came.ensures
    (ends_session c.args.kind c.args.name.now (state_of c.args.lab) (state_of c.run_at-lab.result.0) c.in-Some.place c.in-Ok.ran.crossed c.in-Ok.ran.outcome is
    (rw c.in-Ok.is at c.run_at-lab.ensures.ok))

pub returns-in_default-clause-ends : goal.returns-in_default-clause-ends
returns-in_default-clause-ends c =
    let none = subst (λ (devices : List Device). device_of c.args.name.now devices ≡ None) c.as_slice.ensures.value c.in_default.ensures in
    session_unnamed c.args.kind c.args.name.now (state_of c.args.lab) c.no_device-stop.result c.no_device-stop.ensures none

pub returns-in-Err-clause-ends : goal.returns-in-Err-clause-ends
returns-in-Err-clause-ends c =
    session_unbegun c.args.kind c.args.name.now (state_of c.args.lab) (state_of c.run_at-lab.result.0) (rw c.in-Err.is at c.run_at-lab.ensures.err)
