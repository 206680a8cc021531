use Rattle.std.proofs.Common.{◌≡◌, ◌<◌, [], ◌∷◌, ◌++◌, List, None, length, codes, refl, ap, subst, ◌∙◌, inl, arith}
use Rattle.ak_lab.proofs.Coming.{device_unmade, stopped_at_once}
use Rattle.ak_lab_devices.proofs.Placing.{placed}
use Rattle.ak_lab.specs.LabStates.{LabState}
use Rattle.ak_lab_devices.specs.Devices.{IsPlaceOf, device_of}
use Rattle.ak_lab_devices.specs.declared.devices.Device.{Device}
use Rattle.ak_lab_lines.specs.declared.lab_lines.LabLine.TheVariants as lines
use Rattle.ak_lab.proofs.labs.Lab.add_device.Goals as goal

pub returns-in-Some-clause-ends : goal.returns-in-Some-clause-ends
returns-in-Some-clause-ends c =
    let there = placed c.args.name c.args.self.now.devices.items c.in-Some.field-0
    (subst (λ (devices : List Device). IsPlaceOf c.args.name devices c.in-Some.field-0) c.as_slice.ensures.value c.in-Some.ensures) in
    stopped_at_once (lines.Device c.args.name) _ (codes "device held") _ c.stop_by.ensures (refl, inl (there.d, there.found, refl))

pub returns-clause-ends : goal.returns-clause-ends
returns-clause-ends c =
    let made = c.in_ok-device.ensures.made in (
      record {
        committed = made.0;
        new = subst (λ (devices : List Device). device_of c.args.name devices ≡ None) c.as_slice.ensures.value c.in-None.ensures;
        room = subst (λ (devices : List Device). length devices < 16) c.as_slice-2.ensures.value (omega (arith, c.if-as_slice-ge-DEVICE_LIMIT.false));
        is = made.1;
        read = c.new_device.ensures.viewed;
        calm = c.new_device.ensures.calm;
        left = ap (λ (devices : List Device). let t : LabState = record {
          clock = c.args.self.now.clock;
          server = c.new_device.new.server;
          sessions = c.args.self.now.sessions;
          fails = c.args.self.now.fails;
          devices = devices;
        } in t)
            (c.in_ok-push.ensures.items ∙ ap (λ (d : Device). c.args.self.now.devices.items ++ d ∷ []) made.2);
      },
      c.new.ensures,
    )

pub returns-in_err-device-clause-ends : goal.returns-in_err-device-clause-ends
returns-in_err-device-clause-ends c =
    device_unmade c.args.name _ _ c.from_residual.result c.from_residual.ensures.1
    (subst (λ (devices : List Device). device_of c.args.name devices ≡ None) c.as_slice.ensures.value c.in-None.ensures)
    (subst (λ (devices : List Device). length devices < 16) c.as_slice-2.ensures.value (omega (arith, c.if-as_slice-ge-DEVICE_LIMIT.false)))
    (c.new_device.ensures.viewed, refl)

pub returns-in_err-push-clause-ends : goal.returns-in_err-push-clause-ends
returns-in_err-push-clause-ends c =
    device_unmade c.args.name _ _ c.from_residual-in_err-push.result c.from_residual-in_err-push.ensures.1
    (subst (λ (devices : List Device). device_of c.args.name devices ≡ None) c.as_slice.ensures.value c.in-None.ensures)
    (subst (λ (devices : List Device). length devices < 16) c.as_slice-2.ensures.value (omega (arith, c.if-as_slice-ge-DEVICE_LIMIT.false))) (
      c.new_device.ensures.viewed,
      ap (λ (devices : List Device). let t : LabState = record {
        clock = c.args.self.now.clock;
        server = c.new_device.new.server;
        sessions = c.args.self.now.sessions;
        fails = c.args.self.now.fails;
        devices = devices;
      } in t) c.in_err-push.ensures.items,
    )
