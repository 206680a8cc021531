use Rattle.std.proofs.Common.{[], ◌∷◌, List, ℕ, ap, subst}
use Rattle.ak_lab.proofs.Coming.{one_printed, same_devices}
use Rattle.ak_lab_devices.proofs.Placing.{back_there, read_there}
use Rattle.ak_lab.specs.LabStates.{state_of}
use Rattle.ak_lab_devices.specs.Devices.{IsPlaceOf}
use Rattle.ak_lab_devices.specs.declared.devices.Device.{Device}
use Rattle.ak_lab_lines.specs.declared.lab_lines.LabLine.TheVariants as lines
use Rattle.ak_lab_lines.specs.declared.lab_lines.Side.TheVariants as sides
use Rattle.ak_lab.proofs.labs.Lab.count_device.Goals as goal

pub returns-in-Ok-clause-ends : goal.returns-in-Ok-clause-ends
returns-in-Ok-clause-ends c =
    let is = subst (λ (devices : List Device). IsPlaceOf c.args.name.now devices c.in-Some.place) c.as_slice.ensures.value c.in-Some.ensures in
    let there = read_there c.args.name.now c.args.self.now.devices.items c.in-Some.place c.index_mut.result.now is c.index_mut.ensures.value in
    let back = back_there c.args.self.now.devices.items c.in-Some.place c.index_mut.result.now c.counted_on.new.device is.within c.index_mut.ensures.value c.counted_on.ensures.same in
    let same = same_devices (state_of c.args.self.now) _ back in
    let counted = c.in-Ok.ensures.counted in
    one_printed (lines.Count (sides.Device c.args.name.now)) _ _ c.in-Ok.text c.one_line.result c.one_line.ensures.ok c.one_line.ensures.err
    (counted.0, (same, c.index_mut.result.now, there.1, counted.1), ap (λ (text : List ℕ). text ∷ []) counted.2)
    same
