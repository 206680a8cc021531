use Rattle.std.proofs.Common.{List, arith, sym, subst, ◌∙◌, w64, SFits, rules}
use Rattle.std.proofs.lemmas.Int.{to_z-of_z}
use Rattle.ak_lab_devices.proofs.InTime.{moment_fits}
use Rattle.ak_lab_devices.specs.Devices.{IsPlaceOf}
use Rattle.ak_lab_devices.specs.declared.devices.Device.{Device}
use Rattle.ak_lab_wires.proofs.Crossing.{may_cross}
use Rattle.ak_lab_wires.specs.CrossedSyncs.{cross_state}
use Rattle.ak_lab_wires.proofs.crossed_syncs.CrossedLab.place_to_cross.Goals as goal

pub returns-in-Some-moment_after : goal.returns-in-Some-moment_after
returns-in-Some-moment_after c =
    let clock : SFits w64 c.args.self.now.clock = search rules in
    let shift : SFits w64 c.index.result.now.shift = search rules in
    let is = subst (λ (devices : List Device). IsPlaceOf c.args.name.now devices c.in-Some.place) c.as_slice.ensures.value c.in-Some.ensures in
    let told = rw (to_z-of_z w64 c.args.self.now.clock clock, to_z-of_z w64 c.index.result.now.shift shift) at c.in-Some-moment_after.ensures in
    let begins = c.may_begin.ensures c.if-not-may_begin.false in
    rw (to_z-of_z w64 c.in-Some-moment_after.at (moment_fits c.in-Some-moment_after.at told.1))
    (may_cross c.args.name.now c.args.session.0 c.in-Some.place (cross_state c.args.self.now) c.index.result.now c.in-Some-moment_after.at
    (λ empty. let full = rw (c.as_str.ensures ∙ empty) at (sym c.is_empty.ensures ∙ c.if-is_empty.false) in grind (arith, full)) is c.index.ensures begins.0 told.0 told.1 begins.1
    begins.2)
