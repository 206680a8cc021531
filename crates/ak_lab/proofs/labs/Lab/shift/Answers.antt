use Rattle.std.proofs.Common.{List, codes, refl, sym, ap, subst, ◌∙◌, inr, w64, SFits, rules}
use Rattle.std.proofs.lemmas.Int.{to_z-of_z}
use Rattle.ak_lab.proofs.Coming.{stopped_at_once}
use Rattle.ak_lab_devices.proofs.InTime.{still_in_time}
use Rattle.ak_lab_devices.proofs.Placing.{placed, read_there}
use Rattle.ak_lab.specs.LabStates.{LabState}
use Rattle.ak_lab_devices.specs.Devices.{IsPlaceOf, are_in_time}
use Rattle.ak_lab_devices.specs.declared.devices.Device.{Device}
use Rattle.ak_lab_lines.specs.declared.lab_lines.LabLine.TheVariants as lines
use Rattle.ak_lab.proofs.labs.Lab.shift.Goals as goal

pub returns-then-not-is_shifted_in_time-clause-ends : goal.returns-then-not-is_shifted_in_time-clause-ends
returns-then-not-is_shifted_in_time-clause-ends c =
    let clock : SFits w64 c.args.self.now.clock = search rules in
    let there = placed c.args.name.now c.args.self.now.devices.items c.in-Some.place
    (subst (λ (devices : List Device). IsPlaceOf c.args.name.now devices c.in-Some.place) c.as_slice.ensures.value c.in-Some.ensures) in
    stopped_at_once (lines.Shift c.args.name.now c.args.by) _ (codes "bad line") _ c.stop_by.ensures
    (inr (refl, record { d = there.d; found = there.found; out = rw (to_z-of_z w64 c.args.self.now.clock clock, to_z-of_z w64 c.args.by c.ranges.by) at (sym c.if-not-is_shifted_in_time.ensures); text = refl }))

pub returns-clause-ends : goal.returns-clause-ends
returns-clause-ends c =
    let clock : SFits w64 c.args.self.now.clock = search rules in
    let is = subst (λ (devices : List Device). IsPlaceOf c.args.name.now devices c.in-Some.place) c.as_slice.ensures.value c.in-Some.ensures in
    let there = read_there c.args.name.now c.args.self.now.devices.items c.in-Some.place c.index_mut.result.now is c.index_mut.ensures.value in
    let made : Device = record c.index_mut.result.now { shift = c.args.by } in (
      record {
        d = c.index_mut.result.now;
        found = there.1;
        in_time = rw (to_z-of_z w64 c.args.self.now.clock clock, to_z-of_z w64 c.args.by c.ranges.by) at (sym c.if-not-is_shifted_in_time.ensures);
        left = rw (to_z-of_z w64 c.args.by c.ranges.by) (ap (λ (devices : List Device). let t : LabState = record {
          clock = c.args.self.now.clock;
          server = c.args.self.now.server;
          sessions = c.args.self.now.sessions;
          fails = c.args.self.now.fails;
          devices = devices;
        } in t) (sym (is.set made there.2)));
      },
      c.new.ensures,
    )

pub returns-clause-ready : goal.returns-clause-ready
returns-clause-ready c =
    let clock : SFits w64 c.args.self.now.clock = search rules in
    let is = subst (λ (devices : List Device). IsPlaceOf c.args.name.now devices c.in-Some.place) c.as_slice.ensures.value c.in-Some.ensures in
    let there = read_there c.args.name.now c.args.self.now.devices.items c.in-Some.place c.index_mut.result.now is c.index_mut.ensures.value in
    let made : Device = record c.index_mut.result.now { shift = c.args.by } in
    record {
      clocks = rw (to_z-of_z w64 c.args.by c.ranges.by) (ap (λ (devices : List Device). are_in_time c.args.self.now.clock devices) (sym (is.set made there.2))
          ∙ still_in_time c.args.self.now.clock made c.args.self.now.devices.items c.requires.ready.clocks (rw (to_z-of_z w64 c.args.self.now.clock clock, to_z-of_z w64 c.args.by c.ranges.by) at (sym c.if-not-is_shifted_in_time.ensures)));
      calm = c.requires.ready.calm;
    }
