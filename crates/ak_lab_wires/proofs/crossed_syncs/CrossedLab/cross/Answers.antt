use Rattle.std.proofs.Common.{ℕ, ◌<◌, sym, ap, subst, ◌∙◌, inl, inr, w64}
use Rattle.std.proofs.lemmas.Int.{to_z-of_z}
use Rattle.std.proofs.lemmas.Result.{err_from_is_err_and}
use Rattle.ak_io.specs.Arrivals.{IsClockMoment}
use Rattle.ak_lab_devices.proofs.InTime.{moment_fits}
use Rattle.ak_lab_devices.specs.declared.devices.Device.{Device}
use Rattle.ak_lab_wires.proofs.Crossing.{crossed_whole, crosses_not, prepared_so, read_is, stands_within}
use Rattle.ak_lab_wires.specs.CrossedSyncs.{cross_state}
use Rattle.ak_lab_wires.proofs.crossed_syncs.CrossedLab.cross.Goals as goal

pub index-requires : goal.index-requires
index-requires c = subst (λ (n : ℕ). c.in-Some.place < n) (sym c.args.self.now.devices.ok.0)
    (stands_within c.args.self.now.devices.items c.in-Some.place c.in-Some.ensures.0 c.in-Some.ensures.1.at)

pub prepare-requires : goal.prepare-requires
prepare-requires c =
    let own = subst IsClockMoment (sym c.in-Some.ensures.2) c.in-Some.ensures.1.device_clock in
    record { clock = subst IsClockMoment (sym (to_z-of_z w64 c.in-Some.at (moment_fits c.in-Some.at own))) own }

pub run_prepared-outcome-requires : goal.run_prepared-outcome-requires
run_prepared-outcome-requires c =
    let d = c.in-Some.ensures.0 in
    let may = c.in-Some.ensures.1 in
    let same = read_is c.args.self.now.devices.items c.in-Some.place d c.index.result.now may.at c.index.ensures in
    let own = subst IsClockMoment (sym c.in-Some.ensures.2) may.device_clock in
    let fits = to_z-of_z w64 c.in-Some.at (moment_fits c.in-Some.at own) in
    record {
      may = (
        c.args.name.now,
        c.args.session.0,
        d,
        may,
        prepared_so c.args.self.now.clock c.in-Some.at c.as_slice.result.now d c.in_ok-prepared.prepared (c.as_slice.ensures ∙ ap (λ (x : Device). x.planned) same) c.in-Some.ensures.2
            (rw fits at c.in_ok-prepared.ensures.clock) c.in_ok-prepared.ensures.left,
      );
    }

pub returns : goal.returns
returns c =
    let d = c.in-Some.ensures.0 in
    let may = c.in-Some.ensures.1 in
    inr (crossed_whole c.args.name.now c.args.line c.args.session.0 c.in-Some.place d (cross_state c.args.self.now) (cross_state c.run_prepared-outcome.new.self)
    (cross_state c.tell.new.self) c.args.server.now c.run_prepared-outcome.new.server c.run_prepared-outcome.result c.tell.result may (c.run_prepared-outcome.ensures d may.at)
    c.tell.ensures)

pub returns-in_err-prepared : goal.returns-in_err-prepared
returns-in_err-prepared c =
    let p = err_from_is_err_and c.from_residual.result c.from_residual.ensures.1 in
    rw (p.1, p.2) (inl (crosses_not (cross_state c.args.self.now) c.args.server.now c.in_err-prepared.field-0.0))
