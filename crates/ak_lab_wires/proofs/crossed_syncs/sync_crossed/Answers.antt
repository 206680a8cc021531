use Rattle.std.proofs.Common.{ℕ, refl, sym, ap, subst, ◌∙◌, w64}
use Rattle.std.proofs.lemmas.Int.{to_z-of_z}
use Rattle.ak_io.specs.Arrivals.{IsClockMoment}
use Rattle.ak_lab_devices.proofs.InTime.{moment_fits}
use Rattle.ak_lab_wires.proofs.Crossing.{crossed_so}
use Rattle.ak_lab_wires.specs.Servings.{with_line}
use Rattle.ak_lab_wires.specs.declared.replayed_requests.Replays.{Replays}
use Rattle.ak_lab_wires.proofs.crossed_syncs.sync_crossed.Goals as goal

pub new-wire-requires : goal.new-wire-requires
new-wire-requires c = record { clock = subst IsClockMoment (sym (to_z-of_z w64 c.args.turn.at (moment_fits c.args.turn.at c.requires.clock))) c.requires.clock }

pub returns : goal.returns
returns c =
    let at = to_z-of_z w64 c.args.turn.at (moment_fits c.args.turn.at c.requires.clock) in
    let ran = c.run_over-back in
    let replays : Replays = record { at = c.args.turn.at; acts = c.take_plan-mishaps.result.1 } in
    crossed_so c.args.turn.line c.args.turn.key c.args.turn.at c.args.prepared.clock c.args.device.now c.take_plan-mishaps.new.device ran.new.device c.args.prepared.left
    c.take_plan-mishaps.result.0 replays ran.result.1 c.args.server.now c.at_line.new.self ran.result.0 ran.result.0 c.at_line-2.new.self ran.result.2
    c.at_line.ensures c.take_plan-mishaps.ensures.left c.requires.left c.take_plan-mishaps.ensures.mishaps refl c.take_plan-mishaps.ensures.planned
    (rw (c.new-wire.ensures.server, c.new-wire.ensures.moment, c.new-wire.ensures.mishaps, c.new-wire.ensures.between, c.replace-lent.ensures.value, at) at ran.ensures)
    refl (c.at_line-2.ensures ∙ ap (λ (n : ℕ). with_line n ran.result.0) c.line-was.ensures)
