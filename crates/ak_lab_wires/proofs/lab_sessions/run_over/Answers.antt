use Rattle.std.proofs.Common.{Some, refl}
use Rattle.ak_exchange.specs.declared.envelopes.Ids.{Ids}
use Rattle.ak_lab_wires.proofs.Running.{session_ran}
use Rattle.ak_sync_in_memory.specs.LoopWires.{inside_with}
use Rattle.ak_lab_wires.proofs.lab_sessions.run_over.Goals as goal

pub returns : goal.returns
returns g c =
    let ids : Ids = record { host = c.lab_key.result; session = record { 0 = c.args.turn.key } } in
    let wire = c.args.wire in
    let after = c.run_by_kind-outcome.new.wire in
    let ran = c.run_by_kind-outcome.ensures in
    session_ran g.B.Between.acts g.B.Between.idle c.args.turn.kind c.args.turn.key wire.moment c.args.turn.clock wire.mishaps c.args.device.now c.run_by_kind-outcome.new.device
    wire.between wire.server wire.counts (inside_with after.server after.between after.moment after.mishaps after.counts) ids (Some c.run_by_kind-outcome.new.clock)
    c.into_parts-server.result.1 c.into_parts-server.result.0 c.run_by_kind-outcome.result c.requires.unused (record { host = c.lab_key.ensures; session = refl })
    ran.ended ran.may ran.device ran.unfailed ran.lost ran.rest c.into_parts-server.ensures.server c.into_parts-server.ensures.between
