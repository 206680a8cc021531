use Rattle.std.proofs.Common.{sym, w64}
use Rattle.std.proofs.lemmas.Int.{to_z-of_z}
use Rattle.ak_lab_devices.proofs.InTime.{clock_moment}
use Rattle.ak_lab_wires.proofs.Serving.{serves_again}
use Rattle.ak_lab_wires.proofs.replayed_requests.replay.Goals as goal

pub serve_with_line-requires : goal.serve_with_line-requires
serve_with_line-requires c = record { clock = clock_moment _ (sym c.if-not-is_clock_moment.ensures) }

pub returns : goal.returns
returns c =
    serves_again c.args.again.from c.args.again.count c.args.again.line c.args.at c.args.server.now c.serve_with_line.new.server c.serve_with_line.result
    c.entries.result.now c.in_ok-requests.requests c.entries.ensures c.in_ok-requests.ensures
    (clock_moment c.args.at (rw (to_z-of_z w64 c.args.at c.ranges.at) at (sym c.if-not-is_clock_moment.ensures)))
    (rw (to_z-of_z w64 c.args.at c.ranges.at, c.as_slice.ensures) at c.serve_with_line.ensures)
