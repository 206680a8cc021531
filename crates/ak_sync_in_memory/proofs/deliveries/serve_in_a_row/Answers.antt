use Rattle.std.proofs.Common.{w64, SFits}
use Rattle.std.proofs.lemmas.Int.{to_z-of_z}
use Rattle.ak_sync_in_memory.proofs.InARow.{twice_served}
use Rattle.ak_sync_in_memory.proofs.deliveries.serve_in_a_row.Goals as goal

pub returns-clause-ok : goal.returns-clause-ok
returns-clause-ok c =
    let fits : SFits w64 c.args.now = c.ranges.now in
    twice_served c.args.server.now c.serve.new.self c.serve-2.new.self c.args.request.now c.args.now c.in_ok-first.first c.args.repeats c.serve-2.result c.if-not-repeats.false
    (rw (to_z-of_z w64 c.args.now fits) at c.in_ok-first.ensures.ok) (rw (to_z-of_z w64 c.args.now fits) at c.serve-2.ensures.ok)
