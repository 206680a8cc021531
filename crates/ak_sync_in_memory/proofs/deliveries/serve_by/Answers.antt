use Rattle.std.proofs.Common.{w64, SFits}
use Rattle.std.proofs.lemmas.Int.{to_z-of_z}
use Rattle.ak_sync_in_memory.proofs.InARow.{reply_lost}
use Rattle.ak_sync_in_memory.proofs.deliveries.serve_by.Goals as goal

pub returns-in-Ok : goal.returns-in-Ok
returns-in-Ok c =
    let fits : SFits w64 c.args.now = c.ranges.now in
    reply_lost c.args.server.now c.serve_in_a_row.new.server c.args.request.now c.args.now c.in-Ok.field-0 c.args.fate.loses_request c.args.fate.loses_reply
    c.args.fate.repeats c.if-fate.false c.if-fate-2.true (rw (to_z-of_z w64 c.args.now fits) at c.in-Ok.ensures.ok)
