use Rattle.std.proofs.Common.{rules, w64, SFits}
use Rattle.std.proofs.lemmas.Int.{to_z-of_z}
use Rattle.ak_sync_rows.proofs.Parted.{if_ok}
use Rattle.ak_session.specs.Messages.{chunk_rows}
use Rattle.ak_server_steps.proofs.Receiving.{rows_received}
use Rattle.ak_server_steps.proofs.answers.apply_chunk.Goals as goal

pub returns-clause-ok : goal.returns-clause-ok
returns-clause-ok g c =
    let usn : SFits w64 c.args.numbers.usn = search rules in
    if_ok c.take_chunk_rows.result _ _
    (rows_received c.args.numbers (chunk_rows c.args.chunk.now) (g.K.Lookup.keeping c.args.keeper.now) (g.K.Lookup.keeping c.take_chunk_rows.new.keeper) c.requires.held.told)
    (rw (to_z-of_z w64 c.args.numbers.usn usn) at c.take_chunk_rows.ensures.ok)
