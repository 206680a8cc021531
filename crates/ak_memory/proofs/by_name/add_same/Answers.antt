use Rattle.ak_memory.proofs.RowsUnder.{changed_added, full_added, rows_added}
use Rattle.ak_memory.proofs.by_name.add_same.Goals as goal

pub returns-clause-rows : goal.returns-clause-rows
returns-clause-rows c = rows_added c.args.name c.args.row c.args.places.now.entries _ c.in_ok-insert.ensures.updates.0

pub returns-clause-changed : goal.returns-clause-changed
returns-clause-changed c = changed_added c.args.name c.args.row c.args.places.now.entries _ c.in_ok-insert.ensures.updates.0

pub returns-clause-full : goal.returns-clause-full
returns-clause-full c = full_added c.args.name c.args.row c.args.places.now.entries _ c.in_ok-insert.ensures.updates.0
