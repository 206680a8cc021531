use Rattle.ak_keep.proofs.Forming.{checked-get}
use Rattle.ak_memory.proofs.collections.MarkedCollection.get.Goals as goal

pub returns-clause-checked : goal.returns-clause-checked
returns-clause-checked c = checked-get (record { rows = c.self.inside.rows.current; head = c.self.inside.head.current }) c.args.name c.in_ok-row.row c.self.invariant.current c.in_ok-row.ensures.row
