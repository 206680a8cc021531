use Rattle.std.proofs.Common.{w64, of_z, to_z}
use Rattle.ak_keep.proofs.Forming.{checked-page}
use Rattle.ak_memory.proofs.collections.MarkedCollection.page.Goals as goal

pub returns-clause-checked : goal.returns-clause-checked
returns-clause-checked c = checked-page (record { rows = c.self.inside.rows.current; head = c.self.inside.head.current }) c.args.table (to_z w64 (of_z w64 c.args.past)) c.args.limit c.in_ok-page.page c.self.invariant.current c.in_ok-page.ensures.page.rows
