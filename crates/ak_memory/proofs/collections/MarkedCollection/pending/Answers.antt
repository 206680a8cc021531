use Rattle.std.proofs.Common.{w64, of_z, to_z}
use Rattle.ak_keep.proofs.Forming.{checked-wanted}
use Rattle.ak_memory.proofs.collections.MarkedCollection.pending.Goals as goal

pub returns-clause-checked : goal.returns-clause-checked
returns-clause-checked c = checked-wanted (record { rows = c.self.inside.rows.current; head = c.self.inside.head.current }) c.args.table c.args.want (to_z w64 (of_z w64 c.args.past)) c.args.limit c.in_ok-page.page c.self.invariant.current c.in_ok-page.ensures.page.rows
