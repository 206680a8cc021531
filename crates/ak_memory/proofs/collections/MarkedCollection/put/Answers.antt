use Rattle.std.proofs.Common.{sym, subst}
use Rattle.ak_keep.specs.Collections.{Rows}
use Rattle.ak_keep.proofs.Forming.{formed-with_row}
use Rattle.ak_memory.specs.Collections.{IsFormed, with_mark}
use Rattle.ak_memory.specs.Versions.{Versions}
use Rattle.ak_memory.proofs.collections.MarkedCollection.put.Goals as goal

pub invariant_of-self-2 : goal.invariant_of-self-2
invariant_of-self-2 c =
    subst (λ (rows : Versions Rows). IsFormed (with_mark rows c.self.inside.head c.self.inside.aside c.self.inside.marked)) (sym c.in_ok-put.ensures.ok)
    (record { current = formed-with_row c.args.row (record { rows = c.self.inside.rows.current; head = c.self.inside.head.current }) c.requires c.self.invariant.current; mark = c.self.invariant.mark })
