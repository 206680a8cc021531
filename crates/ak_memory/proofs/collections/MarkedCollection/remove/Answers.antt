use Rattle.std.proofs.Common.{sym, subst}
use Rattle.ak_keep.specs.Collections.{Rows}
use Rattle.ak_keep.proofs.Forming.{formed-without}
use Rattle.ak_memory.specs.Collections.{IsFormed, with_mark}
use Rattle.ak_memory.specs.Versions.{Versions}
use Rattle.ak_memory.proofs.collections.MarkedCollection.remove.Goals as goal

pub invariant_of-self : goal.invariant_of-self
invariant_of-self c =
    subst (λ (rows : Versions Rows). IsFormed (with_mark rows c.self.inside.head c.self.inside.aside c.self.inside.marked)) (sym c.remove.ensures)
    (record { current = formed-without c.args.name (record { rows = c.self.inside.rows.current; head = c.self.inside.head.current }) c.self.invariant.current; mark = c.self.invariant.mark })
