use Rattle.std.proofs.Common.{Option, None, false, sym, subst}
use Rattle.std.specs.FinMap.{empty}
use Rattle.ak_base.specs.declared.heads.Head.{Head}
use Rattle.ak_keep.specs.Collections.{Rows}
use Rattle.ak_keep.proofs.Forming.{formed-empty}
use Rattle.ak_memory.specs.Collections.{IsFormed, with_mark}
use Rattle.ak_memory.specs.Versions.{Versions, both}
use Rattle.ak_memory.proofs.collections.MarkedCollection.empty.Goals as goal

pub invariant_of-result : goal.invariant_of-result
invariant_of-result c =
    subst (λ (rows : Versions Rows). IsFormed (with_mark rows c.none.result None false)) (sym c.new.ensures)
    (subst (λ (head : Versions (Option Head)). IsFormed (with_mark (both empty) head None false)) (sym c.none.ensures) (record { current = formed-empty; mark = tt }))
