use Rattle.std.proofs.Common.{sym, subst}
use Rattle.std.specs.List.Sorted.{IsStrictlySortedBy}
use Rattle.std.specs.Ordering.{int_cmp}
use Rattle.ak_keep.proofs.CardIds.{cards_of-sorted}
use Rattle.ak_memory.specs.Indexes.{rows_of}
use Rattle.ak_memory.specs.declared.versions.Version.TheVariants.{Now}
use Rattle.ak_memory.proofs.marked_rows.MarkedRows.cards_of.Goals as goal

pub returns-clause-ascend : goal.returns-clause-ascend
returns-clause-ascend c =
    subst (IsStrictlySortedBy int_cmp) (sym c.in_ok-ids.ensures) (cards_of-sorted _ (rows_of Now c.self.inside.indexed) c.self.invariant.current.named)
