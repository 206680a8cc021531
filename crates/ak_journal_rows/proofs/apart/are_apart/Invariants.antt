use Rattle.std.proofs.Common.{length, map}
use Rattle.std.specs.List.Sorted.{IsStrictlySortedBy}
use Rattle.ak_base.specs.Names.{name_cmp}
use Rattle.ak_base.specs.Rows.{name_of}
use Rattle.ak_journal_rows.proofs.Walks.{Decide}
use Rattle.ak_journal_rows.proofs.apart.are_apart.Given as goal

-- both ascend, and what is left decides
abbrev pub invariant-loop-name : goal.invariant-loop-name
invariant-loop-name l =
    record {
      names : IsStrictlySortedBy name_cmp l.names;
      rows : IsStrictlySortedBy name_cmp (map name_of l.rows);
      left : Decide l.rows l.names l.put l.cut;
    }

abbrev pub decreases-loop-name : goal.decreases-loop-name
decreases-loop-name l = length l.names
