use Rattle.std.proofs.Common.{length, map}
use Rattle.std.specs.List.Sorted.{IsStrictlySortedBy}
use Rattle.ak_base.specs.Names.{name_cmp}
use Rattle.ak_base.specs.Rows.{name_of}
use Rattle.ak_journal_rows.proofs.Walks.{SameFrom}
use Rattle.ak_journal_rows.proofs.apart.rows_from.Given as goal

-- those that are left ascend, and have the same rows of the names from this one on
abbrev pub invariant-loop-row : goal.invariant-loop-row
invariant-loop-row l =
    record {
      ascend : IsStrictlySortedBy name_cmp (map name_of l.rest);
      same : SameFrom l.name l.rest l.rows;
    }

abbrev pub decreases-loop-row : goal.decreases-loop-row
decreases-loop-row l = length l.rest
