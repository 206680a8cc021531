use Rattle.std.proofs.Common.{◌≡◌}
use Rattle.std.specs.List.{All}
use Rattle.ak_base.specs.Rows.{IsChecked}
use Rattle.ak_journal_folds.specs.Folds.{IsReady, with_put}
use Rattle.ak_journal_folds.proofs.applied.put_each.Given as goal

-- what is held with the rows that are left is what was held with all
abbrev pub invariant-loop-row : goal.invariant-loop-row
invariant-loop-row l =
    record {
      ready : IsReady l.keeper;
      checked : All IsChecked l.row-iterator.rest.items;
      made : with_put l.row-iterator.rest.items l.keeper.kept.current ≡ with_put l.fn.rows l.initial.keeper.kept.current;
    }
