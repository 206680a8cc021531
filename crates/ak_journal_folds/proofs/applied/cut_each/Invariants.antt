use Rattle.std.proofs.Common.{◌≡◌, drop}
use Rattle.ak_journal_folds.specs.Folds.{IsReady, with_cut}
use Rattle.ak_journal_folds.proofs.applied.cut_each.Given as goal

-- what is held without the rows of the names that are left is what was held without those of all
abbrev pub invariant-loop-name : goal.invariant-loop-name
invariant-loop-name l =
    record {
      ready : IsReady l.keeper;
      made : with_cut (drop l.name-index l.names) l.keeper.kept.current ≡ with_cut l.names l.initial.keeper.kept.current;
    }
