use Rattle.std.proofs.Common.{◌≡◌, ◌++◌}
use Rattle.std.specs.List.{All}
use Rattle.ak_journal_rows.specs.Changes.{HasWordId}
use Rattle.ak_journal_changes.proofs.touched.listed.Given as goal

-- the names so far and those that are left are all
abbrev pub invariant-loop-name : goal.invariant-loop-name
invariant-loop-name l =
    record {
      names : l.made ++ l.name-iterator ≡ l.set.keys;
      ids : All HasWordId l.made;
    }
