use Rattle.std.proofs.Common.{◌≡◌, ◌++◌, drop}
use Rattle.ak_journal_changes.specs.HeldNames.{names_free, rows_held}
use Rattle.ak_journal_changes.proofs.touched.add_each.Given as goal

-- those so far, and then those of the names that are left
abbrev pub invariant-loop-name : goal.invariant-loop-name
invariant-loop-name l =
    record {
      cut : l.cut ++ names_free l.rows.current (drop l.name-index l.names) ≡ l.fn.cut ++ names_free l.rows.current l.names;
      put : l.put ++ rows_held l.rows.current (drop l.name-index l.names) ≡ l.fn.put ++ rows_held l.rows.current l.names;
    }
