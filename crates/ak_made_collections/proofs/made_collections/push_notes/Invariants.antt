use Rattle.std.proofs.Common.{◌≡◌, ◌++◌}
use Rattle.std.specs.List.{AllByRecursion}
use Rattle.ak_base.specs.Rows.{IsChecked}
use Rattle.ak_made_collections.specs.MadeLists.{note_rows}
use Rattle.ak_made_collections.proofs.made_collections.push_notes.Given as goal

-- those so far are at the end, and pass their check
abbrev pub invariant-loop-number : goal.invariant-loop-number
invariant-loop-number l =
    (l.rows.items ≡ l.fn.rows.items ++ note_rows l.seed l.number) × AllByRecursion IsChecked (note_rows l.seed l.number)
