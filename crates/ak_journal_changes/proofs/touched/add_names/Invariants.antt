use Rattle.std.proofs.Common.{◌≡◌, ◌||◌, drop}
use Rattle.ak_base.specs.declared.names.Name.{Name}
use Rattle.ak_tables.specs.Tables.{is_among}
use Rattle.ak_journal_changes.proofs.touched.add_names.Given as goal

-- the names so far and those that are left are all
abbrev pub invariant-loop-name : goal.invariant-loop-name
invariant-loop-name l =
    (name : Name) → (is_among l.set.keys name || is_among (drop l.name-index l.names) name) ≡ (is_among l.names name || is_among l.fn.set.keys name)
