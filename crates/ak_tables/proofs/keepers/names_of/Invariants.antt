use Rattle.std.proofs.Common.{◌≡◌, ◌++◌, drop, map}
use Rattle.ak_base.specs.Rows.{name_of}
use Rattle.ak_tables.proofs.keepers.names_of.Given as goal

-- the names so far, and then those of the rows that are left
abbrev pub invariant-loop-row : goal.invariant-loop-row
invariant-loop-row l = l.names ++ map name_of (drop l.row-index l.rows) ≡ map name_of l.rows
