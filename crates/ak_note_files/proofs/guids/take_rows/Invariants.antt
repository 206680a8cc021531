use Rattle.std.proofs.Common.{◌≡◌, ◌++◌, filter_map, length}
use Rattle.ak_note_files.specs.Rules.{guid_of_other}
use Rattle.ak_note_files.proofs.guids.take_rows.Given as goal

-- the guids so far, and those of the rows that are left, are those of all rows
abbrev pub invariant-loop-row : goal.invariant-loop-row
invariant-loop-row l =
    l.guids ++ filter_map (guid_of_other l.fn.own) l.rest ≡ l.fn.guids ++ filter_map (guid_of_other l.fn.own) l.rows

abbrev pub decreases-loop-row : goal.decreases-loop-row
decreases-loop-row l = length l.rest
