use Rattle.std.proofs.Common.{◌≡◌, ◌++◌, filter_map, length}
use Rattle.ak_keep.specs.Lookups.{as_deck}
use Rattle.ak_keep.proofs.decks.take_rows.Given as goal

-- the decks so far, and those of the rows that are left, are those of all rows
abbrev pub invariant-loop-row : goal.invariant-loop-row
invariant-loop-row l = l.decks ++ filter_map as_deck l.rest ≡ l.fn.decks ++ filter_map as_deck l.rows

abbrev pub decreases-loop-row : goal.decreases-loop-row
decreases-loop-row l = length l.rest
