use Rattle.std.proofs.Common.{◌≡◌, ◌++◌, filter_map, length}
use Rattle.ak_filtered.specs.Emptyings.{away_id}
use Rattle.ak_filtered.proofs.emptyings.take_away.Given as goal

-- the ids so far, and those of the rows that are left, are those of all rows
abbrev pub invariant-loop-row : goal.invariant-loop-row
invariant-loop-row l = l.ids ++ filter_map (away_id l.fn.deck) l.rest ≡ l.fn.ids ++ filter_map (away_id l.fn.deck) l.rows

abbrev pub decreases-loop-row : goal.decreases-loop-row
decreases-loop-row l = length l.rest
