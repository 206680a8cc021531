use Rattle.std.proofs.Common.{◌≡◌, ◌++◌, filter_map, length}
use Rattle.ak_merge.specs.CheckLinks.{link_of}
use Rattle.ak_merge.proofs.check_links.take_links.Given as goal

-- the links so far, and those of the rows that are left, are those of all rows
abbrev pub invariant-loop-row : goal.invariant-loop-row
invariant-loop-row l = l.links ++ filter_map link_of l.rest ≡ l.fn.links ++ filter_map link_of l.rows

abbrev pub decreases-loop-row : goal.decreases-loop-row
decreases-loop-row l = length l.rest
