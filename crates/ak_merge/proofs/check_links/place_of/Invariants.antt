use Rattle.std.proofs.Common.{◌≤◌, ◌-◌, length}
use Rattle.ak_merge.proofs.check_links.place_of.Given as goal

-- it is looked for inside of the list
abbrev pub invariant-loop-low : goal.invariant-loop-low
invariant-loop-low l = l.high ≤ length l.links

abbrev pub decreases-loop-low : goal.decreases-loop-low
decreases-loop-low l = l.high - l.low
