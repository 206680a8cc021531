use Rattle.std.proofs.Common.{◌≡◌, ◌++◌, length}
use Rattle.ak_faults.specs.Causes.{GoesOn}
use Rattle.ak_keep.specs.Keepers.{WhereTold}
use Rattle.ak_queue.specs.Limits.{all_limits}
use Rattle.ak_queue.proofs.limits.read_limits.Given as goal

-- the limits so far, and those of the decks that are left, are all
abbrev pub invariant-loop-deck : goal.invariant-loop-deck
invariant-loop-deck g l = record {
  kept : g.R.Lookup.kept l.from ≡ g.R.Lookup.kept l.fn.from;
  same : g.R.Lookup.keeping l.from ≡ g.R.Lookup.keeping l.fn.from;
  goes : GoesOn (g.R.Lookup.health l.fn.from) (g.R.Lookup.health l.from);
  found : WhereTold (g.R.Lookup.keeping l.fn.from) (λ h. l.limits ++ all_limits h.rows l.scope.day l.scope.root l.rest ≡ all_limits h.rows l.scope.day l.scope.root l.decks);
}

abbrev pub decreases-loop-deck : goal.decreases-loop-deck
decreases-loop-deck g l = length l.rest
