use Rattle.std.proofs.Common.{◌≡◌, length}
use Rattle.ak_faults.specs.Causes.{GoesOn}
use Rattle.ak_filtered.proofs.SendingEach.{SendsOn}
use Rattle.ak_keep.specs.Keepers.{WhereTold}
use Rattle.ak_filtered.proofs.home_decks.put_home_each.Given as goal

-- what the cards that are left make of the changes so far is what all make of those at first, and so with whether one was away
abbrev pub invariant-loop-id : goal.invariant-loop-id
invariant-loop-id g l = record {
  kept : g.R.Lookup.kept l.from ≡ g.R.Lookup.kept l.fn.from;
  same : g.R.Lookup.keeping l.from ≡ g.R.Lookup.keeping l.fn.from;
  goes : GoesOn (g.R.Lookup.health l.fn.from) (g.R.Lookup.health l.from);
  sent : WhereTold (g.R.Lookup.keeping l.fn.from) (λ h. SendsOn l.decks h.rows l.cards l.fn.change l.went l.rest l.change);
}

abbrev pub decreases-loop-id : goal.decreases-loop-id
decreases-loop-id g l = length l.rest
