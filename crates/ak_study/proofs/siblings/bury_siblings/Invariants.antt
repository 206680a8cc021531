use Rattle.std.proofs.Common.{◌≡◌, drop}
use Rattle.std.specs.FinMap.{get}
use Rattle.ak_faults.specs.Causes.{GoesOn}
use Rattle.ak_keep.specs.Keepers.{WhereTold}
use Rattle.ak_study.specs.Siblings.{put_siblings}
use Rattle.ak_study.proofs.siblings.bury_siblings.Given as goal

-- what the rest makes of the changes so far is what all make of those at first
abbrev pub invariant-loop-id : goal.invariant-loop-id
invariant-loop-id g l = record {
  kept : g.R.Lookup.kept l.from ≡ g.R.Lookup.kept l.fn.from;
  same : g.R.Lookup.keeping l.from ≡ g.R.Lookup.keeping l.fn.from;
  put : WhereTold (g.R.Lookup.keeping l.fn.from) (λ h. put_siblings (get h.rows) (drop l.id-index l.ids) l.change ≡ put_siblings (get h.rows) l.ids l.fn.change);
  goes : GoesOn (g.R.Lookup.health l.fn.from) (g.R.Lookup.health l.from);
}
