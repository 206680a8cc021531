use Rattle.std.proofs.Common.{◌≡◌, drop, find}
use Rattle.ak_faults.specs.Causes.{GoesOn}
use Rattle.ak_keep.specs.Keepers.{WhereTold}
use Rattle.ak_merge.specs.Conflicts.{has_conflict}
use Rattle.ak_merge.proofs.conflicts.conflict_among.Given as goal

-- the rows that were passed are in no doubt
abbrev pub invariant-loop-row : goal.invariant-loop-row
invariant-loop-row g l = record {
  first : WhereTold (g.L.Lookup.keeping l.fn.from) (λ h. find (has_conflict h.rows) (drop l.row-index l.among) ≡ find (has_conflict h.rows) l.among);
  kept : g.L.Lookup.kept l.from ≡ g.L.Lookup.kept l.fn.from;
  same : g.L.Lookup.keeping l.from ≡ g.L.Lookup.keeping l.fn.from;
  goes : GoesOn (g.L.Lookup.health l.fn.from) (g.L.Lookup.health l.from);
}
