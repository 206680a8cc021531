use Rattle.std.proofs.Common.{◌≡◌, drop, find}
use Rattle.ak_faults.specs.Causes.{GoesOn}
use Rattle.ak_keep.specs.Keepers.{WhereTold}
use Rattle.std.specs.List.{All}
use Rattle.ak_merge.specs.CheckLinks.{IsGoodIn, bad_link}
use Rattle.ak_merge.specs.Soundness.{table_of}
use Rattle.ak_merge.proofs.checks.bad_among.Given as goal

-- the rows that were passed are not bad
abbrev pub invariant-loop-link : goal.invariant-loop-link
invariant-loop-link g l = record {
  first : WhereTold (g.L.Lookup.keeping l.fn.from) (λ h. All (IsGoodIn (table_of l.part) h.rows) l.links → find (bad_link l.part h.rows) (drop l.link-index l.links) ≡ find (bad_link l.part h.rows) l.links);
  kept : g.L.Lookup.kept l.from ≡ g.L.Lookup.kept l.fn.from;
  same : g.L.Lookup.keeping l.from ≡ g.L.Lookup.keeping l.fn.from;
  goes : GoesOn (g.L.Lookup.health l.fn.from) (g.L.Lookup.health l.from);
}
