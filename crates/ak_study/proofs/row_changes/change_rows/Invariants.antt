use Rattle.std.proofs.Common.{◌≡◌, pos, false}
use Rattle.ak_faults.specs.Causes.{GoesOn}
use Rattle.ak_keep.specs.Keepers.{WhereTold}
use Rattle.ak_keep.specs.Walks.{most_pages}
use Rattle.ak_study.proofs.RowPages.{LeadsOn}
use Rattle.ak_study.proofs.row_changes.change_rows.Given as goal

-- the changes of the rows ahead lead to what those of all rows lead to
abbrev pub invariant-pages : goal.invariant-pages
invariant-pages g l = record {
  kept : g.R.Lookup.kept l.from ≡ g.R.Lookup.kept l.fn.from;
  same : g.R.Lookup.keeping l.from ≡ g.R.Lookup.keeping l.fn.from;
  goes : GoesOn (g.R.Lookup.health l.fn.from) (g.R.Lookup.health l.from);
  leads : WhereTold (g.R.Lookup.keeping l.fn.from) (LeadsOn (g.C.RowChange.change l.by) (record { past = record { table = l.fn.table; id = pos 0 }; done = false }) l.walk l.fn.change l.change);
}

abbrev pub decreases-pages : goal.decreases-pages
decreases-pages g l = most_pages l.walk
