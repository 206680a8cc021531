use Rattle.std.proofs.Common.{◌≡◌, ◌++◌, pos}
use Rattle.std.specs.List.{All}
use Rattle.ak_base.specs.Rows.{IsChecked}
use Rattle.ak_faults.specs.Causes.{GoesOn}
use Rattle.ak_keep.specs.Collections.{wanted_past}
use Rattle.ak_keep.specs.Keepers.{WhereTold}
use Rattle.ak_sync_rows.specs.Walks.{ahead, most_pages}
use Rattle.ak_sync_rows.proofs.walks.rows_from.Given as goal

-- the rows so far and those that are ahead are all of them
abbrev pub invariant-pages : goal.invariant-pages
invariant-pages g l = record {
  all : WhereTold (g.K.Lookup.keeping l.fn.from) (λ h. l.rows.items ++ ahead l.walk h.rows ≡ wanted_past l.fn.table l.fn.want (pos 0) h.rows);
  checked : All IsChecked l.rows.items;
  kept : g.K.Lookup.kept l.from ≡ g.K.Lookup.kept l.fn.from;
  same : g.K.Lookup.keeping l.from ≡ g.K.Lookup.keeping l.fn.from;
  goes : GoesOn (g.K.Lookup.health l.fn.from) (g.K.Lookup.health l.from);
}

abbrev pub decreases-pages : goal.decreases-pages
decreases-pages g l = most_pages l.walk
