use Rattle.std.proofs.Common.{◌≡◌, ◌++◌, map}
use Rattle.ak_faults.specs.Causes.{GoesOn}
use Rattle.ak_keep.specs.Keepers.{WhereTold}
use Rattle.ak_keep.specs.Walks.{ahead, most_pages}
use Rattle.ak_lab_devices.specs.Shows.{row_text, table_lines}
use Rattle.ak_lab_devices.proofs.tables.add_table.Given as goal

-- with the rows that are ahead, the texts so far are those of before and all of the table
abbrev pub invariant-pages : goal.invariant-pages
invariant-pages g l = record {
  all : WhereTold (g.R.Lookup.keeping l.fn.from) (λ h. l.texts ++ map row_text (ahead l.walk h.rows) ≡ l.fn.texts ++ table_lines l.fn.table h.rows);
  kept : g.R.Lookup.kept l.from ≡ g.R.Lookup.kept l.fn.from;
  same : g.R.Lookup.keeping l.from ≡ g.R.Lookup.keeping l.fn.from;
  goes : GoesOn (g.R.Lookup.health l.fn.from) (g.R.Lookup.health l.from);
}

abbrev pub decreases-pages : goal.decreases-pages
decreases-pages g l = most_pages l.walk
