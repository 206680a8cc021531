use Rattle.std.proofs.Common.{◌≡◌, pos, false}
use Rattle.ak_faults.specs.Causes.{GoesOn}
use Rattle.ak_keep.specs.Keepers.{WhereTold}
use Rattle.ak_keep.specs.Walks.{most_pages}
use Rattle.ak_keep.proofs.Collecting.{Finds}
use Rattle.ak_merge.specs.CheckLinks.{link_of}
use Rattle.ak_merge.proofs.check_links.links_in.Given as goal

-- the links so far, and those ahead, are all
abbrev pub invariant-pages : goal.invariant-pages
invariant-pages g l = record {
  kept : g.R.Lookup.kept l.from ≡ g.R.Lookup.kept l.fn.from;
  same : g.R.Lookup.keeping l.from ≡ g.R.Lookup.keeping l.fn.from;
  goes : GoesOn (g.R.Lookup.health l.fn.from) (g.R.Lookup.health l.from);
  found : WhereTold (g.R.Lookup.keeping l.fn.from) (Finds link_of l.links (record { past = record { table = l.fn.table; id = pos 0 }; done = false }) l.walk);
}

abbrev pub decreases-pages : goal.decreases-pages
decreases-pages g l = most_pages l.walk
