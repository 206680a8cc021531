use Rattle.std.proofs.Common.{◌≡◌, ◌++◌, filter, length}
use Rattle.ak_faults.specs.Causes.{GoesOn}
use Rattle.ak_keep.specs.Collections.{cards_of}
use Rattle.ak_keep.specs.Keepers.{WhereTold}
use Rattle.ak_queue.specs.Burials.{burial_of, is_sibling_buried}
use Rattle.ak_queue.proofs.PartLists.{AreOthers, TakesPart}
use Rattle.ak_queue.proofs.burials.bury_list.Given as goal

-- the cards so far, and those of the ids that are left, are all
abbrev pub invariant-loop-id : goal.invariant-loop-id
invariant-loop-id g l = record {
  kept : g.R.Lookup.kept l.from ≡ g.R.Lookup.kept l.fn.from;
  same : g.R.Lookup.keeping l.from ≡ g.R.Lookup.keeping l.fn.from;
  goes : GoesOn (g.R.Lookup.health l.fn.from) (g.R.Lookup.health l.from);
  rule : l.burial ≡ burial_of l.card l.options l.fn.day;
  found : WhereTold (g.R.Lookup.keeping l.fn.from) (λ h. l.buried ++ filter (is_sibling_buried l.burial h.rows) l.rest ≡ filter (is_sibling_buried l.burial h.rows) (cards_of l.card.nid h.rows));
  parts : TakesPart l.buried l.rest l.initial.rest;
  others : AreOthers l.card.id l.buried;
}

abbrev pub decreases-loop-id : goal.decreases-loop-id
decreases-loop-id g l = length l.rest
