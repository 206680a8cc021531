use Rattle.std.proofs.Common.{◌≡◌, ◌++◌, drop}
use Rattle.ak_faults.specs.Causes.{GoesOn}
use Rattle.ak_keep.specs.Keepers.{WhereTold}
use Rattle.ak_notes.specs.LackingNotes.{held_ords}
use Rattle.ak_notes.proofs.lacking_notes.held_ords.Given as goal

-- with those of the other cards, the ords so far are all
abbrev pub invariant-loop-id : goal.invariant-loop-id
invariant-loop-id g l = record {
  kept : g.R.Lookup.kept l.from ≡ g.R.Lookup.kept l.fn.from;
  same : g.R.Lookup.keeping l.from ≡ g.R.Lookup.keeping l.fn.from;
  told : WhereTold (g.R.Lookup.keeping l.fn.from) (λ h. l.ords ++ held_ords h.rows (drop l.id-index l.ids) ≡ held_ords h.rows l.ids);
  goes : GoesOn (g.R.Lookup.health l.fn.from) (g.R.Lookup.health l.from);
}
