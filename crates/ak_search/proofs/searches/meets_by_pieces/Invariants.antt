use Rattle.std.proofs.Common.{◌≡◌, length}
use Rattle.ak_faults.specs.Causes.{GoesOn}
use Rattle.ak_keep.specs.Keepers.{WhereTold}
use Rattle.ak_search.specs.Grammar.{pieces_in}
use Rattle.ak_search.specs.Passes.{Stays, asked, evaluated_from, tested}
use Rattle.ak_search.proofs.searches.meets_by_pieces.Given as goal

-- the pieces that are left decide
abbrev pub invariant-loop-token : goal.invariant-loop-token
invariant-loop-token g l = record {
  kept : g.R.Lookup.kept l.from ≡ g.R.Lookup.kept l.fn.from;
  same : g.R.Lookup.keeping l.from ≡ g.R.Lookup.keeping l.fn.from;
  goes : GoesOn (g.R.Lookup.health l.fn.from) (g.R.Lookup.health l.from);
  told : WhereTold (g.R.Lookup.keeping l.fn.from) (λ c. Stays l.fn.latest l.latest c.rows (evaluated_from l.evaluator (tested l.context c.rows l.card) (pieces_in l.rest) ≡ asked (pieces_in l.tokens) (tested l.context c.rows l.card)));
}

abbrev pub decreases-loop-token : goal.decreases-loop-token
decreases-loop-token g l = length l.rest
