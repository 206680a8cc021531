use Rattle.std.proofs.Common.{◌≡◌, ◌∷◌, ◌+◌, length}
use Rattle.ak_search.specs.Patterns.{fits}
use Rattle.ak_search.specs.declared.patterns.PatternItem.TheVariants.{Any}
use Rattle.ak_search.proofs.matching.fits_somewhere.Given as goal

-- what is left decides
abbrev pub invariant-tries : goal.invariant-tries
invariant-tries l = fits (Any ∷ l.items) l.rest ≡ fits (Any ∷ l.pattern) l.letters

abbrev pub decreases-tries : goal.decreases-tries
decreases-tries l = length l.items + length l.rest
