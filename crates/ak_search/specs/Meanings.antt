-- What a search asks of a card, by what its terms do.
use Rattle.std.specs.Prelude.{Bool, true, false, not, ◌&&◌, ◌||◌, if◌then◌else◌, List, [], ◌∷◌}
use Rattle.std.specs.List.{list_any, list_all}
use Rattle.ak_search.specs.declared.terms.Term.{Term}
use Rattle.ak_search.specs.declared.tokens.Piece.{Piece}
use Rattle.ak_search.specs.declared.tokens.Piece.TheVariants.{Test, BadValue, Open, Close, Or, And, OpenQuote}
use Rattle.ak_search.specs.declared.evaluator.Group.{Group as Outer}
use Rattle.ak_search.specs.Trees.{Tree, End, Asks, Group, Either, Also}

-- whether a term or group is met, which may be negated
abbrev pub negated_by : Bool → Bool → Bool
negated_by negated holds = if negated then not holds else holds

-- whether all parts of some alternative hold
abbrev pub some_holds : List (List Bool) → Bool
some_holds alternatives = list_any (list_all (λ part. part)) alternatives

-- a part more at the front of the first alternative
abbrev pub with_part : Bool → List (List Bool) → List (List Bool)
with_part part [] = []
with_part part (first ∷ others) = (part ∷ first) ∷ others

-- the alternatives of a tree: each has the parts between two `or`, which stand side by side or with `and` between; of each part whether it holds
abbrev pub alternatives : (Term → Bool) → Tree → List (List Bool)
alternatives holds End = [] ∷ []
alternatives holds (Asks negated term after) = with_part (negated_by negated (holds term)) (alternatives holds after)
alternatives holds (Group negated inside after) = with_part (negated_by negated (some_holds (alternatives holds inside))) (alternatives holds after)
alternatives holds (Either after) = [] ∷ alternatives holds after
alternatives holds (Also after) = alternatives holds after

-- whether a card for which these terms hold meets the tree. Every card meets the empty one
abbrev pub meets : (Term → Bool) → Tree → Bool
meets holds tree = some_holds (alternatives holds tree)

-- ---- trees made of others

-- the other in place of the end
abbrev pub followed : Tree → Tree → Tree
followed End other = other
followed (Asks negated term after) other = Asks negated term (followed after other)
followed (Group negated inside after) other = Group negated inside (followed after other)
followed (Either after) other = Either (followed after other)
followed (Also after) other = Also (followed after other)

-- whether no `or` stands outside its groups
abbrev pub has_no_or : Tree → Bool
has_no_or End = true
has_no_or (Asks negated term after) = has_no_or after
has_no_or (Group negated inside after) = has_no_or after
has_no_or (Either after) = false
has_no_or (Also after) = has_no_or after

-- whether a card meets pieces, walked through from front to back with the groups that are open, the innermost first
abbrev pub walk : (Term → Bool) → List Outer → Bool → Bool → List Piece → Bool
walk holds outer either all [] = either || all
walk holds outer either all (Test negated term ∷ ps) = walk holds outer either (all && negated_by negated (holds term)) ps
walk holds outer either all (Open negated ∷ ps) = walk holds (record { negated = negated; either = either; all = all } ∷ outer) false true ps
walk holds [] either all (Close ∷ ps) = walk holds [] either all ps
walk holds (group ∷ outer) either all (Close ∷ ps) = walk holds outer group.either (group.all && negated_by group.negated (either || all)) ps
walk holds outer either all (Or ∷ ps) = walk holds outer (either || all) true ps
walk holds outer either all (And ∷ ps) = walk holds outer either all ps
walk holds outer either all (BadValue ∷ ps) = walk holds outer either all ps
walk holds outer either all (OpenQuote ∷ ps) = walk holds outer either all ps
