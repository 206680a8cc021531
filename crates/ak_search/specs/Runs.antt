-- How a pattern is matched run by run: the items up to an `Any` each take one character.
use Rattle.std.specs.Prelude.{◌≡◌, ℕ, ◌+◌, ◌<◌, if◌then◌else◌, List, [], ◌∷◌, length, Option, Some, None}
use Rattle.std.specs.Option.{option_and_then}
use Rattle.ak_search.specs.declared.matching.Tried.{Tried}
use Rattle.ak_search.specs.declared.matching.Tried.TheVariants.{Done, Next}
use Rattle.ak_search.specs.declared.patterns.PatternItem.{PatternItem}
use Rattle.ak_search.specs.declared.patterns.PatternItem.TheVariants.{Any}
use Rattle.ak_search.specs.Patterns.{fits, is_any, takes}

-- what is behind the first character, if the item stands for it
abbrev pub behind_letter : PatternItem → List ℕ → Option (List ℕ)
behind_letter item [] = None
behind_letter item (letter ∷ letters) = if takes item letter then Some letters else None

-- what is left of a pattern and of the characters, once each item up to the first `Any` took one of them
abbrev pub run_behind : List PatternItem → List ℕ → Option (List PatternItem × List ℕ)
run_behind [] letters = Some ([], letters)
run_behind (item ∷ pattern) letters = if is_any item then Some (item ∷ pattern, letters) else option_and_then (run_behind pattern) (behind_letter item letters)

-- what a try of items behind an `Any` comes to: whether they fit, or what decides it, which is less
abbrev pub IsTried : List PatternItem → List ℕ → Tried → Type 0
IsTried items letters (Done does) = does ≡ fits (Any ∷ items) letters
IsTried items letters (Next others left) = (fits (Any ∷ items) letters ≡ fits (Any ∷ others.now) left.now) × (length others.now + length left.now < length items + length letters)
