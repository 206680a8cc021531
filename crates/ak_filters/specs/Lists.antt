-- A page's list of filters, as their meanings.
use Rattle.std.specs.Prelude.{◌==◌, ℕ, Bool, false, ◌||◌, if◌then◌else◌, List, [], ◌∷◌}
use Rattle.std.specs.Cmp.Lexicographic.{pointwise}
use Rattle.ak_filters.specs.Meanings.{Meaning}

-- a filter of the list has the name
abbrev pub has_filter : List ℕ → List Meaning → Bool
has_filter name [] = false
has_filter name (filter ∷ filters) = pointwise ◌==◌ filter.name name || has_filter name filters

-- the list without the first filter of the name
abbrev pub without_filter : List ℕ → List Meaning → List Meaning
without_filter name [] = []
without_filter name (filter ∷ filters) = if pointwise ◌==◌ filter.name name then filters else filter ∷ without_filter name filters
