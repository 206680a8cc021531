-- What the readers of fields have found so far.
use Rattle.std.proofs.Common.{ℕ, List, ◌∷◌, Option, Some, None}

-- a value that was found, and then the others
abbrev pub listed : Option (List ℕ) → List (List ℕ) → List (List ℕ)
listed None values = values
listed (Some value) values = value ∷ values
