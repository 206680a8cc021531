-- What a program that takes commands line by line prints.
use Rattle.std.specs.Prelude.{◌≡◌, ℕ, List, [], ◌∷◌, ◌++◌, Option, codes}
use Rattle.std.specs.Fmt.{decimal}
use Rattle.std.specs.Io.KnownBytes.{Appends}
use Rattle.std.specs.List.{flat_map}

-- lines as they are written, each with its line feed
abbrev pub written_lines : List (List ℕ) → List ℕ
written_lines lines = flat_map (λ line. line ++ 10 ∷ []) lines

-- `line <number>: <text>`
abbrev pub refusal_line : ℕ × List ℕ → List ℕ
refusal_line refusal = codes "line " ++ decimal refusal.0 ++ codes ": " ++ refusal.1

-- the bytes that tell why the line of this number is refused
abbrev pub refusal_bytes : ℕ → List ℕ → List ℕ
refusal_bytes number text = written_lines (refusal_line (number, text) ∷ [])

-- known bytes grow by a front of the bytes
abbrev pub AppendsPart : Option (List ℕ) → Option (List ℕ) → List ℕ → Type 0
AppendsPart old new bytes = (front : List ℕ) × (rest : List ℕ) × (bytes ≡ front ++ rest) × Appends old new front

-- of the bytes that are to be written in all, the rest is still to come
abbrev pub Reached : Option (List ℕ) → Option (List ℕ) → List ℕ → List ℕ → Type 0
Reached old now whole rest = (front : List ℕ) × (whole ≡ front ++ rest) × Appends old now front
