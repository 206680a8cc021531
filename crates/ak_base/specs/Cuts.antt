-- Where a text is cut: at the first place at which a separator stands in it.
use Rattle.std.specs.Prelude.{ℕ, Bool, true, false, ◌&&◌, ◌||◌, ◌==◌, if◌then◌else◌, List, [], ◌∷◌, length, drop}

-- whether the bytes begin with the separator
abbrev pub begins : List ℕ → List ℕ → Bool
begins [] bytes = true
begins (first ∷ separator) [] = false
begins (first ∷ separator) (byte ∷ bytes) = (first == byte) && begins separator bytes

-- whether the separator stands anywhere in the bytes
abbrev pub has : List ℕ → List ℕ → Bool
has separator [] = false
has separator (byte ∷ bytes) = begins separator (byte ∷ bytes) || has separator bytes

-- what comes before the first such place: all, if there is none
abbrev pub front : List ℕ → List ℕ → List ℕ
front separator [] = []
front separator (byte ∷ bytes) = if begins separator (byte ∷ bytes) then [] else byte ∷ front separator bytes

-- what comes after the separator there: nothing, if there is none
abbrev pub behind : List ℕ → List ℕ → List ℕ
behind separator [] = []
behind separator (byte ∷ bytes) =
    if begins separator (byte ∷ bytes) then drop (length separator) (byte ∷ bytes) else behind separator bytes
