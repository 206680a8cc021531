-- The path that a deck's name is, and a tag's: its parts stand between `::`, cut from the left.
use Rattle.std.specs.Prelude.{◌≡◌, ℕ, zero, suc, Bool, true, false, ◌&&◌, ◌==◌, if◌then◌else◌, List, [], ◌∷◌, ◌++◌, codes}
use Rattle.std.specs.Cmp.Lexicographic.{pointwise}
use Rattle.ak_base.specs.Cuts.{begins}

-- the parts of what is left of a path, of whose next part these bytes were read. The number says how many bytes of a `::` are
-- still to come
abbrev pub parts_from : ℕ → List ℕ → List ℕ → List (List ℕ)
parts_from left part [] = part ∷ []
parts_from (suc left) part (byte ∷ bytes) = parts_from left part bytes
parts_from zero part (byte ∷ bytes) =
    if begins (codes "::") (byte ∷ bytes) then part ∷ parts_from 1 [] bytes else parts_from 0 (part ++ byte ∷ []) bytes

-- the parts of a path: `a::b` has `a` and `b`, `a:::b` has `a` and `:b`, and an empty path has one empty part
abbrev pub parts_of : List ℕ → List (List ℕ)
parts_of path = parts_from 0 [] path

-- what parts add to the path above them: each comes after a `::`
abbrev pub text_below : List (List ℕ) → List ℕ
text_below [] = []
text_below (part ∷ parts) = codes "::" ++ part ++ text_below parts

-- the paths that end at each next part of what is left of a path, these bytes of which were read
abbrev pub ancestors_from : ℕ → List ℕ → List ℕ → List (List ℕ)
ancestors_from left above [] = above ∷ []
ancestors_from (suc left) above (byte ∷ bytes) = ancestors_from left (above ++ byte ∷ []) bytes
ancestors_from zero above (byte ∷ bytes) =
    if begins (codes "::") (byte ∷ bytes) then above ∷ ancestors_from 1 (above ++ byte ∷ []) bytes
    else ancestors_from 0 (above ++ byte ∷ []) bytes

-- the paths above a path, from the top, and itself: `a::b::c` has `a`, `a::b` and `a::b::c`
abbrev pub ancestors : List ℕ → List (List ℕ)
ancestors path = ancestors_from 0 [] path

-- whether some parts are the first ones of others
abbrev pub are_first_parts : List (List ℕ) → List (List ℕ) → Bool
are_first_parts [] parts = true
are_first_parts (root ∷ roots) [] = false
are_first_parts (root ∷ roots) (part ∷ parts) = pointwise ◌==◌ root part && are_first_parts roots parts

-- whether a path is in the subtree of another: it is that path, or below it
abbrev pub is_in_subtree : List ℕ → List ℕ → Bool
is_in_subtree root path = are_first_parts (parts_of root) (parts_of path)

-- the first part of a path that has more, and what is below it
pub record IsFirstPart (path part below : List ℕ) : Type 0 where
  pub parts : parts_of path ≡ part ∷ parts_of below
  -- after what is above the path, the first part ends an ancestor, and the others are below that
  pub ancestors : (above : List ℕ) → ancestors_from 0 above path ≡ (above ++ part) ∷ ancestors_from 0 ((above ++ part) ++ codes "::") below

-- a path that has one part
pub record IsOnePart (path : List ℕ) : Type 0 where
  pub parts : parts_of path ≡ path ∷ []
  pub ancestors : (above : List ℕ) → ancestors_from 0 above path ≡ (above ++ path) ∷ []
