-- How the tags of a note are stored.
use Rattle.std.specs.Prelude.{ℕ, negsuc, List, [], ◌∷◌, ◌++◌}
use Rattle.ak_base.specs.declared.heads.Tag.{Tag}
use Rattle.ak_merge.specs.Tags.{tags_taken}

-- the names, a space after each
abbrev pub spaced : List Tag → List ℕ
spaced [] = []
spaced (tag ∷ tags) = tag.name ++ 32 ∷ spaced tags

-- nothing for no tags, else a space, and the names with a space after each
abbrev pub joined_tags : List Tag → List ℕ
joined_tags [] = []
joined_tags (tag ∷ tags) = 32 ∷ spaced (tag ∷ tags)

-- these names as a note keeps them: each once, in the order of bytes
abbrev pub stored_tags : List (List ℕ) → List ℕ
stored_tags names = joined_tags (tags_taken (negsuc 0) names [])
