-- The fields and the tags of a note, as lists.
use Rattle.std.specs.Prelude.{ℕ, Bool, not, ◌==◌, List, filter, length}
use Rattle.std.specs.List.{slice_split}

-- the fields, between bytes 0x1F
abbrev pub fields_in : List ℕ → List (List ℕ)
fields_in flds = slice_split (λ byte. byte == 31) flds

-- what stands between two spaces is a tag, unless it is empty
abbrev pub is_tag : List ℕ → Bool
is_tag word = not (length word == 0)

-- the tags
abbrev pub tags_in : List ℕ → List (List ℕ)
tags_in tags = filter is_tag (slice_split (λ byte. byte == 32) tags)
