-- Tags as the entries of a map from names to usns.
use Rattle.std.specs.Prelude.{ℕ, ℤ, Bool, true, ◌&&◌, List, [], ◌∷◌, map, String}
use Rattle.std.specs.BTreeMap.{BTreeMap}
use Rattle.std.specs.Cmp.Lexicographic.{slice_cmp}
use Rattle.std.specs.Ordering.{is_lt, nat_cmp}
use Rattle.std.specs.String.{string_bytes}
use Rattle.ak_base.specs.declared.heads.Tag.{Tag}

-- whether a name is less by bytes than that of the first tag, if there is one
abbrev pub precedes : List ℕ → List Tag → Bool
precedes name [] = true
precedes name (other ∷ more) = is_lt (slice_cmp nat_cmp name other.name)

-- whether the name of each tag is less by bytes than that of the next
abbrev pub ascend : List Tag → Bool
ascend [] = true
ascend (tag ∷ more) = precedes tag.name more && ascend more

-- an entry's tag
abbrev pub tag_of : {Y : Type 0} → String Y × ℤ → Tag
tag_of entry = record { name = string_bytes entry.0; usn = entry.1 }

-- the tags of entries
abbrev pub mapped_tags : {Y : Type 0} → List (String Y × ℤ) → List Tag
mapped_tags entries = map tag_of entries

-- the tags of a map, in the order of their names
abbrev pub tags_of : {Y : Type 0} → BTreeMap (String Y) ℤ → List Tag
tags_of numbers = mapped_tags numbers.entries
