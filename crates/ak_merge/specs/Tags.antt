-- Tags that come to a collection: what is held of them afterwards.
use Rattle.std.specs.Prelude.{ℕ, ℤ, ◌+◌, ◌≤◌, Bool, ◌==◌, if◌then◌else◌, List, [], ◌∷◌, length}
use Rattle.std.specs.Cmp.Lexicographic.{pointwise, slice_cmp}
use Rattle.std.specs.List.{list_any}
use Rattle.std.specs.Ordering.{is_lt, nat_cmp}
use Rattle.ak_base.specs.declared.heads.Tag.{Tag}
use Rattle.ak_merge.specs.Holdings.{has_tag}

-- the name of a tag: 1 to 512 bytes
pub record IsTagName (name : List ℕ) : Type 0 where
  pub some : 1 ≤ length name
  pub short : length name ≤ 512

-- whether a name is one of these
abbrev pub has_name : List (List ℕ) → List ℕ → Bool
has_name names name = list_any (λ (other : List ℕ). pointwise ◌==◌ other name) names

-- the tags with one more, which comes before the first whose name is greater by bytes
abbrev pub with_tag : Tag → List Tag → List Tag
with_tag tag [] = tag ∷ []
with_tag tag (other ∷ more) = if is_lt (slice_cmp nat_cmp tag.name other.name) then tag ∷ other ∷ more else other ∷ with_tag tag more

-- how many tags stand before the first whose name is greater by bytes
abbrev pub tag_place : List ℕ → List Tag → ℕ
tag_place name [] = 0
tag_place name (other ∷ more) = if is_lt (slice_cmp nat_cmp name other.name) then 0 else tag_place name more + 1

-- the tags once this name came: a tag of the name that is held stays, else one with this usn is put in
abbrev pub tag_taken : ℤ → List ℕ → List Tag → List Tag
tag_taken usn name tags = if has_tag tags name then tags else with_tag (record { name = name; usn = usn }) tags

-- the tags once these names came
abbrev pub tags_taken : ℤ → List (List ℕ) → List Tag → List Tag
tags_taken usn [] tags = tags
tags_taken usn (name ∷ more) tags = tags_taken usn more (tag_taken usn name tags)
