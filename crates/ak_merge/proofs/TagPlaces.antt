-- Where a tag that comes is put in.
use Rattle.std.specs.Prelude.{◌≡◌, ℕ, suc, ◌+◌, ◌≤◌, true, false, if◌then◌else◌, List, [], ◌∷◌, length}
use Rattle.std.proofs.Common.{refl, ap, ◌∙◌, arith}
use Rattle.std.specs.Cmp.Lexicographic.{slice_cmp}
use Rattle.std.specs.List.{insert}
use Rattle.std.specs.Ordering.{is_lt, nat_cmp}
use Rattle.ak_base.specs.declared.heads.Tag.{Tag}
use Rattle.ak_merge.specs.Tags.{tag_place, with_tag}

-- a tag that is put in there comes before the first that is greater
pub put_in_place : (tag : Tag) (tags : List Tag) → insert tags (tag_place tag.name tags) tag ≡ with_tag tag tags
put_in_place tag [] = refl
put_in_place tag (other ∷ more) =
    elim (is_lt (slice_cmp nat_cmp tag.name other.name)) as (λ b. insert (other ∷ more) (if b then 0 else tag_place tag.name more + 1) tag ≡ (if b then tag ∷ other ∷ more else other ∷ with_tag tag more)) [
      | true ↦ refl
      | false ↦ ap (λ n. insert (other ∷ more) n tag) (one_more (tag_place tag.name more)) ∙ ap (λ (tags : List Tag). other ∷ tags) (put_in_place tag more)
    ]
  where
    one_more : (n : ℕ) → n + 1 ≡ suc n
    one_more n = omega arith

pub place_within : (name : List ℕ) (tags : List Tag) → tag_place name tags ≤ length tags
place_within name [] = omega arith
place_within name (other ∷ more) =
    elim (is_lt (slice_cmp nat_cmp name other.name)) as (λ b. (if b then 0 else tag_place name more + 1) ≤ suc (length more)) [
      | true ↦ omega arith
      | false ↦ let below = place_within name more in omega (arith, below)
    ]
