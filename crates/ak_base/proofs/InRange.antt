-- Ranges that a few tests decide, and the range of a list of tags.
use Rattle.std.proofs.Common.{◌≡◌, ℕ, Bool, false, ◌&&◌, List, [], ◌∷◌, length, sym, ◌∙◌}
use Rattle.std.specs.Bool.{Decides}
use Rattle.std.specs.Cmp.{IsTotalOrder, first_so, second_so, nat_cmp_total}
use Rattle.std.specs.Cmp.Lexicographic.{slice_cmp, lists_total}
use Rattle.std.specs.List.{AllByRecursion}
use Rattle.std.specs.List.Sorted.{IsStrictlySortedBy}
use Rattle.std.specs.Ordering.{nat_cmp}
use Rattle.std.specs.declared.cmp.Ordering.TheVariants.{Less}
use Rattle.std.proofs.lemmas.Bool.{and_from}
use Rattle.std.proofs.lemmas.List.Elements.{All-nil, All-cons, All-head, All-tail}
use Rattle.ak_base.specs.Heads.{AreTagsInRange, IsBeforeFirst, IsTagInRange, tag_names}
use Rattle.ak_base.specs.declared.heads.Tag.{Tag}

-- two tests decide what two facts make
pub both_decide : {P Q : Type 0} (R : Type 0) (a b : Bool) → Decides a P → Decides b Q → (P → Q → R) → (R → P) → (R → Q) → Decides (a && b) R
both_decide R a b p q make one other = (
  λ both. make (p.0 (first_so a b both)) (q.0 (second_so a b both)),
  λ r. and_from a b (p.1 (one r)) (q.1 (other r)),
)

-- two tests decide both
pub pair_decides : {P Q : Type 0} (a b : Bool) → Decides a P → Decides b Q → Decides (a && b) (P × Q)
pair_decides {P} {Q} a b p q = both_decide (P × Q) a b p q (λ x y. (x, y)) (λ r. r.0) (λ r. r.1)

-- ---- tags
bytes_total : IsTotalOrder (slice_cmp nat_cmp)
bytes_total = lists_total nat_cmp_total

-- what is before the first is before each
before_each : (name next : List ℕ) (names : List (List ℕ)) → slice_cmp nat_cmp name next ≡ Less → IsStrictlySortedBy (slice_cmp nat_cmp) (next ∷ names)
    → AllByRecursion (λ y. slice_cmp nat_cmp name y ≡ Less) (next ∷ names)
unfolding IsStrictlySortedBy
before_each name next names before sorted = (before, later names sorted.0)
  where
    later : (names : List (List ℕ)) → AllByRecursion (λ y. slice_cmp nat_cmp next y ≡ Less) names → AllByRecursion (λ y. slice_cmp nat_cmp name y ≡ Less) names
    later [] h = tt
    later (n ∷ ns) h = (bytes_total.trans name next n before h.0, later ns h.1)

first_name : (tag : Tag) (others : List Tag) → IsBeforeFirst tag others → IsStrictlySortedBy (slice_cmp nat_cmp) (tag_names others)
    → AllByRecursion (λ y. slice_cmp nat_cmp tag.name y ≡ Less) (tag_names others)
first_name tag [] before sorted = tt
first_name tag (next ∷ others) before sorted = before_each tag.name next.name (tag_names others) before sorted

-- one tag more in front
pub one_more : (tag : Tag) (others : List Tag) → IsTagInRange tag × IsBeforeFirst tag others → AreTagsInRange others → AreTagsInRange (tag ∷ others)
unfolding IsStrictlySortedBy
one_more tag others own rest = record {
  each = All-cons IsTagInRange tag others own.0 rest.each;
  ascending = (first_name tag others own.1 rest.ascending, rest.ascending);
}

-- the first tag
pub first_in_range : (tag : Tag) (others : List Tag) → AreTagsInRange (tag ∷ others) → IsTagInRange tag × IsBeforeFirst tag others
unfolding IsStrictlySortedBy
first_in_range tag [] all = (All-head IsTagInRange tag [] all.each, tt)
first_in_range tag (next ∷ others) all = (All-head IsTagInRange tag (next ∷ others) all.each, all.ascending.0.0)

-- the others
pub others_in_range : (tag : Tag) (others : List Tag) → AreTagsInRange (tag ∷ others) → AreTagsInRange others
unfolding IsStrictlySortedBy
others_in_range tag others all = record { each = All-tail IsTagInRange tag others all.each; ascending = all.ascending.1 }

-- no tags
none_in_range : AreTagsInRange []
unfolding IsStrictlySortedBy
none_in_range = record { each = All-nil IsTagInRange; ascending = tt }

pub empty_in_range : (ts : List Tag) → length ts ≡ 0 → AreTagsInRange ts
empty_in_range [] h = none_in_range
empty_in_range (t ∷ ts) h = cc

-- what is left decides, so one tag that passes leaves it to the others
pub left_decides : (all : Type 0) (tag : Tag) (others : List Tag) → IsTagInRange tag × IsBeforeFirst tag others
    → (AreTagsInRange (tag ∷ others) → all) × (all → AreTagsInRange (tag ∷ others)) → (AreTagsInRange others → all) × (all → AreTagsInRange others)
left_decides all tag others own left = (λ rest. left.0 (one_more tag others own rest), λ h. others_in_range tag others (left.1 h))

-- one that fails refuses all
pub left_refuses : (all : Type 0) (tag : Tag) (others : List Tag) (a b : Bool) → Decides a (IsTagInRange tag) → Decides b (IsBeforeFirst tag others) → (a && b) ≡ false
    → (AreTagsInRange (tag ∷ others) → all) × (all → AreTagsInRange (tag ∷ others)) → Decides false all
left_refuses all tag others a b own before fails left =
    (λ h. cc, λ h. sym fails ∙ (pair_decides a b own before).1 (first_in_range tag others (left.1 h)))
