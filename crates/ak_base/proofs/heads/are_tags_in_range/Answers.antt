use Rattle.std.proofs.Common.{◌≡◌, ◌∷◌, length, refl, subst, rules}
use Rattle.ak_base.specs.Heads.{AreTagsInRange}
use Rattle.ak_base.proofs.InRange.{pair_decides, left_decides, left_refuses, empty_in_range}
use Rattle.ak_base.proofs.heads.are_tags_in_range.Goals as goal

pub returns-then-not-is_in_range-is_before_first : goal.returns-then-not-is_in_range-is_before_first
returns-then-not-is_in_range-is_before_first c =
    let is : c.loop-tag.rest.now ≡ c.in-Some.tag.now ∷ c.in-Some.others.now = search rules in
    left_refuses (AreTagsInRange c.args.tags.now) c.in-Some.tag.now c.in-Some.others.now _ _ c.is_in_range.ensures c.is_before_first.ensures c.if-not-is_in_range-is_before_first.true
    (subst (λ rest. (AreTagsInRange rest → AreTagsInRange c.args.tags.now) × (AreTagsInRange c.args.tags.now → AreTagsInRange rest)) is c.loop-tag.invariant)

pub loop-tag-preserved : goal.loop-tag-preserved
loop-tag-preserved c =
    let is : c.loop-tag.rest.now ≡ c.in-Some.tag.now ∷ c.in-Some.others.now = search rules in
    left_decides (AreTagsInRange c.args.tags.now) c.in-Some.tag.now c.in-Some.others.now
    ((pair_decides _ _ c.is_in_range.ensures c.is_before_first.ensures).0 c.if-not-is_in_range-is_before_first.false)
    (subst (λ rest. (AreTagsInRange rest → AreTagsInRange c.args.tags.now) × (AreTagsInRange c.args.tags.now → AreTagsInRange rest)) is c.loop-tag.invariant)

pub returns : goal.returns
returns c =
    let none : length c.loop-tag.rest.now ≡ 0 = search rules in
    (λ _. c.loop-tag.invariant.0 (empty_in_range _ none), λ _. refl)
