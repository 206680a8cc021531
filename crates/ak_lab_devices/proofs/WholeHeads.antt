-- What is shown of a head holds whole numbers alone.
use Rattle.std.proofs.Common.{◌≡◌, ℕ, ℤ, pos, negsuc, List, [], ◌∷◌, map, Bool, true, false, not, ◌&&◌, Option, Some, None, Ordering, Less, Equal, Greater, refl, sym}
use Rattle.std.specs.Prelude.{codes}
use Rattle.std.specs.Cmp.{first_so, second_so}
use Rattle.std.proofs.lemmas.Bool.{or_from, or_parts}
use Rattle.std.specs.Option.{option_map_or, unwrap_or}
use Rattle.std.specs.Cmp.Lexicographic.{slice_cmp}
use Rattle.std.specs.Ordering.{nat_cmp, match_ordering}
use Rattle.serde_json.specs.Data.{Data, boolean, string, Members, no_members, member, put}
use Rattle.serde_json.specs.View.{items_of}
use Rattle.serde_json.specs.Written.{has_float, items_have_float, members_have_float}
use Rattle.ak_base.specs.Rests.{conf_keys, is_plain, is_rest, lacks, members_of}
use Rattle.ak_base.specs.declared.heads.Conf.{Conf}
use Rattle.ak_base.specs.declared.heads.Tag.{Tag}
use Rattle.ak_json.specs.Confs.{conf_json}
use Rattle.ak_json.specs.Rests.{rest_members}
use Rattle.ak_json.specs.Written.{integer}
use Rattle.ak_lab_devices.specs.Shows.{tags_json}

-- the value holds whole numbers alone
abbrev IsWhole : Data → Type 0
IsWhole d = has_float d ≡ false

number_whole : (z : ℤ) → IsWhole (integer z)
number_whole (pos n) = refl
number_whole (negsuc n) = refl

-- a whole value put among whole ones
put_whole : (key : List ℕ) (d : Data) (ms : Members) → IsWhole d → members_have_float ms ≡ false → members_have_float (put key d ms) ≡ false
put_whole key d no_members h k = or_from _ _ h refl
put_whole key d (member l e ms) h k =
    at_place (λ rest. put_whole key d ms h rest) (slice_cmp nat_cmp key l)
  where
    at_place : (members_have_float ms ≡ false → members_have_float (put key d ms) ≡ false) → (o : Ordering) → members_have_float (match_ordering o (member key d (member l e ms)) (member l d ms) (member l e (put key d ms))) ≡ false
    at_place later Less = or_from _ _ h k
    at_place later Equal = or_from _ _ h (((or_parts (has_float e) _ k).1))
    at_place later Greater = or_from _ _ (((or_parts (has_float e) _ k).0)) (later (((or_parts (has_float e) _ k).1)))

none_float : (floats : Bool) → not floats ≡ true → floats ≡ false
none_float true is = sym is
none_float false is = refl

-- a rest holds whole numbers alone
rest_whole : (passes : Members → Bool) (text : List ℕ) → is_rest passes text ≡ true → members_have_float (rest_members text) ≡ false
unfolding is_rest
rest_whole passes text is = among (members_of text) is
  where
    among : (found : Option Members) → option_map_or (λ members. is_plain members && passes members) found false ≡ true → members_have_float (unwrap_or found no_members) ≡ false
    among None is = refl
    among (Some ms) is = none_float _ (second_so _ _ (first_so (is_plain ms) (passes ms) is))

-- settings have one text
pub conf_whole : (c : Conf) → has_float (conf_json c) ≡ false
conf_whole c =
    let n = number_whole in
    let rest : Members = rest_members c.rest.text in
    let spread : Members = put (codes "newSpread") (integer c.new_spread) rest in
    let collapse : Members = put (codes "collapseTime") (integer c.collapse) spread in
    let learn : Members = put (codes "dayLearnFirst") (boolean c.day_learn_first) collapse in
    let place : Members = put (codes "nextPos") (integer c.next_pos) learn in
    put_whole (codes "lastUnburied") (integer c.last_unburied) place (n c.last_unburied)
    (put_whole (codes "nextPos") (integer c.next_pos) learn (n c.next_pos)
    (put_whole (codes "dayLearnFirst") (boolean c.day_learn_first) collapse refl
    (put_whole (codes "collapseTime") (integer c.collapse) spread (n c.collapse)
    (put_whole (codes "newSpread") (integer c.new_spread) rest (n c.new_spread)
    (rest_whole (lacks conf_keys) c.rest.text c.rest.unknown)))))

names_whole : (tags : List Tag) → items_have_float (items_of (map (λ (tag : Tag). string tag.name) tags)) ≡ false
names_whole [] = refl
names_whole (tag ∷ tags) = or_from _ _ refl (names_whole tags)

-- and so have names of tags
pub tags_whole : (tags : List Tag) → has_float (tags_json tags) ≡ false
tags_whole tags = names_whole tags
