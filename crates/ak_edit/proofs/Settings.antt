-- When settings are equal.
use Rattle.std.proofs.Common.{◌≡◌, ◌==◌, ◌&&◌, Bool, true, refl, sym, subst, ◌∙◌}
use Rattle.std.proofs.lemmas.Bool.{and_from}
use Rattle.std.specs.Bool.{Decides, beq}
use Rattle.std.specs.Cmp.{booleans_Decides, first_so, second_so, signed_Decides}
use Rattle.std.specs.Cmp.Lexicographic.{bytes_decides, pointwise}
use Rattle.std.specs.Ordering.{int_eq}
use Rattle.ak_base.proofs.Resting.{same_proof}
use Rattle.ak_base.specs.Rests.{conf_keys, lacks}
use Rattle.ak_base.specs.declared.heads.Conf.{Conf}

one_conf : (a b : Conf) → a.new_spread ≡ b.new_spread → a.collapse ≡ b.collapse → a.day_learn_first ≡ b.day_learn_first → a.next_pos ≡ b.next_pos → a.last_unburied ≡ b.last_unburied
    → a.rest.text ≡ b.rest.text → a ≡ b
one_conf a b spread collapse first next last rest = λ i. record {
  new_spread = spread i;
  collapse = collapse i;
  day_learn_first = first i;
  next_pos = next i;
  last_unburied = last i;
  rest = record { text = rest i; owner = record {}; unknown = same_proof (lacks conf_keys) rest a.rest.unknown b.rest.unknown i };
}

abbrev parts : Conf → Conf → Bool
parts a b =
    int_eq a.new_spread b.new_spread && (int_eq a.collapse b.collapse && (beq a.day_learn_first b.day_learn_first && (int_eq a.next_pos b.next_pos
    && (int_eq a.last_unburied b.last_unburied && pointwise ◌==◌ a.rest.text b.rest.text))))

same_parts : (a b : Conf) → parts a b ≡ true → a ≡ b
same_parts a b is =
    let one = second_so _ _ is in
    let two = second_so _ _ one in
    let three = second_so _ _ two in
    let four = second_so _ _ three in
    one_conf a b ((signed_Decides a.new_spread b.new_spread).0 (first_so _ _ is)) ((signed_Decides a.collapse b.collapse).0 (first_so _ _ one))
    ((booleans_Decides a.day_learn_first b.day_learn_first).0 (first_so _ _ two)) ((signed_Decides a.next_pos b.next_pos).0 (first_so _ _ three))
    ((signed_Decides a.last_unburied b.last_unburied).0 (first_so _ _ four)) ((bytes_decides a.rest.text b.rest.text).0 (second_so _ _ four))

own_parts : (a : Conf) → parts a a ≡ true
own_parts a =
    and_from _ _ ((signed_Decides a.new_spread a.new_spread).1 refl)
    (and_from _ _ ((signed_Decides a.collapse a.collapse).1 refl)
    (and_from _ _ ((booleans_Decides a.day_learn_first a.day_learn_first).1 refl)
    (and_from _ _ ((signed_Decides a.next_pos a.next_pos).1 refl)
    (and_from _ _ ((signed_Decides a.last_unburied a.last_unburied).1 refl) ((bytes_decides a.rest.text a.rest.text).1 refl)))))

pub settings_decide : (a b : Conf) (result : Bool) → result ≡ parts a b → Decides result (a ≡ b)
settings_decide a b result is = (λ so. same_parts a b (sym is ∙ so), λ same. is ∙ subst (λ (x : Conf). parts a x ≡ true) same (own_parts a))
