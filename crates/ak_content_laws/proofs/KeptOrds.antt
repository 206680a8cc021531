-- No two cards of one note that stay in an edit of its type come to one ord, if they had two.
use Rattle.std.specs.Prelude.{◌≡◌, ◌<◌, ℕ, ℤ, pos, negsuc, ◌<ℤ◌, Bool, true, false, not, cond, nat_lt, if◌then◌else◌, List, length, get_or, Option, Some, None}
use Rattle.std.specs.Cmp.{unsigned_Decides}
use Rattle.std.specs.List.{position_or_len}
use Rattle.std.specs.Option.{option_map}
use Rattle.std.proofs.Common.{arith, refl, sym, ap, subst, ◌∙◌}
use Rattle.std.proofs.lemmas.Int.{ints}
use Rattle.std.proofs.lemmas.List.Sums.{prefix_len_stops}
use Rattle.std.proofs.lemmas.Option.{same_Some}
use Rattle.ak_merge.proofs.EditFacts.{false_true, none_held}
use Rattle.ak_types.specs.PlaceMaps.{moved_ord, names_place, new_place}
use Rattle.ak_content_laws.proofs.PlaceMaps.{mapped_some}

not_false : (b : Bool) → not b ≡ false → b ≡ true
not_false true is = refl
not_false false is = sym is

-- the entry that a place leads to names it
names_it : (entries : List (Option ℕ)) (old place : ℕ) → new_place entries old ≡ Some place → names_place old (get_or entries place None) ≡ true
names_it entries old place is =
    let found : ℕ = position_or_len (names_place old) entries in
    elim (nat_lt found (length entries)) as (λ (b : Bool). nat_lt found (length entries) ≡ b → cond b (Some found) None ≡ Some place → names_place old (get_or entries place None) ≡ true) [
      | true ↦ λ less is.
          let within : found < length entries = grind (arith, less) in
          let there : names_place old (get_or entries found None) ≡ true = not_false (names_place old (get_or entries found None)) (prefix_len_stops (λ (entry : Option ℕ). not (names_place old entry)) entries None within) in
          subst (λ (p : ℕ). names_place old (get_or entries p None) ≡ true) (same_Some found place is) there
      | false ↦ λ _ is. none_held is
    ] refl is

-- an entry names one place
one_named : (entry : Option ℕ) (one other : ℕ) → names_place one entry ≡ true → names_place other entry ≡ true → one ≡ other
one_named None one other is also = false_true is
one_named (Some from) one other is also = sym ((unsigned_Decides from one).0 is) ∙ (unsigned_Decides from other).0 also

-- places that lead to one place are one
pub places_apart : (entries : List (Option ℕ)) (one other place : ℕ) → new_place entries one ≡ Some place → new_place entries other ≡ Some place → one ≡ other
places_apart entries one other place is also = one_named (get_or entries place None) one other (names_it entries one place is) (names_it entries other place also)

-- ---- ords
pos_same : (one other : ℕ) (ord : ℤ) → pos one ≡ ord → pos other ≡ ord → one ≡ other
pos_same one other ord is also = let both : pos one ≡ pos other = is ∙ sym also in omega (arith, ints, both)

pos_neg : {X : Type 0} (one other : ℕ) (ord : ℤ) → pos one ≡ ord → negsuc other ≡ ord → X
pos_neg one other ord is also = let both : pos one ≡ negsuc other = is ∙ sym also in absurd (omega (arith, ints, both))

-- an ord below the number of the old templates leads where the map says
by_map : (old : ℕ) (entries : List (Option ℕ)) (ord : ℕ) (moved : ℤ) → pos ord <ℤ pos old → moved_ord old entries (pos ord) ≡ Some moved → (place : ℕ) × (new_place entries ord ≡ Some place) × (pos place ≡ moved)
by_map old entries ord moved below is =
    let less : nat_lt ord old ≡ true = grind (arith, ints, below) in
    mapped_some (new_place entries ord) moved (sym (ap (λ (b : Bool). if b then option_map (λ (n : ℕ). pos n) (new_place entries ord) else Some (pos ord)) less) ∙ is)

-- ords that lead to one ord are one
pub ords_apart : (old : ℕ) (entries : List (Option ℕ)) (one other moved : ℤ) → one <ℤ pos old → other <ℤ pos old → moved_ord old entries one ≡ Some moved → moved_ord old entries other ≡ Some moved → one ≡ other
ords_apart old entries (pos one) (pos other) moved below also_below is also =
    let first = by_map old entries one moved below is in
    let second = by_map old entries other moved also_below also in
    let place : second.0 ≡ first.0 = pos_same second.0 first.0 moved second.2 first.2 in
    ap (λ (n : ℕ). pos n) (places_apart entries one other first.0 first.1 (second.1 ∙ ap (λ (p : ℕ). Some p) place))
ords_apart old entries (pos one) (negsuc other) moved below also_below is also =
    let first = by_map old entries one moved below is in
    pos_neg first.0 other moved first.2 (same_Some (negsuc other) moved also)
ords_apart old entries (negsuc one) (pos other) moved below also_below is also =
    let second = by_map old entries other moved also_below also in
    pos_neg second.0 one moved second.2 (same_Some (negsuc one) moved is)
ords_apart old entries (negsuc one) (negsuc other) moved below also_below is also = same_Some (negsuc one) moved is ∙ sym (same_Some (negsuc other) moved also)
