-- Slices of a list add up to it.
use Rattle.std.specs.Prelude.{◌≡◌, ℕ, zero, suc, ◌+◌, ◌*◌, ◌/◌, ◌%◌, ◌-◌, ◌<◌, ◌≤◌, ◌↔◌, min, List, [], ◌∷◌, ◌++◌, map, length, take, drop}
use Rattle.std.specs.Int.{div_ceil}
use Rattle.std.specs.List.{range_with_len}
use Rattle.std.proofs.Common.{refl, sym, ap, ◌∙◌, arith}
use Rattle.std.proofs.Math.Seq.{take-add}
use Rattle.std.proofs.lemmas.List.{length-take, length-drop, take_all}
use Rattle.std.proofs.lemmas.Nat.{div-add-mod', mod_below}
use Rattle.ak_base.specs.declared.rows.Row.{Row}
use Rattle.ak_session.specs.Slices.{slice, slices, joined_parts, filled_slices, slices_until_short}

nil_dropped : (n : ℕ) → drop {A = Row} n [] ≡ []
nil_dropped zero = refl
nil_dropped (suc n) = refl

drop_again : (m n : ℕ) (list : List Row) → drop m (drop n list) ≡ drop (n + m) list
drop_again m zero list = let same : m ≡ 0 + m = omega arith in ap (λ (k : ℕ). drop k list) same
drop_again m (suc n) [] = nil_dropped m ∙ sym (nil_dropped (suc n + m))
drop_again m (suc n) (x ∷ xs) = let same : suc (n + m) ≡ suc n + m = omega arith in drop_again m n xs ∙ ap (λ (k : ℕ). drop k (x ∷ xs)) same

slices_from : (a n : ℕ) (list : List Row) → joined_parts (map (λ (k : ℕ). slice k list) (range_with_len a n)) ≡ take (250 * n) (drop (250 * a) list)
slices_from a zero list = let none : 0 ≡ 250 * 0 = omega arith in ap (λ (k : ℕ). take k (drop (250 * a) list)) none
slices_from a (suc n) list =
    let here : List Row = drop (250 * a) list in
    let next : 250 * a + 250 ≡ 250 * (a + 1) = omega arith in
    let more : 250 + 250 * n ≡ 250 * suc n = omega arith in
    ap (λ (l : List Row). take 250 here ++ l) (slices_from (a + 1) n list)
    ∙ ap (λ (l : List Row). take 250 here ++ take (250 * n) l) (sym (drop_again 250 (250 * a) list ∙ ap (λ (k : ℕ). drop k list) next))
    ∙ sym (take-add 250 (250 * n) here)
    ∙ ap (λ (k : ℕ). take k here) more

pub slices_are_the_front : (count : ℕ) (list : List Row) → joined_parts (slices count list) ≡ take (250 * count) list
slices_are_the_front count list = slices_from 0 count list

pub filled_slices_are_all : (list : List Row) → joined_parts (filled_slices list) ≡ list
filled_slices_are_all list =
    let whole = div-add-mod' (length list) 250 in
    let below : length list % 250 < 250 = mod_below (length list) 250 (omega arith) in
    let enough : length list ≤ 250 * div_ceil (length list) 250 = omega (arith, whole, below) in
    slices_are_the_front (div_ceil (length list) 250) list ∙ take_all (250 * div_ceil (length list) 250) list enough

pub slices_until_short_are_all : (list : List Row) → joined_parts (slices_until_short list) ≡ list
slices_until_short_are_all list =
    let whole = div-add-mod' (length list) 250 in
    let below : length list % 250 < 250 = mod_below (length list) 250 (omega arith) in
    let enough : length list ≤ 250 * (length list / 250 + 1) = omega (arith, whole, below) in
    slices_are_the_front (length list / 250 + 1) list ∙ take_all (250 * (length list / 250 + 1)) list enough

pub short_slices : (k : ℕ) (list : List Row) → (length (slice k list) < 250) ↔ (length list < 250 * (k + 1))
short_slices k list =
    let long : length (slice k list) ≡ min 250 (length list - 250 * k) = length-take 250 (drop (250 * k) list) ∙ ap (min 250) (length-drop (250 * k) list) in
    ((λ short. omega (arith, long, short)), (λ short. omega (arith, long, short)))
