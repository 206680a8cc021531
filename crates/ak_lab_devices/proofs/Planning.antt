-- Plans that make another device sync, one by one.
use Rattle.std.proofs.Common.{◌≡◌, ℕ, suc, ◌+◌, ◌<◌, true, false, if◌then◌else◌, List, [], ◌∷◌, ◌++◌, length, drop, get_or, refl, sym, ap, ◌∙◌, add-one, append_assoc, drop-cons}
use Rattle.ak_lab_devices.specs.Plans.{crosses, crossings_of}
use Rattle.ak_lab_devices.specs.declared.plans.Planned.{Planned}

-- the first of them, and those of the others
crossing_first : (it : Planned) (more : List Planned) → crossings_of (it ∷ more) ≡ crossings_of (it ∷ []) ++ crossings_of more
crossing_first it more =
    elim (crosses it.act) as (λ b. (if b then it ∷ crossings_of more else crossings_of more) ≡ (if b then it ∷ [] else []) ++ crossings_of more) [
      | true ↦ refl
      | false ↦ refl
    ]

-- one more was looked at
pub crossing_added : (planned : List Planned) (place : ℕ) (it : Planned) (made now : List Planned) → place < length planned → it ≡ get_or planned place it
    → now ≡ made ++ crossings_of (it ∷ []) → made ++ crossings_of (drop place planned) ≡ crossings_of planned
    → now ++ crossings_of (drop (place + 1) planned) ≡ crossings_of planned
crossing_added planned place it made now within is added so_far =
    let rest : List Planned = crossings_of (drop (place + 1) planned) in
    let here : drop place planned ≡ it ∷ drop (place + 1) planned =
    drop-cons planned place it within ∙ ap (λ x. x ∷ drop (suc place) planned) (sym is) ∙ ap (λ n. it ∷ drop n planned) (sym (add-one place)) in
    ap (λ l. l ++ rest) added
    ∙ append_assoc made (crossings_of (it ∷ [])) rest
    ∙ ap (λ l. made ++ l) (sym (crossing_first it (drop (place + 1) planned)) ∙ ap crossings_of (sym here))
    ∙ so_far
