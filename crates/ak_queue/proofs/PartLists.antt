-- What is left of a list of ids where some are passed over.
use Rattle.std.proofs.Common.{◌≡◌, ◌⊎◌, inl, inr, ⊎_elim, ℤ, List, [], ◌∷◌, ◌++◌, refl, sym, ap, subst, ◌∙◌, int_cmp, Less, append_assoc, append-nil, ◌≢◌, Bool, true, false, cond}
use Rattle.ak_queue.specs.Burials.{TakesOther}
use Rattle.std.specs.List.{AllByRecursion}
use Rattle.std.specs.List.Sorted.{IsStrictlySortedBy}

-- the first ids are those of the second, without some
abbrev pub IsPartOf : List ℤ → List ℤ → Type 0
IsPartOf ids [] = ids ≡ []
IsPartOf ids (x ∷ xs) = IsPartOf ids xs ⊎ ((others : List ℤ) × (ids ≡ x ∷ others) × IsPartOf others xs)

pub none_part : (xs : List ℤ) → IsPartOf [] xs
none_part [] = refl
none_part (x ∷ xs) = inl (none_part xs)

pub all_part : (P : ℤ → Type 0) (ids xs : List ℤ) → IsPartOf ids xs → AllByRecursion P xs → AllByRecursion P ids
all_part P ids [] part all = subst (AllByRecursion P) (sym part) tt
all_part P ids (x ∷ xs) part all =
    ⊎_elim (λ later. all_part P ids xs later all.1)
    (λ (h : (others : List ℤ) × (ids ≡ x ∷ others) × IsPartOf others xs). subst (AllByRecursion P) (sym h.1) (all.0, all_part P h.0 xs h.2 all.1)) part

pub sorted_part : (ids xs : List ℤ) → IsPartOf ids xs → IsStrictlySortedBy int_cmp xs → IsStrictlySortedBy int_cmp ids
unfolding IsStrictlySortedBy
sorted_part ids [] part sorted = subst (IsStrictlySortedBy int_cmp) (sym part) tt
sorted_part ids (x ∷ xs) part sorted =
    ⊎_elim (λ later. sorted_part ids xs later sorted.1)
    (λ (h : (others : List ℤ) × (ids ≡ x ∷ others) × IsPartOf others xs).
    subst (IsStrictlySortedBy int_cmp) (sym h.1) (all_part (λ id. int_cmp x id ≡ Less) h.0 xs h.2 sorted.0, sorted_part h.0 xs h.2 sorted.1)) part

-- ---- one id after another
-- what was taken, with some of what is left, is a part of the whole
abbrev pub TakesPart : List ℤ → List ℤ → List ℤ → Type 0
TakesPart taken rest whole = (tail : List ℤ) → IsPartOf tail rest → IsPartOf (taken ++ tail) whole

pub none_taken : (taken whole : List ℤ) → taken ≡ [] → TakesPart taken whole whole
none_taken taken whole none tail part = subst (λ (ids : List ℤ). IsPartOf (ids ++ tail) whole) (sym none) part

pub one_taken : (answered id : ℤ) (taken more rest whole : List ℤ) → TakesPart taken (id ∷ rest) whole → TakesOther answered id taken more → TakesPart more rest whole
one_taken answered id taken more rest whole so_far step tail part =
    ⊎_elim
    (λ same. subst (λ (ids : List ℤ). IsPartOf (ids ++ tail) whole) (sym same) (so_far tail (inl part)))
    (λ (h : (more ≡ taken ++ id ∷ []) × (id ≢ answered)).
    subst (λ (ids : List ℤ). IsPartOf ids whole) (sym (ap (λ (ids : List ℤ). ids ++ tail) h.0 ∙ append_assoc taken (id ∷ []) tail)) (so_far (id ∷ tail) (inr (tail, refl, part))))
    step

pub all_taken : (taken rest whole : List ℤ) → TakesPart taken rest whole → IsPartOf taken whole
all_taken taken rest whole so_far = subst (λ (ids : List ℤ). IsPartOf ids whole) (append-nil taken) (so_far [] (none_part rest))

-- none of them is the answered one
abbrev pub AreOthers : ℤ → List ℤ → Type 0
AreOthers answered ids = AllByRecursion (λ id. id ≢ answered) ids

all_pushed : (P : ℤ → Type 0) (ids : List ℤ) (id : ℤ) → AllByRecursion P ids → P id → AllByRecursion P (ids ++ id ∷ [])
all_pushed P [] id all one = (one, tt)
all_pushed P (x ∷ ids) id all one = (all.0, all_pushed P ids id all.1 one)

pub others_taken : (answered id : ℤ) (taken more : List ℤ) → AreOthers answered taken → TakesOther answered id taken more → AreOthers answered more
others_taken answered id taken more so_far step =
    ⊎_elim
    (λ same. subst (AreOthers answered) (sym same) so_far)
    (λ (h : (more ≡ taken ++ id ∷ []) × (id ≢ answered)). subst (AreOthers answered) (sym h.0) (all_pushed (λ x. x ≢ answered) taken id so_far h.1))
    step

-- whether it is taken decides
pub taken_other : (taken : Bool) (answered id : ℤ) (old new : List ℤ) → (taken ≡ true → id ≢ answered) → new ≡ old ++ cond taken (id ∷ []) [] → TakesOther answered id old new
taken_other true answered id old new other step = inr (step, other refl)
taken_other false answered id old new other step = inl (step ∙ append-nil old)
