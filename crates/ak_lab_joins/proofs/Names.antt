-- The names of a lab's devices, no two of which are one.
use Rattle.std.specs.List.{AllByRecursion}
use Rattle.std.specs.Prelude.{◌≡◌, ◌≢◌, ◌⊎◌, ℕ, zero, suc, Bool, true, false, if◌then◌else◌, List, [], ◌∷◌, ◌++◌, length, map, Some, None, slice_get, slice_set}
use Rattle.std.proofs.Common.{refl, sym, ap, subst, ◌∙◌, inl, inr, arith}
use Rattle.std.proofs.lemmas.Option.{none-some, same_Some}
use Rattle.std.specs.Cmp.Lexicographic.{bytes_decides}
use Rattle.ak_lab_devices.proofs.Places.{name_is}
use Rattle.ak_lab_devices.specs.Devices.{device_of, same_name, with_device}
use Rattle.ak_lab_devices.specs.declared.devices.Device.{Device}
use Rattle.ak_lab_joins.proofs.Devices.{not_both, same_is}
use Rattle.ak_lab_joins.specs.LabJoins.{AreUnlike, device_names}
use Rattle.ak_lab_wires.proofs.Kept.{Face, faces}

-- ---- by name and by place
differs : (a b : List ℕ) → a ≢ b → same_name a b ≡ false
differs a b differ = by (same_name a b) refl
  where
    by : (same : Bool) → same_name a b ≡ same → same ≡ false
    by true is = absurd (differ ((bytes_decides a b).0 is))
    by false is = refl

-- what holds of all names holds of each device's
pub at_place : (P : List ℕ → Type 0) (devices : List Device) (place : ℕ) (d : Device) → AllByRecursion P (device_names devices) → slice_get devices place ≡ Some d → P d.name
at_place P [] zero d all at = absurd (none-some d at)
at_place P [] (suc place) d all at = absurd (none-some d at)
at_place P (first ∷ others) zero d all at = subst (λ (x : Device). P x.name) (same_Some first d at) all.0
at_place P (first ∷ others) (suc place) d all at = at_place P others place d all.1 at

-- a device at a place is found by its name
pub place_found : (devices : List Device) (place : ℕ) (d : Device) → AreUnlike (device_names devices) → slice_get devices place ≡ Some d → device_of d.name devices ≡ Some d
place_found [] zero d unlike at = absurd (none-some d at)
place_found [] (suc place) d unlike at = absurd (none-some d at)
place_found (first ∷ others) zero d unlike at =
    ap (λ (b : Bool). if b then Some first else device_of d.name others) (same_is first.name d.name (ap (λ (x : Device). x.name) (same_Some first d at))) ∙ at
place_found (first ∷ others) (suc place) d unlike at =
    ap (λ (b : Bool). if b then Some first else device_of d.name others)
    (differs first.name d.name (λ is. at_place (λ (n : List ℕ). n ≢ first.name) others place d unlike.0 at (sym is)))
    ∙ place_found others place d unlike.1 at

-- a device that is found stands at a place
pub has_place : (name : List ℕ) (devices : List Device) (d : Device) → device_of name devices ≡ Some d → (place : ℕ) × (slice_get devices place ≡ Some d)
has_place name [] d found = absurd (none-some d found)
has_place name (first ∷ others) d found = by (λ later. has_place name others d later) (same_name first.name name) found
  where
    by : (device_of name others ≡ Some d → (place : ℕ) × (slice_get others place ≡ Some d)) → (b : Bool) → (if b then Some first else device_of name others) ≡ Some d
        → (place : ℕ) × (slice_get (first ∷ others) place ≡ Some d)
    by rest true is = (0, is)
    by rest false is = let it = rest is in (suc it.0, it.1)

-- ---- names that stay
pub changed_names : (made : Device) (devices : List Device) → device_names (with_device made devices) ≡ device_names devices
changed_names made [] = refl
changed_names made (first ∷ others) = by (changed_names made others) (same_name first.name made.name) refl
  where
    by : device_names (with_device made others) ≡ device_names others → (b : Bool) → same_name first.name made.name ≡ b
        → device_names (if b then made ∷ others else first ∷ with_device made others) ≡ device_names (first ∷ others)
    by rest true has = ap (λ (n : List ℕ). n ∷ device_names others) (sym (name_is made.name first has))
    by rest false lacks = ap (λ (names : List (List ℕ)). first.name ∷ names) rest

pub changed_unlike : (made : Device) (devices : List Device) → AreUnlike (device_names devices) → AreUnlike (device_names (with_device made devices))
changed_unlike made devices unlike = subst AreUnlike (sym (changed_names made devices)) unlike

-- ---- a name that comes
absent : (name : List ℕ) (devices : List Device) → device_of name devices ≡ None → AllByRecursion (λ (other : List ℕ). other ≢ name) (device_names devices)
absent name [] none = tt
absent name (first ∷ others) none = by (λ later. absent name others later) (same_name first.name name) refl none
  where
    by : (device_of name others ≡ None → AllByRecursion (λ (other : List ℕ). other ≢ name) (device_names others)) → (b : Bool) → same_name first.name name ≡ b
        → (if b then Some first else device_of name others) ≡ None → AllByRecursion (λ (other : List ℕ). other ≢ name) (device_names (first ∷ others))
    by rest true has is = absurd (none-some first (sym is))
    by rest false lacks is = ((λ same. not_both (same_is first.name name same) lacks), rest is)

all_with : (P : List ℕ → Type 0) (devices : List Device) (made : Device) → AllByRecursion P (device_names devices) → P made.name
    → AllByRecursion P (device_names (devices ++ made ∷ []))
all_with P [] made all one = (one, tt)
all_with P (first ∷ others) made all one = (all.0, all_with P others made all.1 one)

added_so : (devices : List Device) (made : Device) → AreUnlike (device_names devices) → AllByRecursion (λ (other : List ℕ). other ≢ made.name) (device_names devices)
    → AreUnlike (device_names (devices ++ made ∷ []))
added_so [] made unlike none = (tt, tt)
added_so (first ∷ others) made unlike none =
    (all_with (λ (n : List ℕ). n ≢ first.name) others made unlike.0 (λ is. none.0 (sym is)), added_so others made unlike.1 none.1)

pub added_unlike : (devices : List Device) (made : Device) → AreUnlike (device_names devices) → device_of made.name devices ≡ None
    → AreUnlike (device_names (devices ++ made ∷ []))
added_unlike devices made unlike none = added_so devices made unlike (absent made.name devices none)

-- ---- a device that is put at a place
-- what stands at a place then is that device, or what stood there
pub put_or_old : (devices : List Device) (place : ℕ) (made : Device) (at : ℕ) (d : Device) → slice_get (slice_set devices place made) at ≡ Some d
    → ((at ≡ place) × (made ≡ d)) ⊎ ((at ≢ place) × (slice_get devices at ≡ Some d))
put_or_old [] zero made zero d is = absurd (none-some d is)
put_or_old [] zero made (suc at) d is = absurd (none-some d is)
put_or_old [] (suc place) made zero d is = absurd (none-some d is)
put_or_old [] (suc place) made (suc at) d is = absurd (none-some d is)
put_or_old (first ∷ others) zero made zero d is = inl (refl, same_Some made d is)
put_or_old (first ∷ others) zero made (suc at) d is = inr (not_first, is)
  where
    not_first : suc at ≡ 0 → ⊥
    not_first same = omega (arith, same)
put_or_old (first ∷ others) (suc place) made zero d is = inr (not_later, is)
  where
    not_later : 0 ≡ suc place → ⊥
    not_later same = omega (arith, same)
put_or_old (first ∷ others) (suc place) made (suc at) d is = by (put_or_old others place made at d is)
  where
    before : suc at ≡ suc place → at ≡ place
    before same = omega (arith, same)

    by : ((at ≡ place) × (made ≡ d)) ⊎ ((at ≢ place) × (slice_get others at ≡ Some d))
        → ((suc at ≡ suc place) × (made ≡ d)) ⊎ ((suc at ≢ suc place) × (slice_get (first ∷ others) (suc at) ≡ Some d))
    by (inl (same, own)) = inl (ap suc same, own)
    by (inr (other, there)) = inr ((λ same. other (before same)), there)

-- ---- a device that stood elsewhere meanwhile is put back
abbrev rest_of : List Face → List Face
rest_of [] = []
rest_of (face ∷ others) = others

abbrev first_name : List Face → List ℕ
first_name [] = []
first_name (face ∷ others) = face.name

faces_names : (devices : List Device) → map (λ (f : Face). f.name) (faces devices) ≡ device_names devices
faces_names [] = refl
faces_names (first ∷ others) = ap (λ (names : List (List ℕ)). first.name ∷ names) (faces_names others)

same_names : (one other : List Device) → faces one ≡ faces other → device_names one ≡ device_names other
same_names one other same = sym (faces_names one) ∙ ap (λ (l : List Face). map (λ (f : Face). f.name) l) same ∙ faces_names other

never_longer : (n : ℕ) → 0 ≡ suc n → ⊥
never_longer n is = omega (arith, is)

pub put_back_names : (left devices : List Device) (place : ℕ) (stand_in d made : Device) → faces left ≡ faces (slice_set devices place stand_in)
    → slice_get devices place ≡ Some d → made.name ≡ d.name → device_names (slice_set left place made) ≡ device_names devices
put_back_names left [] zero stand_in d made same at own = absurd (none-some d at)
put_back_names left [] (suc place) stand_in d made same at own = absurd (none-some d at)
put_back_names [] (first ∷ others) zero stand_in d made same at own = absurd (never_longer (length (faces others)) (ap length same))
put_back_names [] (first ∷ others) (suc place) stand_in d made same at own = absurd (never_longer (length (faces (slice_set others place stand_in))) (ap length same))
put_back_names (one ∷ more) (first ∷ others) zero stand_in d made same at own =
    ap (λ (n : List ℕ). n ∷ device_names more) (own ∙ ap (λ (x : Device). x.name) (sym (same_Some first d at)))
    ∙ ap (λ (names : List (List ℕ)). first.name ∷ names) (same_names more others (ap rest_of same))
put_back_names (one ∷ more) (first ∷ others) (suc place) stand_in d made same at own =
    ap (λ (n : List ℕ). n ∷ device_names (slice_set more place made)) (ap first_name same)
    ∙ ap (λ (names : List (List ℕ)). first.name ∷ names) (put_back_names more others place stand_in d made (ap rest_of same) at own)

-- it stands at its place then
abbrev later_names : List (List ℕ) → List (List ℕ)
later_names [] = []
later_names (name ∷ names) = names

pub put_there : (left devices : List Device) (place : ℕ) (made d : Device) → device_names (slice_set left place made) ≡ device_names devices
    → slice_get devices place ≡ Some d → slice_get (slice_set left place made) place ≡ Some made
put_there left [] zero made d same at = absurd (none-some d at)
put_there left [] (suc place) made d same at = absurd (none-some d at)
put_there [] (first ∷ others) zero made d same at = absurd (never_longer (length (device_names others)) (ap length same))
put_there [] (first ∷ others) (suc place) made d same at = absurd (never_longer (length (device_names others)) (ap length same))
put_there (one ∷ more) (first ∷ others) zero made d same at = refl
put_there (one ∷ more) (first ∷ others) (suc place) made d same at = put_there more others place made d (ap later_names same) at
