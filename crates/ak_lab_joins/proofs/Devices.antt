-- The devices of a lab, once one of them was changed or one came.
use Rattle.std.proofs.Common.{◌≡◌, ◌≢◌, ◌⊎◌, ℕ, Bool, true, false, if◌then◌else◌, List, [], ◌∷◌, ◌++◌, Option, Some, None, refl, sym, ap, ◌∙◌, inl, inr, arith}
use Rattle.std.proofs.lemmas.Option.{none-some, same_Some}
use Rattle.std.specs.Cmp.Lexicographic.{bytes_decides}
use Rattle.ak_lab_devices.proofs.Places.{name_is}
use Rattle.ak_lab_devices.specs.Devices.{device_of, same_name, with_device}
use Rattle.ak_lab_devices.specs.declared.devices.Device.{Device}

pub same_is : (a b : List ℕ) → a ≡ b → same_name a b ≡ true
same_is a b is = (bytes_decides a b).1 is

pub not_both : {b : Bool} → b ≡ true → b ≡ false → ⊥
not_both is not = grind (arith, is, not)

-- a device that is found is the changed one, or was found before
pub changed_or_old : (made : Device) (devices : List Device) (name : List ℕ) (found : Device) → device_of name (with_device made devices) ≡ Some found
    → (made ≡ found) ⊎ (device_of name devices ≡ Some found)
changed_or_old made [] name found is = inr is
changed_or_old made (first ∷ others) name found is = by (λ later. changed_or_old made others name found later) (same_name first.name made.name) refl is
  where
    put : (b : Bool) → same_name made.name name ≡ b → same_name first.name made.name ≡ true
        → (if b then Some made else device_of name others) ≡ Some found → (made ≡ found) ⊎ (device_of name (first ∷ others) ≡ Some found)
    put true at has is = inl (same_Some made found is)
    put false at has is =
        let same : same_name first.name name ≡ false = ap (λ (n : List ℕ). same_name n name) (name_is made.name first has) ∙ at in
        inr (ap (λ (b : Bool). if b then Some first else device_of name others) same ∙ is)

    later : (device_of name (with_device made others) ≡ Some found → (made ≡ found) ⊎ (device_of name others ≡ Some found))
        → (b : Bool) → (if b then Some first else device_of name (with_device made others)) ≡ Some found
        → (made ≡ found) ⊎ ((if b then Some first else device_of name others) ≡ Some found)
    later rest true is = inr is
    later rest false is = rest is

    by : (device_of name (with_device made others) ≡ Some found → (made ≡ found) ⊎ (device_of name others ≡ Some found))
        → (b : Bool) → same_name first.name made.name ≡ b → device_of name (if b then made ∷ others else first ∷ with_device made others) ≡ Some found
        → (made ≡ found) ⊎ (device_of name (first ∷ others) ≡ Some found)
    by rest true has is = put (same_name made.name name) refl has is
    by rest false lacks is = later rest (same_name first.name name) is

-- the changed one is found by its name, if there was one of its name
pub changed_found : (made d : Device) (devices : List Device) (name : List ℕ) → made.name ≡ name → device_of name devices ≡ Some d
    → device_of name (with_device made devices) ≡ Some made
changed_found made d [] name own found = absurd (none-some d found)
changed_found made d (first ∷ others) name own found =
    by (λ later. changed_found made d others name own later) (same_name first.name made.name) refl found
  where
    later : (device_of name others ≡ Some d → device_of name (with_device made others) ≡ Some made) → (b : Bool) → b ≡ false
        → (if b then Some first else device_of name others) ≡ Some d → (if b then Some first else device_of name (with_device made others)) ≡ Some made
    later rest true at is = absurd (not_both refl at)
    later rest false at is = rest is

    by : (device_of name others ≡ Some d → device_of name (with_device made others) ≡ Some made) → (b : Bool) → same_name first.name made.name ≡ b
        → device_of name (first ∷ others) ≡ Some d
        → device_of name (if b then made ∷ others else first ∷ with_device made others) ≡ Some made
    by rest true has is = ap (λ (b : Bool). if b then Some made else device_of name others) (same_is made.name name own)
    by rest false lacks is = later rest (same_name first.name name) (ap (same_name first.name) (sym own) ∙ lacks) is

-- every other one is found as before
pub others_found : (made : Device) (devices : List Device) (name : List ℕ) → made.name ≢ name → device_of name (with_device made devices) ≡ device_of name devices
others_found made [] name differ = refl
others_found made (first ∷ others) name differ = by (others_found made others name differ) (same_name first.name made.name) refl
  where
    lacks : (b : Bool) → same_name made.name name ≡ b → b ≡ false
    lacks true is = absurd (differ ((bytes_decides made.name name).0 is))
    lacks false is = refl

    by : device_of name (with_device made others) ≡ device_of name others → (b : Bool) → same_name first.name made.name ≡ b
        → device_of name (if b then made ∷ others else first ∷ with_device made others) ≡ device_of name (first ∷ others)
    by rest true has =
        let none : same_name made.name name ≡ false = lacks (same_name made.name name) refl in
        let first_none : same_name first.name name ≡ false = ap (λ (n : List ℕ). same_name n name) (name_is made.name first has) ∙ none in
        ap (λ (b : Bool). if b then Some made else device_of name others) none
        ∙ sym (ap (λ (b : Bool). if b then Some first else device_of name others) first_none)
    by rest false other = ap (λ (o : Option Device). if same_name first.name name then Some first else o) rest

-- a device that is found is the one that came last, or was found before
pub new_or_old : (made : Device) (devices : List Device) (name : List ℕ) (found : Device) → device_of name (devices ++ made ∷ []) ≡ Some found
    → (made ≡ found) ⊎ (device_of name devices ≡ Some found)
new_or_old made [] name found is = by (same_name made.name name) is
  where
    by : (b : Bool) → (if b then Some made else None) ≡ Some found → (made ≡ found) ⊎ (device_of name [] ≡ Some found)
    by true is = inl (same_Some made found is)
    by false is = inr is
new_or_old made (first ∷ others) name found is = by (λ later. new_or_old made others name found later) (same_name first.name name) is
  where
    by : (device_of name (others ++ made ∷ []) ≡ Some found → (made ≡ found) ⊎ (device_of name others ≡ Some found)) → (b : Bool) → (if b then Some first else device_of name (others ++ made ∷ [])) ≡ Some found
        → (made ≡ found) ⊎ ((if b then Some first else device_of name others) ≡ Some found)
    by rest true is = inr is
    by rest false is = rest is
