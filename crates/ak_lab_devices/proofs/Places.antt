-- Where the device of a name stands: at the first place whose device has it.
use Rattle.std.proofs.Common.{◌≡◌, ◌<◌, ◌≤◌, ◌+◌, ℕ, suc, Bool, true, false, cond, not, if◌then◌else◌, List, [], ◌∷◌, length, drop, get_or, Some, None, refl, sym, ap, ◌∙◌, one-add, drop-cons, slice_get, slice_set}
use Rattle.std.proofs.lemmas.List.Sums.{prefix_len-le-length}
use Rattle.std.proofs.lemmas.Option.{get_or_from_slice_get}
use Rattle.std.specs.Cmp.Lexicographic.{bytes_decides}
use Rattle.std.specs.List.{position_or_len}
use Rattle.ak_lab_devices.specs.Devices.{IsPlaceOf, device_of, same_name, with_device}
use Rattle.ak_lab_devices.specs.declared.devices.Device.{Device}
use native.Mathlib.Omega.{arith}

-- whether a device has this name
abbrev pub has_name : List ℕ → Device → Bool
has_name name device = same_name device.name name

pub name_is : (name : List ℕ) (device : Device) → has_name name device ≡ true → device.name ≡ name
name_is name device has = (bytes_decides device.name name).0 has

-- the device that is found by a name has it
pub found_has_name : (name : List ℕ) (devices : List Device) (device : Device) → device_of name devices ≡ Some device
    → device.name ≡ name
found_has_name name [] device is = cc
found_has_name name (first ∷ others) device is =
    elim (same_name first.name name) as (λ b. same_name first.name name ≡ b → (if b then Some first else device_of name others) ≡ Some device → device.name ≡ name) [
      | true ↦ λ has found. let same : first ≡ device = cc in name_is name device (ap (has_name name) (sym same) ∙ has)
      | false ↦ λ lacks found. found_has_name name others device found
    ] refl is

-- the device at the first place is the one that is found
held_first : (name : List ℕ) (devices : List Device) (device : Device)
    → slice_get devices (position_or_len (has_name name) devices) ≡ Some device → device_of name devices ≡ Some device
held_first name [] device got = got
held_first name (first ∷ others) device got =
    elim (same_name first.name name) as (λ b. slice_get (first ∷ others) (cond (not b) (1 + position_or_len (has_name name) others) 0) ≡ Some device
    → (if b then Some first else device_of name others) ≡ Some device) [
      | true ↦ λ at. at
      | false ↦ λ at. held_first name others device (rw one-add at at)
    ] got

-- to put a device there is to put it in the place of the one of its name
set_first : (made : Device) (devices : List Device)
    → with_device made devices ≡ slice_set devices (position_or_len (has_name made.name) devices) made
set_first made [] = refl
set_first made (first ∷ others) =
    elim (same_name first.name made.name) as (λ b. (if b then made ∷ others else first ∷ with_device made others)
    ≡ slice_set (first ∷ others) (cond (not b) (1 + position_or_len (has_name made.name) others) 0) made) [
      | true ↦ refl
      | false ↦ rw one-add (ap (λ (l : List Device). first ∷ l) (set_first made others))
    ]

-- no device is found if none has the name
none_first : (name : List ℕ) (devices : List Device) → position_or_len (has_name name) devices ≡ length devices
    → device_of name devices ≡ None
none_first name [] is = refl
none_first name (first ∷ others) is =
    elim (same_name first.name name) as (λ b. cond (not b) (1 + position_or_len (has_name name) others) 0 ≡ length (first ∷ others)
    → (if b then Some first else device_of name others) ≡ None) [
      | true ↦ λ at. absurd (omega (arith, at))
      | false ↦ λ at. none_first name others (omega (arith, at))
    ] is

-- no place is left, and none had the name
pub none_left : (name : List ℕ) (devices : List Device) (place : ℕ) → length devices ≤ place
    → place + position_or_len (has_name name) (drop place devices) ≡ position_or_len (has_name name) devices
    → device_of name devices ≡ None
none_left name devices place past first =
    none_first name devices (omega (arith, past, first, prefix_len-le-length (λ (d : Device). not (has_name name d)) devices))

-- the first device of the name was found
pub found : (name : List ℕ) (devices : List Device) (place : ℕ) (device : Device) → place < length devices
    → device ≡ get_or devices place device → has_name name device ≡ true
    → place + position_or_len (has_name name) (drop place devices) ≡ position_or_len (has_name name) devices
    → IsPlaceOf name devices place
found name devices place device within is has first = record {
  within = within;
  named = λ other got. name_is name other (ap (has_name name) (sym (is ∙ get_or_from_slice_get devices place other device got)) ∙ has);
  held = λ other got. held_first name devices other (ap (slice_get devices) (sym at) ∙ got);
  set = λ made same. set_first made devices
      ∙ ap (λ (n : List ℕ). slice_set devices (position_or_len (has_name n) devices) made) same
      ∙ ap (λ (n : ℕ). slice_set devices n made) (sym at);
}
  where
    here : drop place devices ≡ device ∷ drop (suc place) devices
    here = drop-cons devices place device within ∙ ap (λ x. x ∷ drop (suc place) devices) (sym is)

    none : position_or_len (has_name name) (drop place devices) ≡ 0
    none = ap (position_or_len (has_name name)) here
        ∙ ap (λ b. cond (not b) (1 + position_or_len (has_name name) (drop (suc place) devices)) 0) has

    at : place ≡ position_or_len (has_name name) devices
    at = omega (arith, none, first)
