-- The clocks of devices.
use Rattle.std.proofs.Common.{◌≡◌, ℕ, zero, suc, ℤ, pos, negsuc, ◌+ℤ◌, ◌≤ℤ◌, SFits, w64, to_z, of_z, Bool, true, false, not, ◌&&◌, List, [], ◌∷◌, ◌++◌, Some, refl, sym, ap, ◌∙◌, arith, if◌then◌else◌, slice_get}
use Rattle.std.proofs.lemmas.Int.{ints, to_z-of_z}
use Rattle.std.proofs.lemmas.Option.{same_Some, none-some}
use Rattle.std.specs.Cmp.{first_so, second_so}
use Rattle.std.specs.List.{list_all}
use Rattle.std.specs.Prelude.{int_lt}
use Rattle.ak_io.specs.Arrivals.{IsClockMoment}
use Rattle.ak_lab_devices.specs.Devices.{are_in_time, device_of, is_clock_moment, same_name, with_device}
use Rattle.ak_lab_devices.specs.declared.devices.Device.{Device}

-- whether a device's clock may stand so
abbrev pub is_in_time : ℤ → Device → Bool
is_in_time clock d = is_clock_moment (clock +ℤ d.shift)

-- a moment that is one
pub clock_moment : (at : ℤ) → is_clock_moment at ≡ true → IsClockMoment at
clock_moment at is = record {
  low = let low : not (int_lt at (pos 0)) ≡ true = first_so (not (int_lt at (pos 0))) (not (int_lt (pos 4_294_967_294_999) at)) is in grind (arith, ints, low);
  high = let high : not (int_lt (pos 4_294_967_294_999) at) ≡ true = second_so (not (int_lt at (pos 0))) (not (int_lt (pos 4_294_967_294_999) at)) is in grind (arith, ints, high);
}

-- ---- as the program has them
pub moment_fits : (at : ℤ) → IsClockMoment at → SFits w64 at
moment_fits (pos n) is = let high = is.high in record { sfits = omega (arith, ints, high) }
moment_fits (negsuc n) is = let low = is.low in absurd (omega (arith, ints, low))

-- a shift from one moment to another
pub shift_fits : (clock shift : ℤ) → IsClockMoment clock → IsClockMoment (clock +ℤ shift) → SFits w64 shift
shift_fits (pos a) (pos n) lab own = let high : (pos a +ℤ pos n) ≤ℤ pos 4_294_967_294_999 = own.high in record { sfits = omega (arith, ints, high) }
shift_fits (pos a) (negsuc n) lab own =
    let high : pos a ≤ℤ pos 4_294_967_294_999 = lab.high in
    let low : pos 0 ≤ℤ (pos a +ℤ negsuc n) = own.low in
    record { sfits = omega (arith, ints, high, low) }
shift_fits (negsuc a) shift lab own = let low = lab.low in absurd (omega (arith, ints, low))

-- the clock of a device, computed
pub shifted : (clock shift : ℤ) → IsClockMoment clock → IsClockMoment (clock +ℤ shift)
    → to_z w64 (of_z w64 (to_z w64 (of_z w64 clock) +ℤ to_z w64 (of_z w64 shift))) ≡ clock +ℤ shift
shifted clock shift lab own =
    rw (to_z-of_z w64 clock (moment_fits clock lab), to_z-of_z w64 shift (shift_fits clock shift lab own))
    (to_z-of_z w64 (clock +ℤ shift) (moment_fits (clock +ℤ shift) own))

-- ---- the clocks that a lab has
-- the lab's clock
pub lab_in_time : (clock : ℤ) (devices : List Device) → are_in_time clock devices ≡ true → IsClockMoment clock
lab_in_time clock devices are = clock_moment clock (first_so (is_clock_moment clock) (list_all (is_in_time clock) devices) are)

found_in_time : (clock : ℤ) (name : List ℕ) (devices : List Device) (d : Device) → list_all (is_in_time clock) devices ≡ true → device_of name devices ≡ Some d → is_in_time clock d ≡ true
found_in_time clock name [] d all is = absurd (none-some d is)
found_in_time clock name (device ∷ devices) d all is =
    elim (same_name device.name name) as (λ (b : Bool). (if b then Some device else device_of name devices) ≡ Some d → is_in_time clock d ≡ true) [
      | true ↦ λ here. ap (is_in_time clock) (sym (same_Some device d here)) ∙ first_so (is_in_time clock device) (list_all (is_in_time clock) devices) all
      | false ↦ λ there. found_in_time clock name devices d (second_so (is_in_time clock device) (list_all (is_in_time clock) devices) all) there
    ] is

-- the clock of the device at a place
at_in_time : (clock : ℤ) (devices : List Device) (place : ℕ) (d : Device) → list_all (is_in_time clock) devices ≡ true → slice_get devices place ≡ Some d → is_in_time clock d ≡ true
at_in_time clock [] zero d all at = absurd (none-some d at)
at_in_time clock [] (suc n) d all at = absurd (none-some d at)
at_in_time clock (device ∷ devices) zero d all at =
    ap (is_in_time clock) (sym (same_Some device d at)) ∙ first_so (is_in_time clock device) (list_all (is_in_time clock) devices) all
at_in_time clock (device ∷ devices) (suc n) d all at =
    at_in_time clock devices n d (second_so (is_in_time clock device) (list_all (is_in_time clock) devices) all) at

pub place_in_time : (clock : ℤ) (devices : List Device) (place : ℕ) (d : Device) → are_in_time clock devices ≡ true → slice_get devices place ≡ Some d → IsClockMoment (clock +ℤ d.shift)
place_in_time clock devices place d are at =
    clock_moment (clock +ℤ d.shift) (at_in_time clock devices place d (second_so (is_clock_moment clock) (list_all (is_in_time clock) devices) are) at)

-- the clock of a device that is found
pub device_in_time : (clock : ℤ) (name : List ℕ) (devices : List Device) (d : Device) → are_in_time clock devices ≡ true → device_of name devices ≡ Some d → IsClockMoment (clock +ℤ d.shift)
device_in_time clock name devices d are is =
    clock_moment (clock +ℤ d.shift) (found_in_time clock name devices d (second_so (is_clock_moment clock) (list_all (is_in_time clock) devices) are) is)

both : (a b : Bool) → a ≡ true → b ≡ true → a && b ≡ true
both true true x y = refl
both true false x y = y
both false b x y = x

changed_in_time : (clock : ℤ) (made : Device) (devices : List Device) → list_all (is_in_time clock) devices ≡ true → is_in_time clock made ≡ true → list_all (is_in_time clock) (with_device made devices) ≡ true
changed_in_time clock made [] all is = refl
changed_in_time clock made (device ∷ devices) all is =
    let here : is_in_time clock device ≡ true = first_so (is_in_time clock device) (list_all (is_in_time clock) devices) all in
    let rest : list_all (is_in_time clock) devices ≡ true = second_so (is_in_time clock device) (list_all (is_in_time clock) devices) all in
    elim (same_name device.name made.name) as (λ (b : Bool). list_all (is_in_time clock) (if b then made ∷ devices else device ∷ with_device made devices) ≡ true) [
      | true ↦ both (is_in_time clock made) (list_all (is_in_time clock) devices) is rest
      | false ↦ both (is_in_time clock device) (list_all (is_in_time clock) (with_device made devices)) here (changed_in_time clock made devices rest is)
    ]

-- a device in time takes the place of another
pub still_in_time : (clock : ℤ) (made : Device) (devices : List Device) → are_in_time clock devices ≡ true → is_clock_moment (clock +ℤ made.shift) ≡ true → are_in_time clock (with_device made devices) ≡ true
still_in_time clock made devices are is =
    both (is_clock_moment clock) (list_all (is_in_time clock) (with_device made devices)) (first_so (is_clock_moment clock) (list_all (is_in_time clock) devices) are)
    (changed_in_time clock made devices (second_so (is_clock_moment clock) (list_all (is_in_time clock) devices) are) is)

-- one with the same shift
pub unshifted_in_time : (clock : ℤ) (name : List ℕ) (d made : Device) (devices : List Device) → are_in_time clock devices ≡ true → device_of name devices ≡ Some d → made.shift ≡ d.shift
    → are_in_time clock (with_device made devices) ≡ true
unshifted_in_time clock name d made devices are found same =
    still_in_time clock made devices are
    (ap (λ (shift : ℤ). is_clock_moment (clock +ℤ shift)) same ∙ found_in_time clock name devices d (second_so (is_clock_moment clock) (list_all (is_in_time clock) devices) are) found)

all_more : (clock : ℤ) (made : Device) (devices : List Device) → list_all (is_in_time clock) devices ≡ true → is_in_time clock made ≡ true → list_all (is_in_time clock) (devices ++ made ∷ []) ≡ true
all_more clock made [] all is = both (is_in_time clock made) true is refl
all_more clock made (device ∷ devices) all is =
    both (is_in_time clock device) (list_all (is_in_time clock) (devices ++ made ∷ [])) (first_so (is_in_time clock device) (list_all (is_in_time clock) devices) all)
    (all_more clock made devices (second_so (is_in_time clock device) (list_all (is_in_time clock) devices) all) is)

unshifted : (clock : ℤ) → clock +ℤ pos 0 ≡ clock
unshifted clock = grind (arith, ints)

-- a new device, without a shift
pub new_in_time : (clock : ℤ) (made : Device) (devices : List Device) → are_in_time clock devices ≡ true → made.shift ≡ pos 0 → are_in_time clock (devices ++ made ∷ []) ≡ true
new_in_time clock made devices are none =
    let lab : is_clock_moment clock ≡ true = first_so (is_clock_moment clock) (list_all (is_in_time clock) devices) are in
    both (is_clock_moment clock) (list_all (is_in_time clock) (devices ++ made ∷ [])) lab
    (all_more clock made devices (second_so (is_clock_moment clock) (list_all (is_in_time clock) devices) are)
    (ap (λ (shift : ℤ). is_clock_moment (clock +ℤ shift)) none ∙ ap is_clock_moment (unshifted clock) ∙ lab))
