-- The device at the place where its name stands.
use Rattle.std.proofs.Common.{◌≡◌, ◌<◌, ◌≤◌, ◌⊎◌, ℕ, List, Some, None, length, get_or, refl, sym, ap, ◌∙◌, arith, inl, inr, slice_get, slice_set}
use Rattle.std.proofs.lemmas.List.{set-get_or}
use Rattle.std.proofs.lemmas.Option.{get_or_from_slice_get, slice_get_cases, slice_get_read}
use Rattle.ak_lab_devices.specs.Devices.{IsPlaceOf, device_of}
use Rattle.ak_lab_devices.specs.declared.devices.Device.{Device}

-- a device stands at the place, and is the one of the name
pub record StandsThere (name : List ℕ) (devices : List Device) (place : ℕ) : Type 0 where
  pub d : Device
  pub at : slice_get devices place ≡ Some d
  pub found : device_of name devices ≡ Some d
  pub named : d.name ≡ name

pub placed : (name : List ℕ) (devices : List Device) (place : ℕ) → IsPlaceOf name devices place → StandsThere name devices place
placed name devices place is = by_cases (slice_get_cases devices place).1
  where
    by_cases : ((d : Device) × (place < length devices) × (slice_get devices place ≡ Some d) × (get_or devices place d ≡ d)) ⊎ ((length devices ≤ place) × (slice_get devices place ≡ None))
        → StandsThere name devices place
    by_cases (inl (d, within, at, read)) = record { d = d; at = at; found = is.held d at; named = is.named d at }
    by_cases (inr (past, none)) = absurd (omega (arith, past, is.within))

-- to put back what stands there changes nothing
pub put_back : (devices : List Device) (place : ℕ) (d : Device) → slice_get devices place ≡ Some d → slice_set devices place d ≡ devices
put_back devices place d at =
    ap (λ (x : Device). slice_set devices place x) (sym (get_or_from_slice_get devices place d d at)) ∙ set-get_or devices place d

-- the same of a device that was read there
pub read_there : (name : List ℕ) (devices : List Device) (place : ℕ) (d : Device) → IsPlaceOf name devices place → d ≡ get_or devices place d
    → (slice_get devices place ≡ Some d) × (device_of name devices ≡ Some d) × (d.name ≡ name)
read_there name devices place d is read =
    let at = slice_get_read devices (length devices) place d refl is.within read in
    (at, is.held d at, is.named d at)

-- a device that was read at a place and did not change is put back
pub back_there : (devices : List Device) (place : ℕ) (d made : Device) → place < length devices → d ≡ get_or devices place d → made ≡ d → slice_set devices place made ≡ devices
back_there devices place d made within read same =
    ap (λ (x : Device). slice_set devices place x) same ∙ put_back devices place d (slice_get_read devices (length devices) place d refl within read)
