-- What a fault tells.
use Rattle.std.specs.Prelude.{◌≡◌, ◌⊎◌, [], Option, Some}
use Rattle.ak_json.specs.Keys.{place_text}
use Rattle.ak_json.specs.declared.faults.JsonFault.{JsonFault}
use Rattle.ak_json.specs.declared.faults.JsonFault.TheVariants as faults
use Rattle.ak_json.specs.declared.form_faults.FormFault.{FormFault}
use Rattle.ak_json.specs.declared.form_faults.FormFault.TheVariants as form_faults

-- the fault that tells of a fault
abbrev pub told : FormFault → JsonFault
told form_faults.WholeValue = faults.WrongKind []
told (form_faults.Missing place) = faults.Missing (place_text place)
told (form_faults.WrongKind place) = faults.WrongKind (place_text place)

-- the fault is the one that is wanted, or memory was out
abbrev pub Tells : Option JsonFault → JsonFault → Type 0
Tells wanted faults.NotJson = ⊥
Tells wanted (faults.Missing text) = wanted ≡ Some (faults.Missing text)
Tells wanted (faults.WrongKind text) = wanted ≡ Some (faults.WrongKind text)
Tells wanted (faults.Row fault) = ⊥
Tells wanted faults.Memory = Unit {0}

-- what refuses a value does so only if memory is out
abbrev pub OnlyMemory : (JsonFault → Type 0) → Type 0
OnlyMemory refuses = (fault : JsonFault) → refuses fault → fault ≡ faults.Memory

-- two faults that refuse a value are equal, unless memory was out at one of them
abbrev pub AtMostOneFault : (JsonFault → Type 0) → Type 0
AtMostOneFault refuses = (a b : JsonFault) → refuses a → refuses b → (a ≡ b) ⊎ ((a ≡ faults.Memory) ⊎ (b ≡ faults.Memory))

-- some fault refuses a value, though memory is not out
abbrev pub SomeFault : (JsonFault → Type 0) → Type 0
SomeFault refuses = (fault : JsonFault) × refuses fault × (fault ≡ faults.Memory → ⊥)
