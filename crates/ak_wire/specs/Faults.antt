-- Why a body is not a message: the first fault, in a stated order.
use Rattle.std.specs.Prelude.{◌≡◌, ◌⊎◌, ◌++◌, ℕ, List, [], ◌∷◌, Bool, true, false, Option, Some, None}
use Rattle.serde_json.specs.Data.{Data, Items, no_items, item}
use Rattle.ak_base.specs.declared.names.Table.{Table}
use Rattle.ak_json.specs.declared.faults.JsonFault.{JsonFault}
use Rattle.ak_json.specs.declared.faults.JsonFault.TheVariants as faults
use Rattle.ak_wire.specs.declared.wire_faults.WireFault.{WireFault}
use Rattle.ak_wire.specs.declared.wire_faults.WireFault.TheVariants.{Json, TooManyRows, RowOrder, Memory}

-- a fault of JSON as one of a message; running out of memory stays one of its own
abbrev pub of_json : JsonFault → WireFault
of_json faults.NotJson = Json faults.NotJson
of_json (faults.Missing text) = Json (faults.Missing text)
of_json (faults.WrongKind text) = Json (faults.WrongKind text)
of_json (faults.Row fault) = Json (faults.Row fault)
of_json faults.Memory = Memory

-- a key is not there
abbrev pub missing : List ℕ → WireFault
missing key = Json (faults.Missing key)

-- a value is not of its form
abbrev pub wrong_kind : List ℕ → WireFault
wrong_kind key = Json (faults.WrongKind key)

-- the fault is one of these, or memory was out
abbrev pub OrMemory : (WireFault → Type 0) → WireFault → Type 0
OrMemory these (Json fault) = these (Json fault)
OrMemory these (TooManyRows entries) = these (TooManyRows entries)
OrMemory these (RowOrder table) = these (RowOrder table)
OrMemory these Memory = Unit {0}

-- the fault is this one, if there is one
abbrev pub Is : Option WireFault → WireFault → Type 0
Is None fault = ⊥
Is (Some first) fault = fault ≡ first

-- the fault is this one, if there is one, else one of these
abbrev pub First : Option WireFault → (WireFault → Type 0) → WireFault → Type 0
First None others fault = others fault
First (Some first) others fault = fault ≡ first

-- the fault is one of these, or what is read first has none and it is one of those of what follows
abbrev pub Then : {A : Type 0} → (WireFault → Type 0) → (A → Type 0) → (WireFault → Type 0) → WireFault → Type 0
Then {A = A} these reads others fault = these fault ⊎ (((first : A) × reads first) × others fault)

-- each value of a list is read as the part at its place
abbrev pub ReadsEach : {A : Type 0} → (Data → A → Type 0) → Items → List A → Type 0
ReadsEach reads no_items [] = Unit {0}
ReadsEach reads no_items (part ∷ parts) = ⊥
ReadsEach reads (item d ds) [] = ⊥
ReadsEach reads (item d ds) (part ∷ parts) = reads d part × ReadsEach reads ds parts

-- the fault is one of the first value of a list that is not read
abbrev pub RefusesEach : {A : Type 0} → (Data → A → Type 0) → (Data → WireFault → Type 0) → Items → WireFault → Type 0
RefusesEach reads refuses no_items fault = ⊥
RefusesEach reads refuses (item d ds) fault = Then (refuses d) (reads d) (RefusesEach reads refuses ds) fault

-- the part that a value is read as is added to others
abbrev pub AddsPart : {A : Type 0} → (Data → A → Type 0) → Data → List A → List A → Type 0
AddsPart {A = A} reads d old new = (part : A) × reads d part × (new ≡ old ++ part ∷ [])

-- it is added if it is wanted, and else none is
abbrev pub AddsIf : {A : Type 0} → Bool → (Data → A → Type 0) → Data → List A → List A → Type 0
AddsIf true reads d old new = AddsPart reads d old new
AddsIf false reads d old new = new ≡ old

-- two things that a value or a body is read as are equal
abbrev pub AtMostOne : {A : Type 0} → (A → Type 0) → Type 0
AtMostOne {A = A} reads = (a b : A) → reads a → reads b → a ≡ b

-- what refuses it does so only if memory is out
abbrev pub OnlyMemory : (WireFault → Type 0) → Type 0
OnlyMemory refuses = (fault : WireFault) → refuses fault → fault ≡ Memory

-- if it is read, it is refused only if memory is out
abbrev pub IsNotRefused : {A : Type 0} → (A → Type 0) → (WireFault → Type 0) → Type 0
IsNotRefused {A = A} reads refuses = (made : A) → reads made → OnlyMemory refuses

-- two faults that refuse it are equal, unless memory was out at one of them
abbrev pub AtMostOneFault : (WireFault → Type 0) → Type 0
AtMostOneFault refuses = (a b : WireFault) → refuses a → refuses b → (a ≡ b) ⊎ ((a ≡ Memory) ⊎ (b ≡ Memory))

-- it is read, or some fault refuses it, though memory is not out
abbrev pub IsReadOrRefused : {A : Type 0} → (A → Type 0) → (WireFault → Type 0) → Type 0
IsReadOrRefused {A = A} reads refuses = ((made : A) × reads made) ⊎ ((fault : WireFault) × refuses fault × (fault ≡ Memory → ⊥))
