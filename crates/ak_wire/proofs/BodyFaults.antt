-- Why the bytes of a body are refused.
use Rattle.std.proofs.Common.{◌≡◌, ◌⊎◌, inl, inr, ℕ, List}
use Rattle.serde_json.specs.Data.{Data}
use Rattle.ak_json.specs.declared.faults.JsonFault.TheVariants as faults
use Rattle.ak_wire.specs.Faults.{OrMemory}
use Rattle.ak_wire.specs.Requests.{IsJsonOf, IsNoJson, RefusesBody}
use Rattle.ak_wire.specs.declared.wire_faults.WireFault.{WireFault}
use Rattle.ak_wire.specs.declared.wire_faults.WireFault.TheVariants as wires
use Rattle.ak_wire.proofs.Refusals.{each_is}

pub no_json : (faults_of : Data → WireFault → Type 0) (body : List ℕ) (fault : WireFault)
    → OrMemory (λ f. IsNoJson body × (f ≡ wires.Json faults.NotJson)) fault → RefusesBody faults_of body fault
no_json faults_of body fault h =
    each_is (λ f. IsNoJson body × (f ≡ wires.Json faults.NotJson)) (λ f. (IsNoJson body × (f ≡ wires.Json faults.NotJson)) ⊎ ((d : Data) × IsJsonOf body d × faults_of d f)) (λ f k. inl k) fault h

pub value_fails : (faults_of : Data → WireFault → Type 0) (body : List ℕ) (d : Data) (fault : WireFault)
    → OrMemory (faults_of d) fault → IsJsonOf body d → RefusesBody faults_of body fault
value_fails faults_of body d fault h is =
    each_is (faults_of d) (λ f. (IsNoJson body × (f ≡ wires.Json faults.NotJson)) ⊎ ((d : Data) × IsJsonOf body d × faults_of d f)) (λ f k. inr (d, is, k)) fault h
