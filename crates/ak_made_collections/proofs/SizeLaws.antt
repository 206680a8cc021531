-- Which numbers are sizes.
use Rattle.std.proofs.Common.{◌≡◌, ◌↔◌, ℕ, Bool, true, false, nat_lt, if◌then◌else◌, Some, None, refl, arith}
use Rattle.std.proofs.lemmas.Bool.Decides.{nat_tests}
use Rattle.std.proofs.lemmas.Option.{none-some}
use Rattle.ak_made_collections.specs.Sizes.{IsSize, size_in}

size_of_tests : (notes : ℕ) (under over : Bool) → nat_lt notes 1 ≡ under → nat_lt 20_000 notes ≡ over
    → (if under then None else if over then None else Some notes) ≡ Some notes → IsSize notes
size_of_tests notes false false low high some = record { low = grind (arith, nat_tests, low); high = grind (arith, nat_tests, high) }
size_of_tests notes true over low high some = absurd (none-some notes some)
size_of_tests notes false true low high some = absurd (none-some notes some)

tests_of_size : (notes : ℕ) → IsSize notes → size_in notes ≡ Some notes
tests_of_size notes is =
    let not_less : nat_lt notes 1 ≡ false = grind (arith, nat_tests, is.low) in
    let not_more : nat_lt 20_000 notes ≡ false = grind (arith, nat_tests, is.high) in
    rw (not_less, not_more) refl

pub sizes_exactly : (notes : ℕ) → IsSize notes ↔ (size_in notes ≡ Some notes)
sizes_exactly notes = (tests_of_size notes, size_of_tests notes (nat_lt notes 1) (nat_lt 20_000 notes) refl refl)
