-- The test for a leech: what is over the fails is a multiple of half of them.
use Rattle.std.proofs.Common.{◌≡◌, ℕ, ◌-◌, ◌*◌, ◌/◌, ◌%◌, ◌<◌, ◌≤◌, max, arith, IsTrue, ◌∙◌, ap}
use lib.Dec.{eqb}
use Rattle.std.proofs.lemmas.Bool.Decides.{nat_tests}
use Rattle.std.proofs.lemmas.Nat.{div-add-mod'}
use Rattle.std.proofs.Math.Nat.{mul-mod_left}
use Rattle.ak_sched.specs.Leeches.{IsLeech}

pub leech_by_rest : (l f : ℕ) → 0 < f → f ≤ l → IsTrue (eqb ((l - f) % max (f / 2) 1) 0) → IsLeech l f
leech_by_rest l f some over test =
    let rest : (l - f) % max (f / 2) 1 ≡ 0 = grind (arith, nat_tests) in
    let split = div-add-mod' (l - f) (max (f / 2) 1) in
    record { tested = some; halves = (l - f) / max (f / 2) 1; met = omega arith }

pub rest_by_leech : (l f : ℕ) → IsLeech l f → IsTrue (eqb ((l - f) % max (f / 2) 1) 0)
rest_by_leech l f h =
    let over : l - f ≡ h.halves * max (f / 2) 1 = omega (arith, h.met) in
    let rest : (l - f) % max (f / 2) 1 ≡ 0 = ap (λ n. n % max (f / 2) 1) over ∙ mul-mod_left h.halves (max (f / 2) 1) in
    grind (arith, nat_tests)
