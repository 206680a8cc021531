use Rattle.std.proofs.Common.{arith, rules, w64, SFits}
use Rattle.std.proofs.lemmas.Int.{to_z-of_z}
use Rattle.ak_sched.proofs.Numbers.{clamped_le}
use Rattle.ak_away_answers.proofs.early_intervals.days_passed.Goals as goal

pub returns-clause-high : goal.returns-clause-high
returns-clause-high c =
    let fits : SFits w64 c.days_since.result = search rules in
    let few = clamped_le c.days_since.result 2_149_000_000 c.days_since.ensures.high in
    omega (arith, few, rw (to_z-of_z w64 c.days_since.result fits) at c.clamped_to_zero.ensures)
