use Rattle.std.proofs.Common.{arith, rules}
use Rattle.std.proofs.lemmas.List.{nil_from_length}
use Rattle.std.proofs.lemmas.Bool.Decides.{nat_tests}
use Rattle.ak_sched.proofs.Forgotten.{lapse_suspended, lapse_without_steps, lapse_with_steps}
use Rattle.ak_sched.proofs.transitions.lapse.Goals as goal

pub returns-then-suspends-clause-value : goal.returns-then-suspends-clause-value
returns-then-suspends-clause-value c =
    lapse_suspended _ _ _ _ c.is_met-leech.result c.suspends.result (record { met = search rules; acts = search rules }) c.if-suspends.true (search rules)

pub returns-then-is_empty-clause-value : goal.returns-then-is_empty-clause-value
returns-then-is_empty-clause-value c =
    lapse_without_steps _ _ _ _ c.is_met-leech.result c.suspends.result (record { met = search rules; acts = search rules }) c.if-suspends.false (nil_from_length _ (grind (arith, nat_tests))) (search rules)

pub returns-clause-value : goal.returns-clause-value
returns-clause-value c =
    lapse_with_steps _ _ _ _ c.is_met-leech.result c.suspends.result c.left_of-left.result (record { met = search rules; acts = search rules }) c.if-suspends.false (search rules) (search rules) (search rules)
