use Rattle.ak_sched.proofs.Days.{today_at}
use Rattle.ak_sched.proofs.steps.steps_today.Goals as goal

pub returns-then-total-seconds_left-clause-today : goal.returns-then-total-seconds_left-clause-today
returns-then-total-seconds_left-clause-today c =
    today_at _ _ _ c.loop-done.done _ c.count_of-count.result c.max-most.result c.loop-done.total c.delay_of-total.result
    c.count_of-count.ensures.value c.count_of-count.ensures.low (cc) c.max.ensures c.loop-done-test.true
    c.loop-done.invariant.is c.loop-done.invariant.within c.delay_of-total.ensures.value c.if-total-seconds_left.true
