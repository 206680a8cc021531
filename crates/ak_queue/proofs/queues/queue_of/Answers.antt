use Rattle.std.proofs.Common.{◌≡◌, Some, rules, w64}
use Rattle.std.proofs.lemmas.Int.{to_z-of_z}
use mir.Val.{SFits}
use Rattle.ak_keep.specs.Collections.{Holding}
use Rattle.ak_queue.specs.Queues.{queue_ahead_of, queue_of}
use Rattle.ak_queue.specs.declared.day_queues.DayQueue.{DayQueue}
use Rattle.ak_queue.proofs.Asking.{asked_after}
use Rattle.ak_queue.proofs.Assembled.{whole_told}
use Rattle.ak_queue.proofs.queues.queue_of.Goals as goal

pub returns : goal.returns
returns g c =
    let fits : SFits w64 c.args.deck = search rules in
    let first = c.in_ok-head.ensures.reads in
    asked_after g.R.Lookup c.args.deck c.args.from.now c.head.new.self c.queue_ahead_of.new.from c.queue_ahead_of.result
    (λ (h : Holding) (queue : DayQueue). queue_ahead_of h c.ahead_in.result c.args.deck ≡ Some queue)
    (λ (h : Holding) (queue : DayQueue). queue_of h c.args.day c.args.deck ≡ Some queue) first.kept first.same first.cause.goes
    (λ queue is. whole_told (g.R.Lookup.keeping c.args.from.now).told c.args.day c.args.deck c.in_ok-head.head c.ahead_in.result queue c.ahead_in.ensures first.told is)
    (rw (to_z-of_z w64 c.args.deck fits) at c.queue_ahead_of.ensures)
