use Rattle.std.proofs.Common.{◌≡◌, ◌∙◌, ℤ, Option, Some, rules, w64}
use Rattle.std.proofs.lemmas.Int.{to_z-of_z}
use Rattle.std.proofs.lemmas.Result.{err_from_is_err_and}
use mir.Val.{SFits}
use Rattle.ak_faults.proofs.Healths.{goes_further}
use Rattle.ak_keep.specs.Collections.{Holding}
use Rattle.ak_queue.specs.Nexts.{next_in}
use Rattle.ak_queue.specs.Queues.{queue_ahead_of}
use Rattle.ak_queue.specs.declared.day_queues.DayQueue.{DayQueue}
use Rattle.ak_queue.proofs.Asking.{answered, refused_after}
use Rattle.ak_queue.proofs.Assembled.{next_told}
use Rattle.ak_queue.proofs.nexts.next.Goals as goal

pub returns-in_err-queue : goal.returns-in_err-queue
returns-in_err-queue g c =
    let fits : SFits w64 c.args.deck = search rules in
    let first = c.in_ok-head.ensures.reads in
    let p = err_from_is_err_and c.from_residual-in_err-queue.result c.from_residual-in_err-queue.ensures.1 in
    rw (p.1, p.2)
    (refused_after g.R.Lookup c.args.deck c.args.from.now c.head.new.self c.queue_ahead_of.new.from c.in_err-queue.field-0.0 (λ (h : Holding) (queue : DayQueue). queue_ahead_of h c.ahead_in-ahead.result c.args.deck ≡ Some queue)
    (λ (h : Holding) (card : Option ℤ). next_in h c.args.progress c.args.deck ≡ Some card) first.kept first.same first.cause.goes (rw (to_z-of_z w64 c.args.deck fits) at c.in_err-queue.ensures))

pub returns : goal.returns
returns g c =
    let fits : SFits w64 c.args.deck = search rules in
    let first = c.in_ok-head.ensures.reads in
    let second = c.in_ok-queue.ensures in
    record {
      kept = second.kept ∙ first.kept;
      same = second.same ∙ first.same;
      cause = answered c.next_of.result (goes_further first.cause.goes second.cause.goes);
      missed = tt;
      others = tt;
      told = next_told (g.R.Lookup.keeping c.args.from.now).told c.args.progress.day c.args.deck c.args.progress.done c.in_ok-queue.queue c.in_ok-head.head c.ahead_in-ahead.result c.mixing_in.result c.next_of.result
          c.ahead_in-ahead.ensures first.told (rw (first.same, to_z-of_z w64 c.args.deck fits) at second.told) c.mixing_in.ensures c.next_of.ensures;
    }
