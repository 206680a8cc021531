use Rattle.std.proofs.Common.{◌≡◌, ◌∙◌}
use Rattle.ak_faults.proofs.Healths.{cause_after}
use Rattle.ak_keep.specs.Collections.{Holding}
use Rattle.ak_queue.specs.Queues.{queue_ahead, queue_asked, queue_within}
use Rattle.ak_queue.specs.Scopes.{scope_seen}
use Rattle.ak_queue.specs.declared.day_queues.DayQueue.{DayQueue}
use Rattle.ak_queue.proofs.Assembled.{answer_told, queue_told}
use Rattle.ak_queue.proofs.queues.queue_of_deck.Goals as goal

pub returns : goal.returns
returns g c =
    let told = (g.R.Lookup.keeping c.args.from.now).told in
    let first = c.in_ok-decks.ensures.reads in
    let then = c.queue_within.ensures.reads in
    let scope = c.in_ok-scope.scope in
    record {
      reads = record {
        kept = then.kept ∙ first.kept;
        same = then.same ∙ first.same;
        cause = cause_after first.cause.goes then.cause;
        told = answer_told told c.queue_within.result (λ (h : Holding) (queue : DayQueue). queue ≡ queue_asked scope.for_next (queue_within h (scope_seen scope) c.args.deck.now c.in_ok-decks.decks))
            (λ (h : Holding) (queue : DayQueue). queue ≡ queue_ahead h c.args.ahead c.args.deck.now)
            (λ queue is. queue_told told c.args.deck.now c.args.ahead c.in_ok-decks.decks (scope_seen scope) scope.for_next queue first.told c.in_ok-scope.ensures.seen c.in_ok-scope.ensures.asked is)
            (rw (first.same, c.as_slice.ensures) at then.told);
      };
    }
