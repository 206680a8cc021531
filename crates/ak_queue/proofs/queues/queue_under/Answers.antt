use Rattle.std.proofs.Common.{◌∙◌}
use Rattle.ak_faults.proofs.Healths.{goes_further}
use Rattle.ak_keep.proofs.Causing.{cause-ok}
use Rattle.ak_queue.specs.Scopes.{scope_seen}
use Rattle.ak_queue.proofs.Assembled.{lists_told}
use Rattle.ak_queue.proofs.queues.queue_under.Goals as goal

pub returns : goal.returns
returns g c =
    let first = c.in_ok-gathered.ensures.reads in
    let then = c.in_ok-gather_reviews.ensures.reads in
    record {
      reads = record {
        kept = then.kept ∙ first.kept;
        same = then.same ∙ first.same;
        cause = cause-ok c.in_ok-queue.queue (goes_further first.cause.goes then.cause.goes);
        told = lists_told (g.R.Lookup.keeping c.args.from.now).told c.args.scope.now.for_next (scope_seen c.args.scope.now) c.in_ok-gathered.gathered c.gather_reviews.new.gathered c.args.own.now c.args.limits.now
            c.most_reviews-most.result c.needed_reviews.result c.in_ok-new_cards.new_cards c.in_ok-queue.queue c.in_ok-gathered.ensures.most c.most_reviews-most.ensures c.needed_reviews.ensures
            c.in_ok-gather_reviews.ensures.most c.in_ok-new_cards.ensures first.told (rw first.same at then.told) c.in_ok-queue.ensures;
      };
    }
