use Rattle.std.proofs.Common.{◌∙◌, rules, w64}
use Rattle.std.proofs.lemmas.Int.{to_z-of_z}
use mir.Val.{SFits}
use Rattle.ak_faults.proofs.Healths.{goes_further}
use Rattle.ak_keep.proofs.Causing.{cause-ok}
use Rattle.ak_queue.proofs.Assembled.{found_told}
use Rattle.ak_queue.proofs.queues.read_queue.Goals as goal

pub returns-in_ok-queue-in-Some : goal.returns-in_ok-queue-in-Some
returns-in_ok-queue-in-Some g c =
    let fits : SFits w64 c.args.deck = search rules in
    let first = c.in_ok-found.ensures.reads in
    let then = c.in_ok-queue-in-Some.ensures.reads in
    record {
      reads = record {
        kept = then.kept ∙ first.kept;
        same = then.same ∙ first.same;
        cause = cause-ok _ (goes_further first.cause.goes then.cause.goes);
        told = found_told (g.R.Lookup.keeping c.args.from.now).told c.args.ahead c.args.deck c.in_ok-found.found c.in-Some.deck c.in_ok-queue-in-Some.queue c.in-Some.is (rw (to_z-of_z w64 c.args.deck fits) at first.told) (rw first.same at then.told);
      };
    }
