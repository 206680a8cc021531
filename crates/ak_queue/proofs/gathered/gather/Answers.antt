use Rattle.std.proofs.Common.{◌∙◌, rules, w64}
use Rattle.std.proofs.lemmas.Int.{to_z-of_z}
use mir.Val.{SFits}
use Rattle.ak_faults.proofs.Healths.{goes_further}
use Rattle.ak_keep.proofs.Causing.{cause-ok}
use Rattle.ak_queue.specs.Scopes.{scope_seen}
use Rattle.ak_queue.proofs.AllGathered.{but_reviews_told}
use Rattle.ak_queue.proofs.gathered.gather.Goals as goal

pub returns : goal.returns
returns g c =
    let s = scope_seen c.args.scope.now in
    let one = c.gather_over.ensures.reads in
    let two = c.gather_over-2.ensures.reads in
    let three = c.gather_over-3.ensures.reads in
    let day : SFits w64 c.args.scope.now.day.number = search rules in
    record {
      most = c.in_ok-gather_over-3.ensures.most ∙ c.in_ok-gather_over-2.ensures.most ∙ c.in_ok-gather_over.ensures.most ∙ c.new-gathered.ensures.most;
      reads = record {
        kept = three.kept ∙ two.kept ∙ one.kept;
        same = three.same ∙ two.same ∙ one.same;
        cause = cause-ok c.gather_over-3.new.gathered (goes_further (goes_further one.cause.goes two.cause.goes) three.cause.goes);
        told = but_reviews_told (g.R.Lookup.keeping c.args.from.now).told s c.args.most c.last_learning.result _ c.new-gathered.result c.gather_over.new.gathered c.gather_over-2.new.gathered c.gather_over-3.new.gathered
            (to_z-of_z w64 c.args.scope.now.day.number day) c.new-gathered.ensures c.last_learning.ensures
            (rw c.over-learning.ensures at c.in_ok-gather_over.ensures.reads.told)
            (rw c.over-over_days.ensures at (rw one.same at c.in_ok-gather_over-2.ensures.reads.told))
            (rw c.over.ensures at (rw (two.same ∙ one.same) at c.in_ok-gather_over-3.ensures.reads.told));
      };
    }
