use Rattle.std.proofs.Common.{rules, w64}
use Rattle.std.proofs.lemmas.Int.{to_z-of_z}
use mir.Val.{SFits}
use Rattle.ak_queue.specs.Scopes.{scope_seen}
use Rattle.ak_queue.proofs.AllGathered.{with_reviews_told}
use Rattle.ak_queue.proofs.gathered.gather_reviews.Goals as goal

pub returns-clause-reads : goal.returns-clause-reads
returns-clause-reads g c =
    let read = c.gather_over.ensures.reads in
    let day : SFits w64 c.args.scope.now.day.number = search rules in
    record {
      kept = read.kept;
      same = read.same;
      cause = read.cause;
      told = with_reviews_told (g.R.Lookup.keeping c.args.from.now).told c.gather_over.result (scope_seen c.args.scope.now) _ c.args.gathered.now c.gather_over.new.gathered (to_z-of_z w64 c.args.scope.now.day.number day)
          (rw c.over-reviews.ensures at read.told);
    }
