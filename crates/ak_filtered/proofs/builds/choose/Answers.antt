use Rattle.std.proofs.Common.{◌≡◌, ◌∙◌, map}
use Rattle.ak_faults.proofs.Healths.{goes_further}
use Rattle.ak_filtered.proofs.Filling.{chosen_read, few_first}
use Rattle.ak_filtered.specs.Candidates.{CardKey}
use Rattle.ak_keep.proofs.Causing.{cause-ok}
use Rattle.ak_filtered.proofs.builds.choose.Goals as goal

pub returns-clause-reads : goal.returns-clause-reads
returns-clause-reads g c = record {
  kept = c.in_ok-keys.ensures.reads.kept ∙ c.in_ok-search.ensures.reads.kept;
  same = c.in_ok-keys.ensures.reads.same ∙ c.in_ok-search.ensures.reads.same;
  cause = cause-ok _ (goes_further c.in_ok-search.ensures.reads.cause.goes c.in_ok-keys.ensures.reads.cause.goes);
  told = chosen_read (g.K.Lookup.keeping c.args.keeper.now) c.args.sieve.now c.args.planned.now c.args.day c.in_ok-search.search c.gather.new.search c.in_ok-keys.keys.keys c.in_ok-chosen.chosen c.in_ok-chosen.ensures
      c.in_ok-search.ensures.reads.told (rw c.in_ok-search.ensures.reads.same at c.in_ok-keys.ensures.reads.told);
}

pub returns-clause-few : goal.returns-clause-few
returns-clause-few g c = few_first c.args.planned.now.plan c.in_ok-chosen.chosen (map (λ (key : CardKey). key.2) c.in_ok-keys.keys.keys) c.in_ok-chosen.ensures
