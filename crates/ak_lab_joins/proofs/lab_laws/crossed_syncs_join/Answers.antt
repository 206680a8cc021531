use Rattle.std.proofs.Common.{true, refl}
use Rattle.ak_client.specs.declared.outcomes.Outcome.TheVariants as outcomes
use Rattle.ak_lab_joins.proofs.Crossed.{finishes_crossed_fresh, sync_leaves}
use Rattle.ak_lab_joins.proofs.CrossedLab.{any_crossers_leave, sync_finishes}
use Rattle.ak_lab_joins.proofs.lab_laws.crossed_syncs_join.Goals as goal

pub returns : goal.returns
returns c = record {
  finished = λ account name s t crossed linked room ended fresh. (sync_leaves account name s t crossed outcomes.Finished linked room ended fresh).finished refl;
  others = λ account name s t crossed outcome linked room other ended fresh. (sync_leaves account name s t crossed outcome linked room ended fresh).others other;
  fresh = finishes_crossed_fresh;
  unloaded = λ account name s t crossed outcome linked order none ended.
      (order.server, sync_finishes account true name s t crossed outcome ended linked none);
  crossers = λ account name s t crossed outcome linked room level ended. any_crossers_leave account name s t crossed outcome linked room ended level;
}
