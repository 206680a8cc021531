use Rattle.std.proofs.Common.{refl}
use Rattle.ak_client.specs.declared.outcomes.Outcome.TheVariants as outcomes
use Rattle.ak_lab_joins.proofs.Ends.{run_finishes, run_keeps}
use Rattle.ak_lab_joins.proofs.lab_laws.script_syncs_join.Goals as goal

pub returns : goal.returns
returns c = record {
  finished = λ opening all name s t runs. run_finishes c.any_lines_are_steps.ensures opening all name s t outcomes.Finished runs refl;
  others = λ opening all name s t outcome runs other enough. run_keeps c.any_lines_are_steps.ensures opening all name s t outcome runs other enough;
}
