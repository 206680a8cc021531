use Rattle.ak_client.proofs.Going.{begins_finished, begins_parted, begins_unfinished, raised_rises}
use Rattle.ak_client.proofs.sync_laws.syncs_may_go_on.Goals as goal

pub returns : goal.returns
returns c = record {
  unfinished = λ who next own account old growth may timely same fresh unused. begins_unfinished who next account old growth timely same unused own may fresh;
  finished = λ who next own base account old growth left may timely same unused it.
      begins_finished who next account old growth timely same unused own base left may it;
  parted = λ who next own head account old growth may timely same unused parted. begins_parted who next account old growth timely same unused own head may parted;
  raised = raised_rises;
}
