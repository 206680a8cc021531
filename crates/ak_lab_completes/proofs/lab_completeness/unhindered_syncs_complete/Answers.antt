use Rattle.ak_client.specs.declared.outcomes.Outcome.TheVariants as outcomes
use Rattle.ak_lab_completes.proofs.Syncing.{ends_unlost}
use Rattle.ak_lab_joins.specs.LabJoins.{committed_of}
use Rattle.ak_lab_completes.proofs.lab_completeness.unhindered_syncs_complete.Goals as goal

pub returns : goal.returns
returns c = record {
  finished = λ account name s t d crossed outcome begins joinable ended. ends_unlost outcomes.Finished name s t crossed outcome begins.losses ended
      (c.left_alone_syncs_complete.ensures.finished account name s t d crossed outcome begins.alone joinable ended);
  unchanged = λ account name s t d crossed outcome begins nothing ended. ends_unlost outcomes.NoChanges name s t crossed outcome begins.losses ended
      (c.left_alone_syncs_complete.ensures.unchanged account name s t d crossed outcome begins.alone nothing ended);
  copies = λ account name s t d crossed outcome begins copy ended. ends_unlost outcomes.NoChanges name s t crossed outcome begins.losses ended
      (c.left_alone_syncs_complete.ensures.copies account name s t d crossed outcome begins.alone copy ended);
  schemas = λ account name s t d crossed outcome begins differ ended. ends_unlost (outcomes.FullSchema d.head.schema (committed_of account s).head.schema) name s t crossed outcome begins.losses ended
      (c.left_alone_syncs_complete.ensures.schemas account name s t d crossed outcome begins.alone differ ended);
}
