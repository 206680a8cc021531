use Rattle.ak_client.specs.declared.outcomes.Outcome.TheVariants as outcomes
use Rattle.ak_lab.specs.LabStates.{at_line}
use Rattle.ak_lab_completes.proofs.Printing.{line_prints}
use Rattle.ak_lab_joins.specs.LabJoins.{committed_of}
use Rattle.ak_lab_completes.proofs.lab_completeness.unhindered_syncs_print.Goals as goal

pub returns : goal.returns
returns c = record {
  finished = λ account name number s t d printed begins joinable accepts. line_prints outcomes.Finished name number s t printed begins.alone.goes.plans
      (λ crossed outcome ended. c.unhindered_syncs_complete.ensures.finished account name (at_line number s) t d crossed outcome begins joinable ended) accepts;
  unchanged = λ account name number s t d printed begins nothing accepts. line_prints outcomes.NoChanges name number s t printed begins.alone.goes.plans
      (λ crossed outcome ended. c.unhindered_syncs_complete.ensures.unchanged account name (at_line number s) t d crossed outcome begins nothing ended) accepts;
  schemas = λ account name number s t d printed begins differ accepts. line_prints (outcomes.FullSchema d.head.schema (committed_of account s).head.schema) name number s t printed begins.alone.goes.plans
      (λ crossed outcome ended. c.unhindered_syncs_complete.ensures.schemas account name (at_line number s) t d crossed outcome begins differ ended) accepts;
}
