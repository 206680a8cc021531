use Rattle.ak_lab.specs.LabStates.{at_line}
use Rattle.ak_lab_completes.proofs.Healing.{heals, parts, stays}
use Rattle.ak_lab_joins.specs.LabJoins.{committed_of}
use Rattle.ak_lab_completes.proofs.lab_completeness.next_syncs_heal.Goals as goal

pub returns : goal.returns
returns c = record {
  joined = λ account name s t u number before d again first second unfinished begins joinable ended. heals account name s t u number before d again first
      unfinished begins.alone c.other_syncs_keep_sides.ensures c.finished_syncs_join.ensures second ended
      (c.unhindered_syncs_complete.ensures.finished account name (at_line number t) u d again second begins joinable ended);
  unchanged = λ account name s t u number before d again first second unfinished begins nothing ended. stays account name s t u number before d again
      first unfinished begins.alone c.other_syncs_keep_sides.ensures nothing second ended
      (c.unhindered_syncs_complete.ensures.unchanged account name (at_line number t) u d again second begins nothing ended);
  schemas = λ account name s t u number before d again first second unfinished begins differ ended. parts account name s t u number before d again
      first unfinished begins.alone c.other_syncs_keep_sides.ensures d.head.schema (committed_of account t).head.schema second ended
      (c.unhindered_syncs_complete.ensures.schemas account name (at_line number t) u d again second begins differ ended);
}
