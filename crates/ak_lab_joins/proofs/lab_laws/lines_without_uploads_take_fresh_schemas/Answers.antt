use Rattle.ak_lab_joins.proofs.Alone.{sync_alone}
use Rattle.ak_lab_joins.proofs.Ordered.{any_sync_fresh, line_ordered, line_unloaded, run_unloaded}
use Rattle.ak_lab_joins.proofs.lab_laws.lines_without_uploads_take_fresh_schemas.Goals as goal

pub returns : goal.returns
returns c = record {
  lines = line_ordered c.any_lines_are_steps.ensures;
  syncs = λ account name s t crossed outcome linked room ordered plans ends. any_sync_fresh account name s t outcome linked room ordered (sync_alone name s t crossed outcome ends plans);
  unloaded = line_unloaded c.any_lines_are_steps.ensures;
  runs = run_unloaded c.any_lines_are_steps.ensures;
}
