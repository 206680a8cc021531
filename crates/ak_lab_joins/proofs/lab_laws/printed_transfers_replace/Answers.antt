use Rattle.ak_lab_joins.proofs.ScriptTransfers.{printed_downloads, printed_uploads}
use Rattle.ak_lab_joins.proofs.lab_laws.printed_transfers_replace.Goals as goal

pub returns : goal.returns
returns c = record {
  uploads = printed_uploads c.any_lines_are_steps.ensures;
  downloads = printed_downloads c.any_lines_are_steps.ensures;
}
