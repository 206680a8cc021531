use Rattle.ak_lab_joins.proofs.ScriptTransfers.{script_downloads, script_keeps, script_uploads}
use Rattle.ak_lab_joins.proofs.lab_laws.script_transfers_replace.Goals as goal

pub returns : goal.returns
returns c = record {
  uploads = λ opening all name s t printed opens room goes ends. script_uploads c.any_lines_are_steps.ensures opening all name s t printed opens room goes ends;
  downloads = λ opening all name s t printed opens room goes ends. script_downloads c.any_lines_are_steps.ensures opening all name s t printed opens room goes ends;
  others = λ opening all name s t printed opens room goes direction outcome other ends. script_keeps c.any_lines_are_steps.ensures opening all name s t printed opens room goes direction
      outcome other ends;
}
