use Rattle.ak_client.specs.declared.outcomes.Outcome.TheVariants as outcomes
use Rattle.ak_lab_joins.proofs.Alone.{transfer_alone}
use Rattle.ak_lab_joins.proofs.Transfers.{downloads, uploads}
use Rattle.ak_lab_lines.specs.declared.lab_lines.Direction.TheVariants as directions
use Rattle.ak_lab_joins.proofs.lab_laws.finished_transfers_replace.Goals as goal

pub returns : goal.returns
returns c = record {
  upload = λ account name s t linked room ends. uploads account name s t linked room
      (transfer_alone directions.Upload name s t outcomes.Finished ends);
  download = λ account name s t linked room ends. downloads account name s t linked room
      (transfer_alone directions.Download name s t outcomes.Finished ends);
}
