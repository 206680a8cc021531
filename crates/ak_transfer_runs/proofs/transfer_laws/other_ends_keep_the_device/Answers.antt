use Rattle.ak_transfer_runs.specs.TransferRuns.{Downloads, Uploads}
use Rattle.ak_transfer_runs.proofs.TransferEnds.{kept, unprinted_download, unprinted_upload}
use Rattle.ak_transfer_runs.proofs.transfer_laws.other_ends_keep_the_device.Goals as goal

pub returns : goal.returns
returns g c = record {
  uploads = λ spares. kept (Uploads spares);
  downloads = kept Downloads;
  untold_upload = unprinted_upload;
  untold_download = unprinted_download;
}
