use Rattle.ak_transfer_laws.proofs.Stopping.{download_never_stopped, upload_never_stopped}
use Rattle.ak_transfer_laws.proofs.stops.transfers_are_never_stopped.Goals as goal

pub returns : goal.returns
returns g c = record {
  uploads = λ spares ids old before left was now outcome told it. upload_never_stopped spares ids old before left was now outcome told it;
  downloads = λ ids old before left was now outcome told it. download_never_stopped ids old before left was now outcome told it;
}
