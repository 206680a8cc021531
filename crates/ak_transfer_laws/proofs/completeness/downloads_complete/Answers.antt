use Rattle.ak_transfer_laws.proofs.Running.{download_faultless, download_lossy}
use Rattle.ak_transfer_laws.proofs.completeness.downloads_complete.Goals as goal

pub returns : goal.returns
returns g c = record { faultless = download_faultless; lossy = download_lossy }
