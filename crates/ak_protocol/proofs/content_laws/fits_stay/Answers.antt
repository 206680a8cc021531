use Rattle.ak_protocol.proofs.ContentLaws.{fits_stay_served, fits_stay}
use Rattle.ak_protocol.proofs.content_laws.fits_stay.Goals as goal

pub returns : goal.returns
returns c = record { served = fits_stay_served; logs = fits_stay }
