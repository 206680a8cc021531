use Rattle.ak_merge.proofs.Transfers.{uploads_link, uploads_fit}
use Rattle.ak_merge.proofs.first_links.uploads_keep_links.Goals as goal

pub returns : goal.returns
returns c = record { linked = uploads_link; fits = uploads_fit }
