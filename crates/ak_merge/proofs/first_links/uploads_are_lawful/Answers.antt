use Rattle.ak_merge.proofs.Transfers.{uploads_are_lawful}
use Rattle.ak_merge.proofs.first_links.uploads_are_lawful.Goals as goal

pub returns : goal.returns
returns c = uploads_are_lawful
