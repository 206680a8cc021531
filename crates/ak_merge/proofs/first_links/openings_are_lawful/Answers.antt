use Rattle.ak_merge.proofs.FirstLinks.{openings_are_lawful}
use Rattle.ak_merge.proofs.first_links.openings_are_lawful.Goals as goal

pub returns : goal.returns
returns c = openings_are_lawful
