use Rattle.ak_merge.proofs.FirstLinks.{fresh_schemas_link}
use Rattle.ak_merge.proofs.first_links.fresh_schemas_link.Goals as goal

pub returns : goal.returns
returns c = fresh_schemas_link
