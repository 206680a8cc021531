use Rattle.ak_search.proofs.Sets.{either_hits}
use Rattle.ak_search.proofs.laws.either_hits.Goals as goal

pub returns : goal.returns
returns c = either_hits
