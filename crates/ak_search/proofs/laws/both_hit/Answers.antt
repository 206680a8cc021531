use Rattle.ak_search.proofs.Sets.{both_hit}
use Rattle.ak_search.proofs.laws.both_hit.Goals as goal

pub returns : goal.returns
returns c = both_hit
