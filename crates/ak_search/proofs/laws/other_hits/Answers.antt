use Rattle.ak_search.proofs.Sets.{other_hits, other_term}
use Rattle.ak_search.proofs.laws.other_hits.Goals as goal

pub returns-clause-group : goal.returns-clause-group
returns-clause-group c = other_hits

pub returns-clause-term : goal.returns-clause-term
returns-clause-term c = other_term
