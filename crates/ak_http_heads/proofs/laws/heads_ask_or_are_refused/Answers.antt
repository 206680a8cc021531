use Rattle.ak_http_heads.proofs.OneReading.{asks_or_refused, one_asked}
use Rattle.ak_http_heads.proofs.laws.heads_ask_or_are_refused.Goals as goal

pub returns-clause-some : goal.returns-clause-some
returns-clause-some c = asks_or_refused

pub returns-clause-one : goal.returns-clause-one
returns-clause-one c = one_asked
