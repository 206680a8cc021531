use Rattle.ak_http_heads.proofs.OneReading.{one_head}
use Rattle.ak_http_heads.proofs.laws.heads_are_unique.Goals as goal

pub returns : goal.returns
returns c = one_head
