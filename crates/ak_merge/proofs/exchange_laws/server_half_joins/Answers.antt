use Rattle.ak_merge.proofs.ExchangeLaws.{server_half_joins}
use Rattle.ak_merge.proofs.exchange_laws.server_half_joins.Goals as goal

pub returns : goal.returns
returns c = server_half_joins
