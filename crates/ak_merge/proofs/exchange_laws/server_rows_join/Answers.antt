use Rattle.ak_merge.proofs.ExchangeLaws.{server_rows_join}
use Rattle.ak_merge.proofs.exchange_laws.server_rows_join.Goals as goal

pub returns : goal.returns
returns c = server_rows_join
