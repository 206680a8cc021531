use Rattle.ak_merge.proofs.ExchangeLaws.{device_rows_join, settled_rows_join}
use Rattle.ak_merge.proofs.exchange_laws.device_rows_join.Goals as goal

pub returns : goal.returns
returns c = record { taken = device_rows_join; settled = settled_rows_join }
