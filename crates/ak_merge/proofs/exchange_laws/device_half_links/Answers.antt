use Rattle.ak_merge.proofs.ExchangeLaws.{device_half_links}
use Rattle.ak_merge.proofs.exchange_laws.device_half_links.Goals as goal

pub returns : goal.returns
returns c = device_half_links
