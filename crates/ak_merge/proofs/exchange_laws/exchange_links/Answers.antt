use Rattle.ak_merge.proofs.ExchangeLaws.{exchange_links}
use Rattle.ak_merge.proofs.exchange_laws.exchange_links.Goals as goal

pub returns : goal.returns
returns c = exchange_links
