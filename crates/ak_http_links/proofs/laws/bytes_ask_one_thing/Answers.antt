use Rattle.ak_http_links.proofs.OneReading.{one_link}
use Rattle.ak_http_links.proofs.laws.bytes_ask_one_thing.Goals as goal

pub returns : goal.returns
returns c = one_link
