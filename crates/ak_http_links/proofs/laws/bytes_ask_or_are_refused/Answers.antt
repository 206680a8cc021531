use Rattle.ak_http_links.proofs.OneReading.{head_reads}
use Rattle.ak_http_links.proofs.laws.bytes_ask_or_are_refused.Goals as goal

pub returns-clause-head : goal.returns-clause-head
returns-clause-head c = head_reads
