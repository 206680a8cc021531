use Rattle.ak_http_heads.proofs.OneReading.{one_reading}
use Rattle.ak_http_heads.proofs.laws.bytes_are_read_in_one_way.Goals as goal

pub returns : goal.returns
returns c = one_reading
