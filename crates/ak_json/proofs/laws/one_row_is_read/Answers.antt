use Rattle.ak_json.proofs.OneRow.{one_row_read}
use Rattle.ak_json.proofs.laws.one_row_is_read.Goals as goal

pub returns : goal.returns
returns c = one_row_read
