use Rattle.ak_json.proofs.OneRow.{one_conf}
use Rattle.ak_json.proofs.laws.one_conf_is_read.Goals as goal

pub returns : goal.returns
returns c = one_conf
