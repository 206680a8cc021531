use Rattle.ak_json.proofs.ConfsAgain.{conf_again}
use Rattle.ak_json.proofs.laws.confs_are_read_again.Goals as goal

pub returns : goal.returns
returns c = conf_again
