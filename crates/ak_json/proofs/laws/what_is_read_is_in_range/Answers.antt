use Rattle.ak_json.proofs.Migration.{read_passes}
use Rattle.ak_json.proofs.laws.what_is_read_is_in_range.Goals as goal

pub returns : goal.returns
returns c = read_passes
