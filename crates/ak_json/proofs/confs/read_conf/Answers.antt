use Rattle.std.proofs.Common.{refl, rules}
use Rattle.serde_json.specs.View.{view}
use Rattle.ak_base.specs.Rests.{conf_keys}
use Rattle.ak_json.proofs.ConfRanges.{conf_in_range}
use Rattle.ak_json.proofs.Kept.{lacks_known}
use Rattle.ak_json.specs.Forms.{conf_form}
use Rattle.ak_json.proofs.confs.read_conf.Goals as goal

pub read_rest-requires : goal.read_rest-requires
read_rest-requires c = λ members. lacks_known conf_keys conf_form members refl

pub returns-clause-range : goal.returns-clause-range
returns-clause-range c = conf_in_range (view c.args.value.now) _ (search rules)
