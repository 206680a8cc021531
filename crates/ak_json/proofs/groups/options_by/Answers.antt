use Rattle.serde_json.specs.View.{view}
use Rattle.ak_json.proofs.OptionRests.{options_ignored}
use Rattle.ak_json.proofs.groups.options_by.Goals as goal

pub as_rest-requires : goal.as_rest-requires
as_rest-requires c = rw c.in_ok-members.ensures (options_ignored c.args.version (view c.args.value.now))
