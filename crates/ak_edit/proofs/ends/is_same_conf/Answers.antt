use Rattle.ak_edit.proofs.Settings.{settings_decide}
use Rattle.ak_edit.proofs.ends.is_same_conf.Goals as goal

pub returns : goal.returns
returns c = settings_decide c.args.one.now c.args.other.now c.eq.result c.eq.ensures
