use Rattle.ak_session.proofs.Accepting.{conf_decides}
use Rattle.ak_sync_rows.proofs.Checks.{decided_alike}
use Rattle.ak_sync_rows.proofs.ranges.is_conf_in_range.Goals as goal

pub returns : goal.returns
returns c = decided_alike c.is_in_range.result _ c.is_in_range.ensures (conf_decides c.args.conf.now)
