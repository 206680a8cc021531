use Rattle.ak_protocol.proofs.Syncs.{events_leave_unused}
use Rattle.ak_protocol.proofs.sync_laws.events_leave_unused.Goals as goal

pub returns : goal.returns
returns c = events_leave_unused
