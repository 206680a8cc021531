use Rattle.ak_protocol.proofs.Syncs.{metas_leave_unused}
use Rattle.ak_protocol.proofs.sync_laws.metas_leave_unused.Goals as goal

pub returns : goal.returns
returns c = λ request s old growth may u meta. metas_leave_unused request s old growth may u meta
