use Rattle.ak_protocol.proofs.Calls.{calls_tell}
use Rattle.ak_protocol.proofs.sync_laws.calls_tell.Goals as goal

pub returns : goal.returns
returns c = λ request s old growth may plan base u asked later reply place ok. calls_tell request s old growth may reply place u.opening plan base u asked later ok
