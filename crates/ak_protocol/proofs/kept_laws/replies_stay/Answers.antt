use Rattle.ak_protocol.proofs.Kept.{replies_stay}
use Rattle.ak_protocol.proofs.kept_laws.replies_stay.Goals as goal

pub returns : goal.returns
returns c = replies_stay
