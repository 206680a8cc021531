use Rattle.ak_session.proofs.Wanted.{parts_ascend}
use Rattle.ak_session.proofs.sync_laws.parts_ascend.Goals as goal

pub returns : goal.returns
returns c = parts_ascend
