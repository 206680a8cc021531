use Rattle.ak_protocol.proofs.Syncs.{tries_are_one_growth}
use Rattle.ak_protocol.proofs.sync_laws.tries_are_one_growth.Goals as goal

pub returns : goal.returns
returns c = tries_are_one_growth
