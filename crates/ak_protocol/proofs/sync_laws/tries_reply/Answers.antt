use Rattle.ak_protocol.proofs.Syncs.{tries_reply}
use Rattle.ak_protocol.proofs.sync_laws.tries_reply.Goals as goal

pub returns : goal.returns
returns c = tries_reply
