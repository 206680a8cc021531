use Rattle.ak_wire.proofs.ReadOnly.{request_only, reply_only}
use Rattle.ak_wire.proofs.laws.what_is_read_is_not_refused.Goals as goal

pub returns-clause-request : goal.returns-clause-request
returns-clause-request c = request_only

pub returns-clause-reply : goal.returns-clause-reply
returns-clause-reply c = reply_only
