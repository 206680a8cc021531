use Rattle.ak_wire.proofs.Exact.{request_one, reply_one}
use Rattle.ak_wire.proofs.laws.one_message_is_read.Goals as goal

pub returns-clause-request : goal.returns-clause-request
returns-clause-request c = request_one

pub returns-clause-reply : goal.returns-clause-reply
returns-clause-reply c = reply_one
