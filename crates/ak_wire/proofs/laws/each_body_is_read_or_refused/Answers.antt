use Rattle.ak_wire.proofs.EachBody.{request_or, reply_or}
use Rattle.ak_wire.proofs.laws.each_body_is_read_or_refused.Goals as goal

pub returns-clause-request : goal.returns-clause-request
returns-clause-request c = request_or

pub returns-clause-reply : goal.returns-clause-reply
returns-clause-reply c = reply_or
