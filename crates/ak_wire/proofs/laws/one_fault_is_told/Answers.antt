use Rattle.ak_wire.specs.Requests.{AskFault}
use Rattle.ak_wire.specs.Replies.{ReplyFault}
use Rattle.ak_wire.proofs.OneFault.{ask_one_fault, reply_one_fault, body_one_fault}
use Rattle.ak_wire.proofs.laws.one_fault_is_told.Goals as goal

pub returns-clause-request : goal.returns-clause-request
returns-clause-request c = λ method body. body_one_fault (AskFault method) (ask_one_fault method) body

pub returns-clause-reply : goal.returns-clause-reply
returns-clause-reply c = λ method code body. body_one_fault (ReplyFault code method) (reply_one_fault code method) body
