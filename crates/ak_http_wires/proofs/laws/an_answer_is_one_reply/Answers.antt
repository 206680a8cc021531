use Rattle.ak_http_wires.proofs.Readings.{one_reply}
use Rattle.ak_http_wires.proofs.laws.an_answer_is_one_reply.Goals as goal

pub returns : goal.returns
returns c = one_reply
