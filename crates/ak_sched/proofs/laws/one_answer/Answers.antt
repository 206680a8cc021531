use Rattle.ak_sched.proofs.Unique.{one_answer}
use Rattle.ak_sched.proofs.laws.one_answer.Goals as goal

pub returns : goal.returns
returns c = one_answer
