use Rattle.ak_queue.proofs.LawfulSets.{no_larger}
use Rattle.ak_queue.proofs.laws.no_larger_new_list.Goals as goal

pub returns : goal.returns
returns c = λ h day deck picked lawful. no_larger h day deck picked lawful
