use Rattle.ak_queue.proofs.LawfulSets.{new_list_lawful}
use Rattle.ak_queue.proofs.laws.the_new_list_is_lawful.Goals as goal

pub returns-clause-lawful : goal.returns-clause-lawful
returns-clause-lawful c = λ h day deck. new_list_lawful h day deck
