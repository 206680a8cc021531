use Rattle.ak_queue.proofs.Sorting.{new_ascends, new_whole}
use Rattle.ak_queue.proofs.laws.new_cards_ascend.Goals as goal

pub returns-clause-ascend : goal.returns-clause-ascend
returns-clause-ascend c = λ keys. new_ascends keys

pub returns-clause-whole : goal.returns-clause-whole
returns-clause-whole c = λ p keys. new_whole p keys
