use Rattle.ak_queue.proofs.Sorting.{due_ascends, due_whole}
use Rattle.ak_queue.proofs.laws.lists_ascend.Goals as goal

pub returns-clause-ascend : goal.returns-clause-ascend
returns-clause-ascend c = λ keys. due_ascends keys

pub returns-clause-whole : goal.returns-clause-whole
returns-clause-whole c = λ p keys. due_whole p keys
