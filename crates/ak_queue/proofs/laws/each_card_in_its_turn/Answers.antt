use Rattle.ak_queue.proofs.Turns.{in_turn}
use Rattle.ak_queue.proofs.laws.each_card_in_its_turn.Goals as goal

pub returns-clause-next : goal.returns-clause-next
returns-clause-next c = λ limits before card. in_turn limits before card
