use Rattle.ak_sched.proofs.Buttons.{good_above_hard, easy_above_good}
use Rattle.ak_sched.proofs.laws.order_of_buttons.Goals as goal

pub returns : goal.returns
returns c = record { good = good_above_hard; easy = easy_above_good }
