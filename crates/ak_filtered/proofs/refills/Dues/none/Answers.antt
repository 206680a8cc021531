use Rattle.ak_filtered.proofs.RefilledRows.{no_due}
use Rattle.ak_filtered.proofs.refills.Dues.none.Goals as goal

pub returns : goal.returns
returns c = no_due (record { by_card = c.new.result }) c.new.ensures.empty
