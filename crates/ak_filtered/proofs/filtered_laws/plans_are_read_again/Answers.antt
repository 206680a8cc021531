use Rattle.ak_filtered.proofs.PlanTexts.{text_read_again}
use Rattle.ak_filtered.proofs.filtered_laws.plans_are_read_again.Goals as goal

pub returns : goal.returns
returns c = text_read_again
