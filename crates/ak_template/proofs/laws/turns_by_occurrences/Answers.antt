use Rattle.ak_template.proofs.Counting.{turns_counted}
use Rattle.ak_template.proofs.laws.turns_by_occurrences.Goals as goal

pub returns : goal.returns
returns c = turns_counted
