use Rattle.ak_template.proofs.Continuing.{at_fault}
use Rattle.ak_template.proofs.laws.faults_are_tags.Goals as goal

pub returns : goal.returns
returns c = at_fault
