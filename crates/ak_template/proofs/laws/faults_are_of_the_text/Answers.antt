use Rattle.ak_template.proofs.Places.{first_within}
use Rattle.ak_template.proofs.laws.faults_are_of_the_text.Goals as goal

pub returns : goal.returns
returns c = first_within
