use Rattle.ak_lab_joins.proofs.Leading.{lines_lead, runs_lead}
use Rattle.ak_lab_joins.proofs.lab_laws.commits_lead_on.Goals as goal

pub returns : goal.returns
returns c = record { lines = lines_lead; runs = runs_lead }
