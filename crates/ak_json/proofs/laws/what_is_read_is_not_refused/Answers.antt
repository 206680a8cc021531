use Rattle.ak_json.proofs.OneRow.{read_or_refused, conf_read_or_refused}
use Rattle.ak_json.proofs.laws.what_is_read_is_not_refused.Goals as goal

pub returns-clause-row : goal.returns-clause-row
returns-clause-row c = λ t d row reads fault. read_or_refused t d row fault reads

pub returns-clause-conf : goal.returns-clause-conf
returns-clause-conf c = λ d conf reads fault. conf_read_or_refused d conf fault reads
