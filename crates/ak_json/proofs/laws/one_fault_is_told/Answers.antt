use Rattle.ak_json.specs.Confs.{conf_fault}
use Rattle.ak_json.proofs.OneRow.{one_fault, one_told}
use Rattle.ak_json.proofs.laws.one_fault_is_told.Goals as goal

pub returns-clause-row : goal.returns-clause-row
returns-clause-row c = one_fault

pub returns-clause-conf : goal.returns-clause-conf
returns-clause-conf c = λ d. one_told (conf_fault d)
