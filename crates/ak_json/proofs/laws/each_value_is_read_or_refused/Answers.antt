use Rattle.ak_json.proofs.EachValue.{each_value, each_conf}
use Rattle.ak_json.proofs.Orderly.{read_orderly}
use Rattle.ak_json.proofs.laws.each_value_is_read_or_refused.Goals as goal

pub returns-clause-row : goal.returns-clause-row
returns-clause-row c = λ t d of. each_value t d (read_orderly of.0 d of.1)

pub returns-clause-conf : goal.returns-clause-conf
returns-clause-conf c = λ d of. each_conf d (read_orderly of.0 d of.1)
