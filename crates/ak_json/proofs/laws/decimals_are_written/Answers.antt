use Rattle.ak_json.proofs.DecimalTexts.{factor_again, decimal_shortest}
use Rattle.ak_json.proofs.laws.decimals_are_written.Goals as goal

pub returns-clause-again : goal.returns-clause-again
returns-clause-again c = factor_again

pub returns-clause-shortest : goal.returns-clause-shortest
returns-clause-shortest c = decimal_shortest
