use Rattle.ak_json.proofs.RowsAgain.{own_again, rows_again}
use Rattle.ak_json.proofs.laws.rows_are_read_again.Goals as goal

pub returns-clause-own : goal.returns-clause-own
returns-clause-own c = own_again

pub returns-clause-any : goal.returns-clause-any
returns-clause-any c = rows_again
