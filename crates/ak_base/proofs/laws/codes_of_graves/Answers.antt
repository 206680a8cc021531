use Rattle.ak_base.proofs.Burials.{codes_exactly, coded_table, coded_buried}
use Rattle.ak_base.proofs.laws.codes_of_graves.Goals as goal

pub returns-clause-inverse : goal.returns-clause-inverse
returns-clause-inverse c = codes_exactly

pub returns-clause-table : goal.returns-clause-table
returns-clause-table c = coded_table

pub returns-clause-buried : goal.returns-clause-buried
returns-clause-buried c = coded_buried
