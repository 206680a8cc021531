use Rattle.std.proofs.Common.{sym}
use Rattle.csv.specs.Records.{fields_of}
use Rattle.ak_csv.proofs.Columns.{column_missing, column_there}
use Rattle.ak_csv.proofs.readings.column.Goals as goal

pub returns-in-Some : goal.returns-in-Some
returns-in-Some c = column_there (fields_of c.args.row.now) c.args.place c.in-Some.column.now c.in-Some.ensures.value

pub returns-in-None : goal.returns-in-None
returns-in-None c = sym (column_missing (fields_of c.args.row.now) c.args.place c.in-None.ensures.value)
