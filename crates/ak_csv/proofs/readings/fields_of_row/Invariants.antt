use Rattle.std.proofs.Common.{◌≡◌, ◌++◌, drop}
use Rattle.csv.specs.Records.{fields_of}
use Rattle.ak_csv.proofs.readings.fields_of_row.Given as goal

-- with the other columns, the fields so far are all behind guid and tags
abbrev pub invariant-loop-place : goal.invariant-loop-place
invariant-loop-place l = l.fields ++ drop l.place (fields_of l.row) ≡ drop 2 (fields_of l.row)
