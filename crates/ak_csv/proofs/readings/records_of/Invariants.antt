use Rattle.std.proofs.Common.{◌≡◌, ◌+◌, ◌++◌, map}
use Rattle.std.specs.BTreeSet.{contains_text}
use Rattle.std.specs.Prelude.{length}
use Rattle.csv.specs.Records.{fields_of}
use Rattle.ak_csv.specs.RecordRows.{record_of, rows_fault}
use Rattle.ak_csv.proofs.readings.records_of.Given as goal

-- the rows so far have no fault, and with those of the others the records so far are all
abbrev pub invariant-loop-row : goal.invariant-loop-row
invariant-loop-row l = record {
  counted : l.number + length l.row-iterator.rest.items ≡ length l.fn.rows.items;
  fault : rows_fault l.rules.fields (contains_text l.rules.others) (l.number + 1) (map fields_of l.row-iterator.rest.items)
      ≡ rows_fault l.rules.fields (contains_text l.rules.others) 1 (map fields_of l.fn.rows.items);
  records : l.records ++ map record_of (map fields_of l.row-iterator.rest.items) ≡ map record_of (map fields_of l.fn.rows.items);
}
