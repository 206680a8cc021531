use Rattle.std.proofs.Common.{◌∙◌, ap, sym, ◌==◌}
use Rattle.std.specs.Prelude.{length}
use Rattle.csv.specs.Records.{fields_of}
use Rattle.ak_csv.proofs.Columns.{guid_missing, guid_there}
use Rattle.ak_csv.proofs.readings.is_unnamed.Goals as goal

pub returns-in-Some : goal.returns-in-Some
returns-in-Some c = c.is_empty.ensures ∙ ap (λ guid. length guid == 0) (guid_there (fields_of c.args.row.now) c.in-Some.guid.now c.in-Some.ensures.value)

pub returns-in-None : goal.returns-in-None
returns-in-None c = sym (ap (λ guid. length guid == 0) (guid_missing (fields_of c.args.row.now) c.in-None.ensures.value))
