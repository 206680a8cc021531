use Rattle.std.proofs.Common.{◌∙◌, ap, inr, refl, sym}
use Rattle.std.specs.BTreeSet.{contains_text}
use Rattle.csv.specs.Records.{fields_of}
use Rattle.ak_csv.proofs.Columns.{guid_first}
use Rattle.ak_csv.proofs.readings.record_of_texts.Goals as goal

pub returns-then-contains-clause-refused : goal.returns-then-contains-clause-refused
returns-then-contains-clause-refused c =
    let guid = sym (guid_first (fields_of c.args.row.now)) ∙ sym c.column-guid.ensures in
    inr (ap (contains_text c.args.rules.now.others) guid ∙ sym c.contains.ensures ∙ c.if-contains.true, refl)
