use Rattle.std.proofs.Common.{inr}
use Rattle.std.specs.BTreeSet.{contains_text}
use Rattle.csv.specs.Records.{fields_of}
use Rattle.ak_csv.proofs.Rules.{row_of_no_text, texts_read, texts_refused}
use Rattle.ak_csv.proofs.readings.record_of.Goals as goal

pub returns-in-Ok-clause-read : goal.returns-in-Ok-clause-read
returns-in-Ok-clause-read c =
    texts_read c.args.rules.now.fields (contains_text c.args.rules.now.others) c.args.number (fields_of c.args.row) (fields_of c.in-Ok.texts)
    c.record_of_texts.result c.in-Ok.ensures.same c.in_ok-check_shape.ensures.shaped c.in-Ok.ensures.text c.record_of_texts.ensures.read

pub returns-in-Ok-clause-refused : goal.returns-in-Ok-clause-refused
returns-in-Ok-clause-refused c =
    texts_refused c.args.rules.now.fields (contains_text c.args.rules.now.others) c.args.number (fields_of c.args.row) (fields_of c.in-Ok.texts)
    c.record_of_texts.result c.in-Ok.ensures.same c.in_ok-check_shape.ensures.shaped c.in-Ok.ensures.text c.record_of_texts.ensures.refused

pub returns-clause-refused : goal.returns-clause-refused
returns-clause-refused c =
    inr (row_of_no_text c.args.rules.now.fields (contains_text c.args.rules.now.others) c.args.number (fields_of c.args.row)
    c.in_ok-check_shape.ensures.shaped (λ all. cc (c.in-Err.ensures.refused all)))
