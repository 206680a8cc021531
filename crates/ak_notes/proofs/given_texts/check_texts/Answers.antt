use Rattle.std.proofs.Common.{sym, ◌∙◌}
use Rattle.ak_notes.proofs.GivenTexts.{given_names, texts_none, texts_some}
use Rattle.ak_notes.proofs.given_texts.check_texts.Goals as goal

pub returns-in-None-clause-names : goal.returns-in-None-clause-names
returns-in-None-clause-names c = given_names c.args.fields.now c.args.tags.now (sym c.given_fault-found.ensures ∙ c.in-None.is)

pub returns-in-None-clause-refused : goal.returns-in-None-clause-refused
returns-in-None-clause-refused c = texts_none c.args.fields.now c.args.tags.now (sym c.given_fault-found.ensures ∙ c.in-None.is)

pub returns-in-Some-clause-refused : goal.returns-in-Some-clause-refused
returns-in-Some-clause-refused c = texts_some c.args.fields.now c.args.tags.now c.in-Some.fault (sym c.given_fault-found.ensures ∙ c.in-Some.is)
