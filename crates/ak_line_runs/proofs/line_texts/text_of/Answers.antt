use Rattle.ak_line_runs.proofs.Texts.{no_text, text_known}
use Rattle.ak_line_runs.proofs.line_texts.text_of.Goals as goal

pub returns-in-Ok-clause-ok : goal.returns-in-Ok-clause-ok
returns-in-Ok-clause-ok c = text_known _ _ _ _ c.in-Whole.is c.as_slice.ensures c.in-Ok.ensures.cases.0 c.in-Ok.ensures.cases.1

pub returns-in-Err-clause-err : goal.returns-in-Err-clause-err
returns-in-Err-clause-err c = no_text _ _ _ c.in-Whole.is c.as_slice.ensures c.in-Err.ensures.cases.0
