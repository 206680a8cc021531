use Rattle.ak_http_heads.proofs.Forms.{number_of_text}
use Rattle.ak_http_heads.proofs.fields.read_decimal.Goals as goal

pub returns-in-Err-clause-number : goal.returns-in-Err-clause-number
returns-in-Err-clause-number c = number_of_text _ _ c.in-Err.ensures.cases.0
