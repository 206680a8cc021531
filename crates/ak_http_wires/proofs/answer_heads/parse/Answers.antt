use Rattle.std.proofs.Common.{sym}
use Rattle.ak_http_wires.proofs.AnswerFronts.{too_many, no_length}
use Rattle.ak_http_wires.proofs.answer_heads.parse.Goals as goal

pub returns-then-response-gt-MOST_FIELDS : goal.returns-then-response-gt-MOST_FIELDS
returns-then-response-gt-MOST_FIELDS c =
    too_many c.args.bytes.now c.in-Ok-Complete.field-0-0 c.parse.new.self
    (rw c.in-Ok-Complete.field-0-is at c.in-Ok-Complete.ensures.complete) c.if-response-gt-MOST_FIELDS.true

pub returns-in-None : goal.returns-in-None
returns-in-None c =
    no_length c.args.bytes.now c.in-Ok-Complete.field-0-0 c.parse.new.self
    (rw c.in-Ok-Complete.field-0-is at c.in-Ok-Complete.ensures.complete) (sym c.in-None.ensures.length)
