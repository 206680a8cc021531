use Rattle.std.proofs.Common.{ap}
use Rattle.std.specs.Prelude.{option_copied}
use Rattle.std.proofs.lemmas.Result.{err_from_is_err_and}
use Rattle.ak_http_heads.proofs.Fronts.{too_many, refused}
use Rattle.ak_http_heads.proofs.parses.parse.Goals as goal

pub returns-then-request-gt-MOST_FIELDS : goal.returns-then-request-gt-MOST_FIELDS
returns-then-request-gt-MOST_FIELDS c =
    too_many c.args.bytes.now c.in-Ok-Complete.field-0-0 c.parse.new.self
    (rw c.in-Ok-Complete.field-0-is at c.in-Ok-Complete.ensures.complete) c.if-request-gt-MOST_FIELDS.true

pub returns-in_err-head : goal.returns-in_err-head
returns-in_err-head c =
    let p = err_from_is_err_and c.from_residual.result c.from_residual.ensures.1 in
    rw (p.1, p.2) (refused c.args.bytes.now c.in-Ok-Complete.field-0-0 c.parse.new.self c.in_err-head.field-0.0 c.in-Some-Some.method.now c.in-Some-Some.target.now
    (rw c.in-Ok-Complete.field-0-is at c.in-Ok-Complete.ensures.complete)
    (ap option_copied c.in-Some-Some.is-0) (ap option_copied c.in-Some-Some.is-1) c.if-request-gt-MOST_FIELDS.false c.in_err-head.ensures)
