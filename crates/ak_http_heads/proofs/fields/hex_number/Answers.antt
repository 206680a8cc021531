use Rattle.ak_http_heads.proofs.Forms.{session_read, session_not_refused}
use Rattle.ak_http_heads.proofs.fields.hex_number.Goals as goal

pub returns-in-Ok : goal.returns-in-Ok
returns-in-Ok c = session_read (Unit {0}) c.args.digits.now c.in-Ok.number c.requires.size c.requires.lower c.in-Ok.ensures.value

pub returns-in-Err : goal.returns-in-Err
returns-in-Err c =
    absurd (session_not_refused c.args.digits.now c.in-Err.field-0 c.requires.size c.requires.lower c.in-Err.ensures.value)
