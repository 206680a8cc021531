use Rattle.ak_http_heads.proofs.Forms.{session_of_length, session_of_bytes, session_text}
use Rattle.ak_http_heads.proofs.fields.read_session.Goals as goal
use Rattle.ak_http_heads.proofs.fields.read_session.Goals.{then-value-ne16-via-then-value-ne16, then-value-ne16-via-else-value-ne16+then-not-are_lower_hex}

pub returns-then-value-ne16 : goal.returns-then-value-ne16
returns-then-value-ne16 c =
    elim c.then-value-ne16.branch [
      | then-value-ne16-via-then-value-ne16 w ↦ session_of_length _ (search w.if-value-ne16)
      | then-value-ne16-via-else-value-ne16+then-not-are_lower_hex w ↦ session_of_bytes _ (cc)
    ]

pub returns-in-Err : goal.returns-in-Err
returns-in-Err c = absurd (c.in-Err.ensures.cases.0 (session_text _ (cc)))
