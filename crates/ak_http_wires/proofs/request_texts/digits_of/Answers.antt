use Rattle.ak_http_heads.proofs.Forms.{session_text}
use Rattle.ak_http_wires.proofs.request_texts.digits_of.Goals as goal

pub unreachable-requires : goal.unreachable-requires
unreachable-requires c = c.in-Err.ensures.cases.0 (session_text c.args.key.now.digits c.args.key.now.lower_hex)
