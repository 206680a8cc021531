use Rattle.ak_http_heads.proofs.Forms.{host_of_text}
use Rattle.ak_http_heads.proofs.fields.read_host.Goals as goal

pub returns-in-Err : goal.returns-in-Err
returns-in-Err c = host_of_text _ c.in-Err.ensures.cases.0
