use Rattle.ak_protocol.proofs.ContentLaws.{finishes_leave_schemas, uploads_give_fresh_schemas}
use Rattle.ak_protocol.proofs.content_laws.commits_give_fresh_schemas.Goals as goal

pub returns : goal.returns
returns c = record { finish = finishes_leave_schemas; upload = uploads_give_fresh_schemas }
