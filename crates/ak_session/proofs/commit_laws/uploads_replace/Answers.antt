use Rattle.ak_session.proofs.CommitLaws.{uploads_replace, uploads_in_range, upload_moments, upload_schemas}
use Rattle.ak_session.proofs.commit_laws.uploads_replace.Goals as goal

pub returns : goal.returns
returns c = record { uploads = uploads_replace; in_range = uploads_in_range; moment = upload_moments; schema = upload_schemas }
