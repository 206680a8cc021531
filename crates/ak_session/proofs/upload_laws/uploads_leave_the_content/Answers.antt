use Rattle.ak_session.proofs.UploadLaws.{upload_rows, upload_tags, upload_settings}
use Rattle.ak_session.proofs.upload_laws.uploads_leave_the_content.Goals as goal

pub returns : goal.returns
returns c = record { rows = upload_rows; tags = upload_tags; settings = upload_settings }
