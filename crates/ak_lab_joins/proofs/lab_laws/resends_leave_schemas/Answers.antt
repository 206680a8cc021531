use Rattle.ak_lab_joins.proofs.NoUploads.{resent_fresh}
use Rattle.ak_lab_joins.proofs.lab_laws.resends_leave_schemas.Goals as goal

pub returns : goal.returns
returns c = resent_fresh
