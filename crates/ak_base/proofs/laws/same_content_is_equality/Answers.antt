use Rattle.ak_base.proofs.SameRows.{same_exactly}
use Rattle.ak_base.proofs.laws.same_content_is_equality.Goals as goal

pub returns : goal.returns
returns c = same_exactly
