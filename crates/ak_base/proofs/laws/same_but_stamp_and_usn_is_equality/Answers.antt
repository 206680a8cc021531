use Rattle.ak_base.proofs.SameRows.{fields_exactly}
use Rattle.ak_base.proofs.laws.same_but_stamp_and_usn_is_equality.Goals as goal

pub returns : goal.returns
returns c = fields_exactly
