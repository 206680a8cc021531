use Rattle.ak_merge.proofs.Settling.{taken_named, taken_checked, taken_single}
use Rattle.ak_merge.proofs.part_laws.takings_stay_lawful.Goals as goal

pub returns : goal.returns
returns c = record { named = taken_named; checked = taken_checked; single = taken_single }
