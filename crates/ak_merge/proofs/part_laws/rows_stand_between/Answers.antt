use Rattle.ak_merge.proofs.PartLaws.{rows_stand_between}
use Rattle.ak_merge.proofs.part_laws.rows_stand_between.Goals as goal

pub returns : goal.returns
returns c = rows_stand_between
