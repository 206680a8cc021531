use Rattle.ak_merge.proofs.PartLaws.{wanted_rows_are_listed}
use Rattle.ak_merge.proofs.part_laws.wanted_rows_are_listed.Goals as goal

pub returns : goal.returns
returns c = wanted_rows_are_listed
