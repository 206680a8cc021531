use Rattle.ak_merge.proofs.EditBuildingLaws.{puts_are_admitted}
use Rattle.ak_merge.proofs.edit_building.puts_are_admitted.Goals as goal

pub returns : goal.returns
returns c = puts_are_admitted
