use Rattle.ak_merge.proofs.EditBuildingLaws.{removals_are_admitted}
use Rattle.ak_merge.proofs.edit_building.removals_are_admitted.Goals as goal

pub returns : goal.returns
returns c = removals_are_admitted
