use Rattle.ak_merge.proofs.EditBuildingLaws.{settings_are_admitted}
use Rattle.ak_merge.proofs.edit_building.settings_are_admitted.Goals as goal

pub returns : goal.returns
returns c = settings_are_admitted
