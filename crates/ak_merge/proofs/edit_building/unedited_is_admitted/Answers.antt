use Rattle.ak_merge.proofs.EditBuildingLaws.{unedited_is_admitted}
use Rattle.ak_merge.proofs.edit_building.unedited_is_admitted.Goals as goal

pub returns : goal.returns
returns c = unedited_is_admitted
